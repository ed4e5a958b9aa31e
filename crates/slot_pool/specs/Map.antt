-- A pool as a finite map from the slots in use to their counts and bytes.
use Rattle.std.specs.Prelude.{◌≡◌, ℕ, zero, suc, List, [], ◌∷◌, Option, Some, None}
use Rattle.std.specs.FinMap.{FinMap, from_entries}
use Rattle.std.specs.Ordering.{nat_cmp}
use Rattle.slot_pool.specs.Held.{Held, count_at, bytes_at}

-- h, if the count n isn't 0
abbrev pub if_used : ℕ → Held → Option Held
if_used zero h = None
if_used (suc n) h = Some h

-- h, if there is a reference to it
abbrev pub in_use : Held → Option Held
in_use h = if_used h.count h

-- an entry for the slot s, if there is one, and then the entries es
abbrev pub with_entry : ℕ → Option Held → List (ℕ × Held) → List (ℕ × Held)
with_entry s None es = es
with_entry s (Some h) es = (s, h) ∷ es

-- the entries of slots that are numbered from s on
abbrev pub entries_from : ℕ → List Held → List (ℕ × Held)
entries_from s [] = []
entries_from s (h ∷ hs) = with_entry s (in_use h) (entries_from (suc s) hs)

-- the map from each slot in use to what it holds
abbrev pub as_map : List Held → FinMap nat_cmp Held
as_map p = from_entries (entries_from 0 p)

-- a slot without a reference shows no bytes
pub record ShowsUsed (p : List Held) : Type 0 where
  pub unused : (s : ℕ) → count_at p s ≡ 0 → bytes_at p s ≡ []

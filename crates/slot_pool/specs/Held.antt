-- What a contract sees of a pool: the list of what each slot holds. A reference is the number of its slot.
use Rattle.std.specs.Prelude.{◌≡◌, ℕ, zero, suc, ◌+◌, ◌-◌, ◌<◌, List, [], ◌∷◌, length, take, drop, slice_index_or}
use Rattle.std.specs.Prelude.{slice_set, All, refl}
use Rattle.std.specs.Coded.{Coded, code_by, coded×, coded_list, coded_ℕ}

-- what a slot holds: the number of references to it, and its bytes
pub record Held : Type 0 where
  pub count : ℕ
  pub bytes : List ℕ

-- n references to the bytes bs
abbrev pub held_bytes : ℕ → List ℕ → Held
held_bytes n bs = record { count = n; bytes = bs }

-- an unused slot has no reference, and shows no bytes
abbrev pub unused : Held
unused = held_bytes 0 []

-- n references to the bytes bs, or an unused slot if n is 0
abbrev pub held_if : ℕ → List ℕ → Held
held_if zero bs = unused
held_if (suc n) bs = held_bytes (suc n) bs

-- what the slot s of the pool p holds, where a slot that p doesn't have counts as unused
abbrev pub held_at : List Held → ℕ → Held
held_at p s = slice_index_or p s unused

-- the number of references to the slot s
abbrev pub count_at : List Held → ℕ → ℕ
count_at p s = (held_at p s).count

-- the bytes of the slot s
abbrev pub bytes_at : List Held → ℕ → List ℕ
bytes_at p s = (held_at p s).bytes

-- h with one reference fewer
abbrev pub one_less : Held → Held
one_less h = held_if (h.count - 1) h.bytes

-- the len bytes from the place from on
abbrev pub range : ℕ → ℕ → List ℕ → List ℕ
range from len bs = take len (drop from bs)

-- 1 if the count n is 0, and else 0
abbrev pub free_by : ℕ → ℕ
free_by zero = 1
free_by (suc n) = 0

-- how many slots are unused
abbrev pub spare : List Held → ℕ
spare [] = 0
spare (h ∷ hs) = free_by h.count + spare hs

-- each slot has a reference
abbrev pub IsFull : List Held → Type 0
IsFull p = All (λ h. 0 < h.count) p

-- the pool q is p with a first reference to the bytes bs, in the slot s, which was unused
pub record Puts (p q : List Held) (bs : List ℕ) (s : ℕ) : Type 0 where
  pub within : s < length p
  pub free : count_at p s ≡ 0
  pub holds : q ≡ slice_set p s (held_bytes 1 bs)

-- how a proof stores a pool's value
abbrev pub held_code : Coded (List Held)
held_code = coded_list
    (code_by (ℕ × List ℕ) (coded× coded_ℕ (coded_list coded_ℕ)) (λ h. (h.count, h.bytes)) (λ p. held_bytes p.0 p.1)
    (λ _. refl))

-- Headers of a plan, laid out: whole but for the fields that the plan leaves variable, which are filled in as they are
-- read.
use Rattle.std.specs.Prelude.{ℕ, suc, ◌+◌, ◌<◌, ◌≤◌, Bool, true, false, if◌then◌else◌, List, [], ◌∷◌, ◌++◌, length}
use Rattle.std.specs.Prelude.{take, drop, flat_map, slice_set, Option, Some, None, option_map}
use Rattle.std.specs.List.{AllByRecursion}
use Rattle.msg_core.specs.Headers.{most_fields}
use Rattle.msg_core.specs.declared.message.Header.{Header}
use Rattle.packet_mean.specs.Plan.{variable}
use Rattle.packet_mean.specs.Reading.{Reader, ◌>>=◌, value_reader, planned_fields}

-- A header of which a field is variable: its place, its tag, and its fields as planned.
pub record LooseTree : Type 0 where
  pub place : ℕ
  pub tag : ℕ
  pub own : List (Option ℕ)

-- Whether a field is variable.
abbrev pub is_loose : List (Option ℕ) → Bool
is_loose [] = false
is_loose (Some constant ∷ planned) = is_loose planned
is_loose (None ∷ planned) = true

-- The header at a place, if a field of it is variable.
abbrev pub loose_at : (place tag : ℕ) (own : List (Option ℕ)) → List LooseTree
loose_at place tag own = if is_loose own then record { place = place; tag = tag; own = own } ∷ [] else []

-- Those of the headers from a place on that have a variable field.
abbrev pub loose_from : (place : ℕ) (planned : List (Option ℕ)) → List Header → List LooseTree
loose_from place planned [] = []
loose_from place planned (h ∷ hs) =
    loose_at place h.tag (take (length h.fields) planned) ++
    loose_from (suc place) (drop (length h.fields) planned) hs

-- One of them with these fields.
abbrev pub header_with : LooseTree → List ℕ → Header
header_with l own = record { layer = l.place; tag = l.tag; fields = own }

-- Their fields are read, and filled into headers; and the variable ones are put after those that are kept.
abbrev pub filled : List LooseTree → (headers : List Header) (kept : List ℕ) → Reader (List Header × List ℕ)
filled [] headers kept = value_reader (headers, kept)
filled (l ∷ ls) headers kept = do
  own ← planned_fields l.own
  filled ls (slice_set headers l.place (header_with l own)) (kept ++ variable l.own own)

-- Headers that were read, and of their fields those that are planned as variable.
abbrev pub with_variable : List (Option ℕ) → Option (List Header × List ℕ) → Option ((List Header × List ℕ) × List ℕ)
with_variable planned read = option_map (λ q. ((q.0, variable planned (flat_map (λ h. h.fields) q.0)), q.1)) read

-- Numbers that were read, before those that are still read.
abbrev pub own_front : (front : List ℕ) → Option (List ℕ × List ℕ) → Option (List ℕ × List ℕ)
own_front front read = option_map (λ q. (front ++ q.0, q.1)) read

-- A loose header stands among n, and has no more fields than a header has.
abbrev pub IsWithin : (count : ℕ) → LooseTree → Type 0
IsWithin count l = (l.place < count) × (length l.own ≤ most_fields)

-- How many fields loose headers have.
abbrev pub all_own : List LooseTree → ℕ
all_own [] = 0
all_own (l ∷ ls) = length l.own + all_own ls

-- Each loose header stands so among `count`, and together they have at most `most` fields.
pub record HasRoom (most count : ℕ) (ls : List LooseTree) : Type 0 where
  pub all : AllByRecursion (IsWithin count) ls
  pub room : all_own ls ≤ most

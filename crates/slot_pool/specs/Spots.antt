-- How the places of a pool show their bodies: a short one lies in its place, and a long one elsewhere.
use Rattle.std.specs.Prelude.{◌≡◌, ℕ, ◌^◌, ◌<◌, ◌≤◌, List, [], ◌∷◌, ◌++◌, length, take, slice_index_or, slice_set}
use Rattle.std.specs.Prelude.{nat_lt, if◌then◌else◌, refl}
use Rattle.std.specs.Coded.{Coded, code_by, coded×, coded_list, coded_ℕ}
use Rattle.raw_block.specs.Run.{Run, run}
use Rattle.slot_pool.specs.declared.slot_record.TheConstants.{SHORT}
use Rattle.slot_pool.specs.declared.slot_record.SlotRecord.{SlotRecord}

-- a place with its bytes: a free one with the free one after it, or a count and a body of len bytes
pub record Spot : Type 0 where
  pub count : ℕ
  pub next : ℕ
  pub len : ℕ
  pub bytes : List ℕ

-- what stands for a place that a list doesn't have
abbrev pub no_spot : Spot
no_spot = record { count = 0; next = 0; len = 0; bytes = [] }

-- the i-th place
abbrev pub spot_at : List Spot → ℕ → Spot
spot_at ps i = slice_index_or ps i no_spot

-- a place, with the bytes that are there for a long body
abbrev pub spot : SlotRecord → List ℕ → Spot
spot p long = record {
  count = p.count;
  next = p.next;
  len = p.len;
  bytes =
      if nat_lt SHORT p.len then long else p.bytes;
}

-- the places, each with the bytes at its number among those for long bodies, which are as many or fewer
abbrev pub joined_spots : List SlotRecord → List (List ℕ) → List Spot
joined_spots [] ls = []
joined_spots (p ∷ ps) [] = spot p [] ∷ joined_spots ps []
joined_spots (p ∷ ps) (l ∷ ls) = spot p l ∷ joined_spots ps ls

abbrev pub no_place : SlotRecord
no_place = record { count = 0; next = 0; len = 0; bytes = [] }

abbrev pub place_at : List SlotRecord → ℕ → SlotRecord
place_at ps i = slice_index_or ps i no_place

-- in blocks for n places and m long bodies, where a body is long there is room for it
pub record ArePlaces (ps : List SlotRecord) (ls : List (List ℕ)) (n m : ℕ) : Type 0 where
  pub few : n < 2 ^ 32
  pub same : m ≡ n
  pub within : length ps ≤ n
  pub fewer : length ls ≤ length ps
  pub long : (i : ℕ) → i < length ps → SHORT < (place_at ps i).len → i < length ls

-- the spot's one reference is to these bytes
pub record HoldsOne (s : Spot) (bs : List ℕ) : Type 0 where
  pub one : s.count ≡ 1
  pub sized : s.len ≡ length bs
  pub body : take (length bs) s.bytes ≡ bs

-- the i-th place has one reference now, to these bytes
pub record Sets (old new : Run Spot) (i : ℕ) (bs : List ℕ) : Type 0 where
  pub holds : HoldsOne (spot_at new.values i) bs
  pub rest : new ≡ run (slice_set old.values i (spot_at new.values i)) old.capacity

-- one place more, with one reference, to these bytes
pub record Adds (old new : Run Spot) (bs : List ℕ) : Type 0 where
  pub holds : HoldsOne (spot_at new.values (length old.values)) bs
  pub rest : new ≡ run (old.values ++ spot_at new.values (length old.values) ∷ []) old.capacity

-- there are values up to the number i, the first of them those that there were before
pub record Reaches (old new : Run (List ℕ)) (i : ℕ) : Type 0 where
  pub more : List (List ℕ)
  pub values : new.values ≡ old.values ++ more
  pub reached : i < length new.values
  pub fewer : (k : ℕ) → length old.values ≤ k → i < k → length new.values ≤ k
  pub capacity : new.capacity ≡ old.capacity

-- values were put after others, and there are `at` of them now, for one of the number i
pub record Grows (old new : Run (List ℕ)) (i at : ℕ) : Type 0 where
  pub more : List (List ℕ)
  pub is : new ≡ run (old.values ++ more) old.capacity
  pub count : length new.values ≡ at
  pub fewer : (k : ℕ) → length old.values ≤ k → i < k → at ≤ k

-- how a proof stores a place
abbrev pub spot_code : Coded Spot
spot_code = code_by (ℕ × (ℕ × (ℕ × List ℕ))) (coded× coded_ℕ (coded× coded_ℕ (coded× coded_ℕ (coded_list coded_ℕ))))
    (λ s. (s.count, (s.next, (s.len, s.bytes))))
    (λ p. record { count = p.0; next = p.1.0; len = p.1.1.0; bytes = p.1.1.1 }) (λ _. refl)

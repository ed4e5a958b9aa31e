-- How the places of a pool show its slots, and what holds of them.
use Rattle.std.specs.Prelude.{◌≡◌, ℕ, ◌-◌, ◌^◌, ◌<◌, ◌≤◌, List, [], ◌∷◌, ◌++◌, map, length, take, replicate, All}
use Rattle.slot_pool.specs.Held.{Held, held_if, unused, free_by}
use Rattle.slot_pool.specs.Times.{times}
use Rattle.slot_pool.specs.Spots.{Spot, spot_at}
use Rattle.slot_pool.specs.declared.slot_record.TheConstants.{LONGEST}

-- what the slot of a place holds
abbrev pub shown_place : Spot → Held
shown_place p = held_if p.count (take p.len p.bytes)

-- n slots: those of the places ps, and the others, which were never used
abbrev pub shown_slots : List Spot → ℕ → List Held
shown_slots ps n = map shown_place ps ++ replicate (n - length ps) unused

-- the places fs are linked in their order, from at on, and the last one's link is n
abbrev pub Linked : List Spot → ℕ → ℕ → List ℕ → Type 0
Linked ps n at [] = at ≡ n
Linked ps n at (f ∷ fs) = (at ≡ f) × (f < length ps) × Linked ps n (spot_at ps f).next fs

-- among n places each place without a reference stands once in the list from first on, and no other place does
pub record IsPool (ps : List Spot) (n first : ℕ) : Type 0 where
  pub few : n < 2 ^ 32
  pub room : length ps ≤ n
  pub sized : All (λ p. p.len ≤ LONGEST) ps
  pub free : List ℕ
  pub linked : Linked ps n first free
  pub once : (i : ℕ) → i < length ps → times i free ≡ free_by (spot_at ps i).count

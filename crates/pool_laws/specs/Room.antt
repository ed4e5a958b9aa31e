-- Room in a member's pool: a slot for each row with a message, one for the body of an event, and one for each join of a
-- run.
use Rattle.std.specs.Prelude.{◌≡◌, ℕ, ◌+◌, ◌≤◌, List, [], ◌∷◌, ◌++◌, map, length, Ok}
use Rattle.std.specs.List.{flat_map, AllByRecursion}
use Rattle.slot_pool.specs.Held.{Held, spare, IsFull, Puts}
use Rattle.slot_pool.specs.References.{Exact, Covers}
use Rattle.layer_mean.specs.Tree.{LayerTree}
use Rattle.layer_mean.specs.State.{State}
use Rattle.stack_mean.specs.Acceptance.{rows_of, most_rows, largest_weight, largest_joins, weight_limit, joins_limit}
use Rattle.stack_mean.specs.Acceptance.{acceptance}
use Rattle.chain_laws.specs.Runs.{AreChainedStates}
use Rattle.layer_stage.specs.Room.{CountsWithin}
use Rattle.stack_queue.specs.Stages.{most_at_first}
use Rattle.pool_laws.specs.Rows.{AreWithin}

-- The slots that a pool has beyond one for each row: one for the body of the event that begins a run, and one for each
-- of its joins.
abbrev pub slots_beyond : ℕ
slots_beyond = 1025

-- These are all references of a pool that is made for `rows` rows, and no more than the rows.
pub record IsPoolFor (rows : ℕ) (p : List Held) (xs : List ℕ) : Type 0 where
  pub exact : Exact p xs
  pub few : length xs ≤ rows
  pub slots : length p ≡ rows + slots_beyond
  pub within : rows ≤ most_rows

-- A member's stages are a pool's only users: they are in order in it and have all its references, their states are
-- those of a view of at most n members, and it is made for as many rows with messages as the stack then keeps.
pub record OwnPool {S : Type 0} (refs : S → List ℕ) (state : List Held → S → State) (Ready : List Held → S → Type 0)
    (stack : List LayerTree) (most : ℕ) (p : List Held) (stages : List S) : Type 0 where
  pub ready : AllByRecursion (Ready p) stages
  pub chained : AreChainedStates stack (map (state p) stages)
  pub members : AreWithin most (map (state p) stages)
  pub exact : Exact p (flat_map refs stages)
  pub slots : length p ≡ rows_of stack most + slots_beyond
  pub within : rows_of stack most ≤ most_rows

-- A run that begins with these references and no others finds a slot for each of its joins, and no slot has too many
-- references.
pub record HasRoom (p : List Held) (xs : List ℕ) : Type 0 where
  pub exact : Exact p xs
  pub covers : Covers p xs
  pub joins : joins_limit ≤ spare p
  pub counts : CountsWithin most_at_first p

-- Such a pool isn't full; it has room for a run that begins without a body and, once the body is put, for one that
-- begins with a body. (What the run's event refers to stands after the other references.)
abbrev pub NotFull : Type 0
NotFull = (rows : ℕ) (p : List Held) (xs : List ℕ) → IsPoolFor rows p xs → IsFull p → ⊥

abbrev pub RoomAtFirst : Type 0
RoomAtFirst = (rows : ℕ) (p : List Held) (xs : List ℕ) → IsPoolFor rows p xs → HasRoom p (xs ++ [])

abbrev pub RoomAfterPut : Type 0
RoomAfterPut = (rows : ℕ) (p q : List Held) (xs body : List ℕ) (s : ℕ) → IsPoolFor rows p xs → Puts p q body s →
    HasRoom q (xs ++ s ∷ [])

-- What an accepted stack's entries weigh and join at most is within the limits.
abbrev pub AcceptedIsLight : Type 0
AcceptedIsLight = (stack : List LayerTree) → acceptance stack ≡ Ok stack → (largest_weight stack ≤ weight_limit) ×
    (largest_joins stack ≤ joins_limit)

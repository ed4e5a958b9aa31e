-- What is said of a layer whose own cells a caller changes.
use Rattle.std.specs.Prelude.{◌≡◌, ℕ, ◌+◌, ◌-◌, true, List, [], ◌∷◌, length, take, Option, Some, None}
use Rattle.slot_pool.specs.Held.{Held}
use Rattle.slot_pool.specs.Times.{times}
use Rattle.msg_core.specs.Chain.{Content}
use Rattle.layer_mean.specs.State.{State, number_at, with_number, has_room, rows_at, row_at, with_rows, with_row}
use Rattle.layer_mean.specs.State.{without_front}
use Rattle.layer_mean.specs.declared.run.Row.{Row}
use Rattle.cell_store.specs.Kept.{kept_capacity}
use Rattle.pool_message.specs.Seen.{LiesIf, row_refs}
use Rattle.pool_message.specs.declared.message.PoolMessage.{PoolMessage}
use Rattle.pool_message.specs.declared.row.PoolRow.{PoolRow}
use Rattle.live_layer.specs.Fits.{IsShortIf}
use Rattle.live_layer.specs.Layer.{place_of, tree_of, state_in, most_of, taken_by}
use Rattle.live_layer.specs.declared.layer.FileLayer.{FileLayer}

-- The last row of queue i of cell c, where there is one; a state without it, and one with a row before those of a
-- queue.
abbrev pub last_row_at : State → ℕ → ℕ → Option Row
last_row_at s c i = row_at s c i (length (rows_at s c i) - 1)

abbrev pub without_back : State → ℕ → ℕ → State
without_back s c i = with_rows s c i (take (length (rows_at s c i) - 1) (rows_at s c i))

abbrev pub with_front_row : State → ℕ → ℕ → Row → State
with_front_row s c i row = with_rows s c i (row ∷ rows_at s c i)

-- The message of a row, where there is a row and it has one.
abbrev pub message_if : Option Row → Option Content
message_if None = None
message_if (Some row) = row.message

-- How many rows each queue of a cell keeps.
unfoldable pub capacity_at : FileLayer → ℕ → ℕ
capacity_at s c = kept_capacity s.desk.cells c

-- Queue i of cell c is there, and has fewer rows than it keeps.
abbrev pub HasRoom : FileLayer → ℕ → ℕ → Type 0
HasRoom s c i = (p : List Held) → has_room (state_in p s) c i (capacity_at s c) ≡ true

-- A row may have this message, or none: it lies in the pool, and has no more headers than there are places above a
-- layer.
pub record CanBeOwn (p : List Held) (m : Option PoolMessage) : Type 0 where
  pub lies : LiesIf p m
  pub short : IsShortIf m

-- The references of a row, if there is one.
abbrev pub row_refs_if : Option PoolRow → List ℕ
row_refs_if None = []
row_refs_if (Some row) = row_refs row

-- All references are these and the rest, in any order.
pub record AreTogether (all some rest : List ℕ) : Type 0 where
  pub times : (i : ℕ) → times i all ≡ times i some + times i rest

-- A layer is as it was but for its numbers and rows.
pub record IsAsBefore (old new : FileLayer) : Type 0 where
  pub place : place_of new ≡ place_of old
  pub tree : tree_of new ≡ tree_of old
  pub most : most_of new ≡ most_of old
  pub taken : taken_by new ≡ taken_by old
  pub capacity : (c : ℕ) → capacity_at new c ≡ capacity_at old c

-- Setting a number back to what it was, putting a taken row back in front, and taking back a row that was pushed each
-- leave the state as it was before.
pub record OwnChangesAreUndone : Type 0 where
  pub number : (s : State) (c i v : ℕ) → with_number (with_number s c i v) c i (number_at s c i) ≡ s
  pub front : (s : State) (c i : ℕ) (row : Row) → row_at s c i 0 ≡ Some row →
      with_front_row (without_front s c i) c i row ≡ s
  pub back : (s : State) (c i capacity : ℕ) (row : Row) → has_room s c i capacity ≡ true →
      (last_row_at (with_row s c i row) c i ≡ Some row) × (without_back (with_row s c i row) c i ≡ s)

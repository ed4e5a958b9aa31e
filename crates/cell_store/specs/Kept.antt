-- The state of one layer of one member, whose queues keep rows of any type.
use Rattle.std.specs.Prelude.{ℕ, ◌-◌, Bool, ◌&&◌, nat_lt, List, [], ◌∷◌, ◌++◌, map, length, take, drop, slice_get}
use Rattle.std.specs.Prelude.{slice_index, slice_index_or, slice_set, Option}
use Rattle.std.specs.List.{flat_map}
use Rattle.layer_words.specs.declared.sorts.Shape.{Shape}
use Rattle.layer_words.specs.declared.sorts.Shape.TheVariants.{One}
use Rattle.layer_mean.specs.State as state
use Rattle.layer_mean.specs.State.{State, Contents}
use Rattle.layer_mean.specs.declared.run.Row.{Row}

-- What a cell keeps: the numbers of its shape by their flat index, or the rows of its queue or of each queue of its
-- array, the front first; each of these queues has room for `capacity` rows.
pub data KeptCell (R : Type 0) : Type 0 where
  numbers : Shape → List ℕ → KeptCell R
  queues : Shape → (capacity : ℕ) → List (List R) → KeptCell R

-- The own rank, the number of members, the view's ltime, the most members that there is room for, and the cells.
pub record Kept (R : Type 0) : Type 0 where
  pub me : ℕ
  pub count : ℕ
  pub ltime : ℕ
  pub most : ℕ
  pub cells : List (KeptCell R)

module _ {R : Type 0} where
  -- What is kept where there is no cell.
  abbrev pub nothing_kept : KeptCell R
  nothing_kept = numbers One []

  abbrev pub numbers_kept : KeptCell R → List ℕ
  numbers_kept (numbers shape ns) = ns
  numbers_kept (queues shape capacity qs) = []

  abbrev pub queues_kept : KeptCell R → List (List R)
  queues_kept (numbers shape ns) = []
  queues_kept (queues shape capacity qs) = qs

  -- How many rows each queue of a cell keeps.
  abbrev pub capacity_of : KeptCell R → ℕ
  capacity_of (numbers shape ns) = 0
  capacity_of (queues shape capacity qs) = capacity

  -- What cell c keeps.
  abbrev pub kept_at : Kept R → ℕ → KeptCell R
  kept_at k c = slice_index_or k.cells c nothing_kept

  -- The number at index i of cell c, 0 outside.
  abbrev pub kept_number : Kept R → ℕ → ℕ → ℕ
  kept_number k c i = slice_index (numbers_kept (kept_at k c)) i

  -- The rows of queue i of cell c, none outside.
  abbrev pub kept_rows : Kept R → ℕ → ℕ → List R
  kept_rows k c i = slice_index_or (queues_kept (kept_at k c)) i []

  -- Row j of queue i of cell c, where there is one.
  abbrev pub kept_row : Kept R → ℕ → ℕ → ℕ → Option R
  kept_row k c i j = slice_get (kept_rows k c i) j

  abbrev pub kept_capacity : Kept R → ℕ → ℕ
  kept_capacity k c = capacity_of (kept_at k c)

  -- Whether queue i of cell c is there and has fewer rows than a capacity.
  abbrev pub keeps_room : Kept R → ℕ → ℕ → ℕ → Bool
  keeps_room k c i capacity = nat_lt i (length (queues_kept (kept_at k c))) &&
      nat_lt (length (kept_rows k c i)) capacity

  abbrev pub with_kept : Kept R → ℕ → KeptCell R → Kept R
  with_kept k c cell = record k { cells = slice_set k.cells c cell }

  -- Numbers with v at index i; queues stay as they are.
  abbrev pub number_set : ℕ → ℕ → KeptCell R → KeptCell R
  number_set i v (numbers shape ns) = numbers shape (slice_set ns i v)
  number_set i v (queues shape capacity qs) = queues shape capacity qs

  -- Queues with other rows in queue i; numbers stay as they are.
  abbrev pub rows_set : ℕ → List R → KeptCell R → KeptCell R
  rows_set i rows (numbers shape ns) = numbers shape ns
  rows_set i rows (queues shape capacity qs) = queues shape capacity (slice_set qs i rows)

  -- Cell c with v at index i; writing outside changes nothing.
  abbrev pub with_kept_number : Kept R → ℕ → ℕ → ℕ → Kept R
  with_kept_number k c i v = with_kept k c (number_set i v (kept_at k c))

  -- Queue i of cell c with other rows; a queue outside stays as it is.
  abbrev pub with_kept_rows : Kept R → ℕ → ℕ → List R → Kept R
  with_kept_rows k c i rows = with_kept k c (rows_set i rows (kept_at k c))

  -- One row more at the back or front of a queue, and one less at the front or back.
  abbrev pub with_last : Kept R → ℕ → ℕ → R → Kept R
  with_last k c i row = with_kept_rows k c i (kept_rows k c i ++ row ∷ [])

  abbrev pub with_first : Kept R → ℕ → ℕ → R → Kept R
  with_first k c i row = with_kept_rows k c i (row ∷ kept_rows k c i)

  abbrev pub without_first : Kept R → ℕ → ℕ → Kept R
  without_first k c i = with_kept_rows k c i (drop 1 (kept_rows k c i))

  abbrev pub without_last : Kept R → ℕ → ℕ → Kept R
  without_last k c i = with_kept_rows k c i (take (length (kept_rows k c i) - 1) (kept_rows k c i))

  -- The front row of a queue, and the last.
  abbrev pub first_row : Kept R → ℕ → ℕ → Option R
  first_row k c i = kept_row k c i 0

  abbrev pub last_row : Kept R → ℕ → ℕ → Option R
  last_row k c i = kept_row k c i (length (kept_rows k c i) - 1)

  -- All rows of some queues, of a cell, and of a state, one after the other.
  abbrev pub rows_of : List (List R) → List R
  rows_of qs = flat_map (λ q. q) qs

  abbrev pub rows_in : Kept R → List R
  rows_in k = flat_map (λ cell. rows_of (queues_kept cell)) k.cells

  -- A cell whose queues have no rows; numbers stay as they are.
  abbrev pub cell_emptied : KeptCell R → KeptCell R
  cell_emptied (numbers shape ns) = numbers shape ns
  cell_emptied (queues shape capacity qs) = queues shape capacity (map (λ q. []) qs)

  -- A state whose queues have no rows; its numbers stay as they are.
  abbrev pub emptied : Kept R → Kept R
  emptied k = record k { cells = map cell_emptied k.cells }

  -- The state that is kept, its rows seen as rows of messages.
  abbrev pub contents_seen : (R → Row) → KeptCell R → Contents
  contents_seen see (numbers shape ns) = state.numbers ns
  contents_seen see (queues shape capacity qs) = state.queues (map (map see) qs)

  abbrev pub state_of : (R → Row) → Kept R → State
  state_of see k = record { me = k.me; count = k.count; ltime = k.ltime; cells = map (contents_seen see) k.cells }

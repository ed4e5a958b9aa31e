-- The state of one layer of one member.
use Rattle.std.specs.Prelude.{ℕ, ◌+◌, ◌*◌, Bool, ◌&&◌, nat_lt, if◌then◌else◌, List, [], ◌∷◌, ◌++◌, length, drop}
use Rattle.std.specs.Prelude.{slice_get, slice_index, slice_index_or, slice_set, Option}
use Rattle.layer_words.specs.declared.sorts.Shape.{Shape}
use Rattle.layer_words.specs.declared.sorts.Shape.TheVariants.{One, Array, Square}
use Rattle.layer_mean.specs.declared.run.Row.{Row}

-- What a cell holds: its numbers by their flat index, or the rows of its queue or of each queue of its array, the front
-- first.
pub data Contents : Type 0 where
  numbers : List ℕ → Contents
  queues : List (List Row) → Contents

-- A state keeps the own rank, the number of members and the view's ltime, which a visit only reads, and what each cell
-- holds.
pub record State : Type 0 where
  pub me : ℕ
  pub count : ℕ
  pub ltime : ℕ
  pub cells : List Contents

-- What a missing cell holds.
abbrev pub no_cell : Contents
no_cell = numbers []

-- The numbers of a cell; a queue has none.
abbrev pub numbers_in : Contents → List ℕ
numbers_in (numbers ns) = ns
numbers_in (queues qs) = []

-- The queues of a cell; a cell of numbers has none.
abbrev pub queues_in : Contents → List (List Row)
queues_in (numbers ns) = []
queues_in (queues qs) = qs

-- What cell c holds.
abbrev pub cell_at : State → ℕ → Contents
cell_at s c = slice_index_or s.cells c no_cell

-- The number at index i of cell c; reading outside gives 0.
abbrev pub number_at : State → ℕ → ℕ → ℕ
number_at s c i = slice_index (numbers_in (cell_at s c)) i

-- The flat index of a row and a column of a square cell: the row times n plus the column where both are below n, and
-- otherwise n times n, which is outside.
abbrev pub flat_index : ℕ → ℕ → ℕ → ℕ
flat_index n row column = if nat_lt row n && nat_lt column n then row * n + column else n * n

-- The rows of queue i of cell c; a queue outside is empty.
abbrev pub rows_at : State → ℕ → ℕ → List Row
rows_at s c i = slice_index_or (queues_in (cell_at s c)) i []

-- Row k of queue i of cell c, where there is one.
abbrev pub row_at : State → ℕ → ℕ → ℕ → Option Row
row_at s c i k = slice_get (rows_at s c i) k

-- Whether there is room for a row: the queue is there and has fewer rows than its capacity.
abbrev pub has_room : State → ℕ → ℕ → ℕ → Bool
has_room s c i capacity = nat_lt i (length (queues_in (cell_at s c))) && nat_lt (length (rows_at s c i)) capacity

-- A state with another cell c.
abbrev pub with_cell : State → ℕ → Contents → State
with_cell s c held = record s { cells = slice_set s.cells c held }

-- Numbers with v at index i; a queue stays as it is.
abbrev pub with_element : ℕ → ℕ → Contents → Contents
with_element i v (numbers ns) = numbers (slice_set ns i v)
with_element i v (queues qs) = queues qs

-- Cell c with v at index i; writing outside changes nothing.
abbrev pub with_number : State → ℕ → ℕ → ℕ → State
with_number s c i v = with_cell s c (with_element i v (cell_at s c))

-- Queues with other rows in queue i; numbers stay as they are.
abbrev pub with_queue : ℕ → List Row → Contents → Contents
with_queue i rows (numbers ns) = numbers ns
with_queue i rows (queues qs) = queues (slice_set qs i rows)

-- Queue i of cell c with other rows; a queue outside stays as it is.
abbrev pub with_rows : State → ℕ → ℕ → List Row → State
with_rows s c i rows = with_cell s c (with_queue i rows (cell_at s c))

-- A state with this row at the back of queue i of cell c.
abbrev pub with_row : State → ℕ → ℕ → Row → State
with_row s c i row = with_rows s c i (rows_at s c i ++ row ∷ [])

-- A state without the front row of queue i of cell c; an empty queue stays empty.
abbrev pub without_front : State → ℕ → ℕ → State
without_front s c i = with_rows s c i (drop 1 (rows_at s c i))

-- How many numbers a cell of a shape has in a view of n members.
abbrev pub size_of : ℕ → Shape → ℕ
size_of n One = 1
size_of n Array = n
size_of n Square = n * n

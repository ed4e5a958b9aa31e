-- Where a trace is followed as it should be: what is read and written is there, as far as guards rest on it.
use Rattle.std.specs.Prelude.{◌≡◌, ℕ, suc, ◌==◌, ◌*◌, ◌^◌, ◌<◌, ◌≤◌, Bool, true, false, ◌&&◌, ◌||◌, List, [], ◌∷◌}
use Rattle.std.specs.Prelude.{length}
use Rattle.msg_core.specs.Parts.{longest_body}
use Rattle.layer_mean.specs.State.{State, cell_at, numbers_in, queues_in, rows_at}
use Rattle.trace_mean.specs.Trace.{TraceNumber, element, square, rows, item, size, binary, apply, pick, TraceMessage}
use Rattle.trace_mean.specs.Trace.{held, cut, tail, join, Operation, bind, note, check, set, set_square, push, take}
use Rattle.trace_mean.specs.Trace.{output}
use Rattle.trace_mean.specs.Worth.{Input, state_of, number_of, message_of}
use Rattle.trace_mean.specs.Follow.{Trail, Followed, on, stopped_at, operates}
use Rattle.guard_mean.specs.Hoist.{is_zero}

-- How many numbers a cell of a place has, and how many queues.
abbrev pub extent : List State → ℕ → ℕ → ℕ
extent states p c = length (numbers_in (cell_at (state_of states p) c))

abbrev pub queue_count : List State → ℕ → ℕ → ℕ
queue_count states p c = length (queues_in (cell_at (state_of states p) c))

abbrev pub row_count : List State → ℕ → ℕ → ℕ → ℕ
row_count states p c k = length (rows_at (state_of states p) c k)

-- Whether a written cell has one number for each member, or one at an index that is written as 0.
abbrev pub fits_extent : ℕ → ℕ → TraceNumber → Bool
fits_extent n many e = (many == n) || ((many == 1) && is_zero e)

-- Which cells are square.
abbrev pub Squares : Type 0
Squares = ℕ → ℕ → Bool

-- A message that has no more bytes than a body may have.
abbrev pub IsShort : Input → Trail → TraceMessage → Type 0
IsShort i t m = length (message_of i t.kept t.states m).body ≤ longest_body

abbrev mutual
  -- An expression reads square cells by two indices and others by one, and takes parts of messages that aren't too
  -- long.
  pub Reads : Squares → Input → Trail → TraceNumber → Type 0
  Reads sq i t (element p c e) = (sq p c ≡ false) × Reads sq i t e
  Reads sq i t (square p c r k) = (sq p c ≡ true) × Reads sq i t r × Reads sq i t k
  Reads sq i t (rows p c e) = Reads sq i t e
  Reads sq i t (item p c e r k) = Reads sq i t e × Reads sq i t r
  Reads sq i t (size m) = ReadsMessage sq i t m
  Reads sq i t (binary operator a b) = Reads sq i t a × Reads sq i t b
  Reads sq i t (apply function a) = Reads sq i t a
  Reads sq i t (pick c a b) = Reads sq i t c × Reads sq i t a × Reads sq i t b
  Reads sq i t _ = Unit {0}

  pub ReadsMessage : Squares → Input → Trail → TraceMessage → Type 0
  ReadsMessage sq i t (held p c e r carried) = Reads sq i t e × Reads sq i t r
  ReadsMessage sq i t (cut m f n) = IsShort i t m × ReadsMessage sq i t m × Reads sq i t f × Reads sq i t n
  ReadsMessage sq i t (tail m f) = IsShort i t m × ReadsMessage sq i t m × Reads sq i t f
  ReadsMessage sq i t (join a b) = IsShort i t a × IsShort i t b × ReadsMessage sq i t a × ReadsMessage sq i t b
  ReadsMessage sq i t _ = Unit {0}

abbrev pub ReadsAll : Squares → Input → Trail → List TraceNumber → Type 0
ReadsAll sq i t [] = Unit {0}
ReadsAll sq i t (e ∷ es) = Reads sq i t e × ReadsAll sq i t es

-- One operation: a written cell has the numbers that it should have, a push has room, and a take has a row.
abbrev pub SoundAt : Squares → Input → Trail → Operation → Type 0
SoundAt sq i t (bind e) = Reads sq i t e
SoundAt sq i t (note m) = ReadsMessage sq i t m
SoundAt sq i t (check e) = Reads sq i t e
SoundAt sq i t (set p c e v) =
    (sq p c ≡ false) × (0 < i.count) × (fits_extent i.count (extent t.states p c) e ≡ true) × Reads sq i t e ×
    Reads sq i t v
SoundAt sq i t (set_square p c r k v) =
    (sq p c ≡ true) × (extent t.states p c ≡ i.count * i.count) × Reads sq i t r × Reads sq i t k × Reads sq i t v
SoundAt sq i t (push p c e numbers m) =
    (number_of i t.kept t.states e < queue_count t.states p c) ×
    (suc (row_count t.states p c (number_of i t.kept t.states e)) < 2 ^ 32) ×
    ((j : ℕ) → row_count t.states p c j < 2 ^ 32) × Reads sq i t e × ReadsAll sq i t numbers
SoundAt sq i t (take p c e) =
    (number_of i t.kept t.states e < queue_count t.states p c) ×
    (0 < row_count t.states p c (number_of i t.kept t.states e)) ×
    ((j : ℕ) → row_count t.states p c j < 2 ^ 32) × Reads sq i t e
SoundAt sq i t (output dir kind numbers m) = Unit {0}

-- Each operation that is reached.
abbrev pub Sound : Squares → Input → List Operation → Followed → Type 0
Sound sq i [] f = Unit {0}
Sound sq i (operation ∷ operations) (stopped_at k) = Unit {0}
Sound sq i (operation ∷ operations) (on t) = SoundAt sq i t operation × Sound sq i operations (operates i t operation)

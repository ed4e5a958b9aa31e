-- Messages that have no more bytes than a body may have, and what then is to be known of the operations of a trace.
use Rattle.std.specs.Prelude.{◌≡◌, ℕ, suc, ◌*◌, ◌^◌, ◌<◌, ◌≤◌, true, false, List, [], ◌∷◌, length, slice_index_or}
use Rattle.std.specs.Prelude.{Option, None}
use Rattle.msg_core.specs.Chain.{plain}
use Rattle.msg_core.specs.Parts.{longest_body}
use Rattle.layer_mean.specs.declared.run.Row.{Row}
use Rattle.layer_mean.specs.State.{row_at}
use Rattle.layer_mean.specs.Tree.{part}
use Rattle.layer_mean.specs.Value.{message_in}
use Rattle.trace_mean.specs.Trace.{TraceNumber, element, square, rows, item, size, binary, apply, pick, TraceMessage}
use Rattle.trace_mean.specs.Trace.{held, cut, tail, join, Operation, bind, note, check, set, set_square, push, take}
use Rattle.trace_mean.specs.Trace.{output}
use Rattle.trace_mean.specs.Worth.{Input, state_of, number_of}
use Rattle.trace_mean.specs.Follow.{Trail, Followed, on, stopped_at, operates}
use Rattle.guard_laws.specs.Sound.{extent, queue_count, row_count, fits_extent, Squares}

-- What there is to read is short: the body, the notes, and the messages of rows that were taken and of rows that are
-- held.
abbrev pub IsShortRow : Option Row → Type 0
IsShortRow r = length (message_in part r).body ≤ longest_body

pub record IsShortTrail (i : Input) (t : Trail) : Type 0 where
  pub body : length i.body ≤ longest_body
  pub notes : (k : ℕ) → length (slice_index_or t.kept.messages k (plain [])).body ≤ longest_body
  pub rows : (k : ℕ) → IsShortRow (slice_index_or t.kept.rows k None)
  pub held : (p c j k : ℕ) → IsShortRow (row_at (state_of t.states p) c j k)

-- An expression reads square cells by two indices and others by one.
abbrev mutual
  pub Fits : Squares → TraceNumber → Type 0
  Fits sq (element p c e) = (sq p c ≡ false) × Fits sq e
  Fits sq (square p c r k) = (sq p c ≡ true) × Fits sq r × Fits sq k
  Fits sq (rows p c e) = Fits sq e
  Fits sq (item p c e r k) = Fits sq e × Fits sq r
  Fits sq (size m) = FitsMessage sq m
  Fits sq (binary operator a b) = Fits sq a × Fits sq b
  Fits sq (apply function a) = Fits sq a
  Fits sq (pick c a b) = Fits sq c × Fits sq a × Fits sq b
  Fits sq _ = Unit {0}

  pub FitsMessage : Squares → TraceMessage → Type 0
  FitsMessage sq (held p c e r carried) = Fits sq e × Fits sq r
  FitsMessage sq (cut m f n) = FitsMessage sq m × Fits sq f × Fits sq n
  FitsMessage sq (tail m f) = FitsMessage sq m × Fits sq f
  FitsMessage sq (join a b) = FitsMessage sq a × FitsMessage sq b
  FitsMessage sq _ = Unit {0}

abbrev pub FitsAll : Squares → List TraceNumber → Type 0
FitsAll sq [] = Unit {0}
FitsAll sq (e ∷ es) = Fits sq e × FitsAll sq es

abbrev pub FitsOperation : Squares → Operation → Type 0
FitsOperation sq (bind e) = Fits sq e
FitsOperation sq (note m) = FitsMessage sq m
FitsOperation sq (check e) = Fits sq e
FitsOperation sq (set p c e v) = (sq p c ≡ false) × Fits sq e × Fits sq v
FitsOperation sq (set_square p c r k v) = (sq p c ≡ true) × Fits sq r × Fits sq k × Fits sq v
FitsOperation sq (push p c e numbers m) = Fits sq e × FitsAll sq numbers
FitsOperation sq (take p c e) = Fits sq e
FitsOperation sq (output dir kind numbers m) = Unit {0}

-- What is to be known of the states that an operation meets.
abbrev pub RoomAt : Input → Trail → Operation → Type 0
RoomAt i t (set p c e v) = (0 < i.count) × (fits_extent i.count (extent t.states p c) e ≡ true)
RoomAt i t (set_square p c r k v) = extent t.states p c ≡ i.count * i.count
RoomAt i t (push p c e numbers m) =
    (number_of i t.kept t.states e < queue_count t.states p c) ×
    (suc (row_count t.states p c (number_of i t.kept t.states e)) < 2 ^ 32) ×
    ((j : ℕ) → row_count t.states p c j < 2 ^ 32)
RoomAt i t (take p c e) =
    (number_of i t.kept t.states e < queue_count t.states p c) ×
    (0 < row_count t.states p c (number_of i t.kept t.states e)) ×
    ((j : ℕ) → row_count t.states p c j < 2 ^ 32)
RoomAt i t _ = Unit {0}

abbrev pub Roomy : Input → List Operation → Followed → Type 0
Roomy i [] f = Unit {0}
Roomy i (operation ∷ operations) (stopped_at k) = Unit {0}
Roomy i (operation ∷ operations) (on t) = RoomAt i t operation × Roomy i operations (operates i t operation)

abbrev pub AllFit : Squares → List Operation → Type 0
AllFit sq [] = Unit {0}
AllFit sq (operation ∷ operations) = FitsOperation sq operation × AllFit sq operations

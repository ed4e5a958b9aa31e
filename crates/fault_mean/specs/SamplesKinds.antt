-- Layers with something of another kind than is needed, worked out.
use Rattle.std.specs.Prelude.{[], ◌∷◌, codes, Some}
use Rattle.layer_ast.specs.Samples.{at}
use Rattle.fault_mean.specs.Faults.{of_types}
use Rattle.fault_mean.specs.Faults as fault
use Rattle.fault_mean.specs.Samples.{IsJudged, small_text}

-- A number as a message.
abbrev pub NumberAsMessage : Type 0
NumberAsMessage = IsJudged
    (small_text (codes "  down Cast(p, m) { down Cast(p, 1); }" ∷ []))
    (Some (of_types (fault.kind (at 2 34))))

-- An array as a number.
abbrev pub ArrayAsNumber : Type 0
ArrayAsNumber = IsJudged
    (small_text (codes "  state int e[n];" ∷ codes "  down Timer(t) { down Timer((t + e)); }" ∷ []))
    (Some (of_types (fault.kind (at 3 35))))

-- The tail of a part.
abbrev pub TailOfPart : Type 0
TailOfPart = IsJudged
    (small_text (codes "  header h() ends;" ∷ codes "  up Cast(o, m) with h() { up Cast(o, tail(m, 0)); }" ∷ []))
    (Some (of_types (fault.kind (at 3 39))))

-- A message before a message.
abbrev pub JoinOfMessages : Type 0
JoinOfMessages = IsJudged
    (small_text (codes "  up Cast(o, m) { up Cast(o, join(m, m)); }" ∷ []))
    (Some (of_types (fault.kind (at 2 35))))

-- A queue that is set.
abbrev pub QueueSet : Type 0
QueueSet = IsJudged
    (small_text (codes "  state queue q[2] of (u: int);" ∷ codes "  down Timer(t) { set q = t; }" ∷ []))
    (Some (of_types (fault.kind (at 3 19))))

-- The message of a row of numbers.
abbrev pub HeldOfNumbers : Type 0
HeldOfNumbers = IsJudged
    (small_text (codes "  state queue q[2] of (u: int);" ∷ codes "  up Cast(o, m) { up Cast(o, held(q, 0)); }" ∷ []))
    (Some (of_types (fault.kind (at 3 30))))

-- A part for an item that is a message.
abbrev pub PartPushed : Type 0
PartPushed = IsJudged
    (small_text (codes "  state queue q[2] of (w: msg);" ∷ codes "  down Cast(p, m) { push q (nothing) else { } }" ∷
    []))
    (Some (of_types (fault.kind (at 3 29))))

-- A capacity that is a cell.
abbrev pub CellAsSize : Type 0
CellAsSize = IsJudged
    (small_text (codes "  state int k;" ∷ codes "  state queue q[k] of (u: int);" ∷ []))
    (Some (of_types (fault.kind (at 3 3))))

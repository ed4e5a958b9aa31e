-- Handlers and what they take off, worked out.
use Rattle.std.specs.Prelude.{[], ◌∷◌, codes, Some, None}
use Rattle.layer_ast.specs.Samples.{at}
use Rattle.fault_mean.specs.Faults.{of_types}
use Rattle.fault_mean.specs.Faults as fault
use Rattle.fault_mean.specs.Samples.{IsJudged, small_text}

-- A handler of casts with one name.
abbrev pub HandlerArity : Type 0
HandlerArity = IsJudged
    (small_text (codes "  down Cast(p) { }" ∷ []))
    (Some (of_types (fault.arity (at 2 3))))

-- A handler that names no field of a header that has one.
abbrev pub FieldsArity : Type 0
FieldsArity = IsJudged
    (small_text (codes "  header h(v) passes;" ∷ codes "  up Cast(o, m) with h() { }" ∷ []))
    (Some (of_types (fault.arity (at 3 3))))

-- A handler on the way down that takes a header off.
abbrev pub TakesOffDown : Type 0
TakesOffDown = IsJudged
    (small_text (codes "  header h() passes;" ∷ codes "  down Cast(p, m) with h() { }" ∷ []))
    (Some (of_types (fault.direction (at 3 3))))

-- A handler of an event without a message that takes a header off.
abbrev pub TakesOffTimer : Type 0
TakesOffTimer = IsJudged
    (small_text (codes "  header h() passes;" ∷ codes "  up Timer(t) with h() { }" ∷ []))
    (Some (of_types (fault.direction (at 3 3))))

-- A handler that takes a cell off.
abbrev pub CellTakenOff : Type 0
CellTakenOff = IsJudged
    (small_text (codes "  state int k;" ∷ codes "  up Cast(o, m) with k() { }" ∷ []))
    (Some (of_types (fault.kind (at 3 3))))

-- An emission that puts a cell on.
abbrev pub CellPutOn : Type 0
CellPutOn = IsJudged
    (small_text (codes "  state int k;" ∷ codes "  down Cast(p, m) { down Cast(p, m) with k(); }" ∷ []))
    (Some (of_types (fault.kind (at 3 21))))

-- A row of two items that gets one name.
abbrev pub RowArity : Type 0
RowArity = IsJudged
    (small_text (codes "  state queue q[2] of (u: int, w: msg);" ∷ codes "  down Timer(t) { take q (v) { } else { } }" ∷
    []))
    (Some (of_types (fault.arity (at 3 19))))

-- A condition may read each name of its handler.
abbrev pub ConditionOfField : Type 0
ConditionOfField = IsJudged
    (small_text (codes "  header h(v) passes;" ∷ codes "  up Cast(o, m) with h(v) common (v == size(m)) { }" ∷ []))
    None

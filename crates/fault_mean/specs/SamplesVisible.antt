-- Layers whose names are visible or not, worked out.
use Rattle.std.specs.Prelude.{[], ◌∷◌, codes, Some, None}
use Rattle.layer_ast.specs.Samples.{at}
use Rattle.fault_mean.specs.Faults.{of_names}
use Rattle.fault_mean.specs.Faults as fault
use Rattle.fault_mean.specs.Samples.{IsJudged, lines, small_text}

-- A cell that isn't declared.
abbrev pub UnknownCell : Type 0
UnknownCell = IsJudged
    (small_text (codes "  down Cast(p, m) { set z = 1; }" ∷ []))
    (Some (of_names (fault.unknown (at 2 25))))

-- A local before its `let`.
abbrev pub BeforeLet : Type 0
BeforeLet = IsJudged
    (small_text (codes "  down Timer(t) { let y = x; let x = 1; }" ∷ []))
    (Some (of_names (fault.unknown (at 2 27))))

-- A local in its own value.
abbrev pub InItsLet : Type 0
InItsLet = IsJudged
    (small_text (codes "  down Timer(t) { let x = x; }" ∷ []))
    (Some (of_names (fault.unknown (at 2 27))))

-- The name of a loop in its own bound.
abbrev pub InItsBound : Type 0
InItsBound = IsJudged
    (small_text (codes "  down Timer(t) { each i below i max 2 { } }" ∷ []))
    (Some (of_names (fault.unknown (at 2 32))))

-- A local after its block.
abbrev pub AfterItsBlock : Type 0
AfterItsBlock = IsJudged
    (small_text (codes "  down Timer(t) { if t { let x = 1; } let y = x; }" ∷ []))
    (Some (of_names (fault.unknown (at 2 47))))

-- A taken name in the other block.
abbrev pub TakenElsewhere : Type 0
TakenElsewhere = IsJudged
    (small_text
    (codes "  state queue q[2] of (u: int);"
    ∷ codes "  down Timer(t) { take q (v) { let x = v; } else { let x = v; } }" ∷ []))
    (Some (of_names (fault.unknown (at 3 60))))

-- The header of a handler isn't one of its locals.
abbrev pub LocalAsHeader : Type 0
LocalAsHeader = IsJudged
    (small_text (codes "  up Cast(o, m) with o() { }" ∷ []))
    (Some (of_names (fault.unknown (at 2 22))))

-- A layer's own names are visible before their declaration.
abbrev pub DeclaredAfter : Type 0
DeclaredAfter = IsJudged
    (small_text (codes "  state int k = late;" ∷ codes "  param late = 1;" ∷ []))
    None

-- A label that no item of the queue's rows has.
abbrev pub UnknownLabel : Type 0
UnknownLabel = IsJudged
    (small_text (codes "  state queue q[2] of (u: int);" ∷ codes "  down Timer(t) { let x = at(q, 0).v; }" ∷ []))
    (Some (of_names (fault.unknown (at 3 36))))

-- A label after something that is no queue.
abbrev pub LabelOfNone : Type 0
LabelOfNone = IsJudged
    (small_text (codes "  down Timer(t) { let x = at(t, 0).u; }" ∷ []))
    (Some (of_names (fault.unknown (at 2 36))))

-- A place that names an unknown layer has no other fault.
abbrev pub UnknownLayer : Type 0
UnknownLayer = IsJudged
    (lines (codes "layer a {" ∷ codes "}" ∷ codes "stack { b(k = 99); }" ∷ []))
    (Some (of_names (fault.unknown (at 3 9))))

-- A place gives a cell a value.
abbrev pub CellGiven : Type 0
CellGiven = IsJudged
    (lines (codes "layer a {" ∷ codes "  state int k;" ∷ codes "}" ∷ codes "stack { a(k = 1); }" ∷ []))
    (Some (of_names (fault.unknown (at 4 11))))

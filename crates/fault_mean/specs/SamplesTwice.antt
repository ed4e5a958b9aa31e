-- Layers with a name that is there twice, worked out.
use Rattle.std.specs.Prelude.{[], ◌∷◌, codes, Some, None}
use Rattle.layer_ast.specs.Samples.{at}
use Rattle.fault_mean.specs.Faults.{of_names}
use Rattle.fault_mean.specs.Faults as fault
use Rattle.fault_mean.specs.Samples.{IsJudged, lines, small_text}

-- Two layers of one name.
abbrev pub LayerTwice : Type 0
LayerTwice = IsJudged
    (lines (codes "layer a { }" ∷ codes "layer a { }" ∷ codes "stack { a; }" ∷ []))
    (Some (of_names (fault.twice (at 2 7))))

-- A cell with the name of a param.
abbrev pub CellAndParam : Type 0
CellAndParam = IsJudged
    (small_text (codes "  param k = 1;" ∷ codes "  state int k;" ∷ []))
    (Some (of_names (fault.twice (at 3 13))))

-- A local with the name of a cell.
abbrev pub LocalAndCell : Type 0
LocalAndCell = IsJudged
    (small_text (codes "  state int k;" ∷ codes "  down Timer(t) { let k = 1; }" ∷ []))
    (Some (of_names (fault.twice (at 3 23))))

-- An argument and a field of a handler with one name.
abbrev pub ArgumentAndField : Type 0
ArgumentAndField = IsJudged
    (small_text (codes "  header h(v) passes;" ∷ codes "  up Cast(o, m) with h(o) { }" ∷ []))
    (Some (of_names (fault.twice (at 3 24))))

-- Locals of one name in two blocks.
abbrev pub OtherBlocks : Type 0
OtherBlocks = IsJudged
    (small_text (codes "  down Timer(t) { if t { let x = 1; } else { let x = 2; } }" ∷ []))
    None

-- A label twice in a row.
abbrev pub LabelTwice : Type 0
LabelTwice = IsJudged
    (small_text (codes "  state queue q[2] of (u: int, u: int);" ∷ []))
    (Some (of_names (fault.twice (at 2 32))))

-- A param twice in one place.
abbrev pub ParamTwice : Type 0
ParamTwice = IsJudged
    (lines (codes "layer a {" ∷ codes "  param k = 1;" ∷ codes "}" ∷ codes "stack { a(k = 2, k = 3); }" ∷ []))
    (Some (of_names (fault.twice (at 4 18))))

-- A second handler of one direction, kind and header.
abbrev pub HandlerTwice : Type 0
HandlerTwice = IsJudged
    (small_text (codes "  up Timer(t) { }" ∷ codes "  down Timer(t) { }" ∷ codes "  up Timer(u) { }" ∷ []))
    (Some (of_names (fault.twice (at 4 3))))

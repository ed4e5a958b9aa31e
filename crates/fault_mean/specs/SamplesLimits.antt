-- Layers at the limits, worked out.
use Rattle.std.specs.Prelude.{[], ◌∷◌, codes, Some, None}
use Rattle.layer_ast.specs.Samples.{at}
use Rattle.fault_mean.specs.Faults.{of_names}
use Rattle.fault_mean.specs.Faults as fault
use Rattle.fault_mean.specs.Samples.{IsJudged, lines, small_text}

-- A header with five fields.
abbrev pub FiveFields : Type 0
FiveFields = IsJudged
    (small_text (codes "  header h(v, w, x, y, z) passes;" ∷ []))
    (Some (of_names (fault.too_many (at 2 24))))

-- At one place a name that is there twice comes before one too many.
abbrev pub FifthTwice : Type 0
FifthTwice = IsJudged
    (small_text (codes "  header h(v, w, x, y, y) passes;" ∷ []))
    (Some (of_names (fault.twice (at 2 24))))

-- A message that isn't the last of its row.
abbrev pub MessageInside : Type 0
MessageInside = IsJudged
    (small_text (codes "  state queue q[2] of (m: msg, u: int);" ∷ []))
    (Some (of_names (fault.too_many (at 2 24))))

-- A capacity of 65.
abbrev pub CapacityOutside : Type 0
CapacityOutside = IsJudged
    (small_text (codes "  state queue q[65] of (u: int);" ∷ []))
    (Some (of_names (fault.too_many (at 2 17))))

-- A capacity that is a param, at a place that gives it 65.
abbrev pub GivenOutside : Type 0
GivenOutside = IsJudged
    (lines
    (codes "layer a {"
    ∷ codes "  param keep = 4;"
    ∷ codes "  state queue q[keep] of (u: int);"
    ∷ codes "}"
    ∷ codes "stack { a; a(keep = 65); }" ∷ []))
    (Some (of_names (fault.too_many (at 5 12))))

-- A loop of at most 33 turns.
abbrev pub MaximumOutside : Type 0
MaximumOutside = IsJudged
    (small_text (codes "  down Timer(t) { each i below n max 33 { } }" ∷ []))
    (Some (of_names (fault.too_many (at 2 38))))

-- A size that is a param is judged at places alone.
abbrev pub NotPlaced : Type 0
NotPlaced = IsJudged
    (lines
    (codes "layer a { param keep = 0; state queue q[keep] of (u: int); }" ∷ codes "layer b { }" ∷ codes "stack { b; }" ∷
    []))
    None

-- Twenty-five places.
abbrev pub PlacesBeyond : Type 0
PlacesBeyond = IsJudged
    (lines
    (codes "layer a { }"
    ∷ codes "stack { a; a; a; a; a; a; a; a; a; a; a; a;"
    ∷ codes "  a; a; a; a; a; a; a; a; a; a; a; a; a; }" ∷ []))
    (Some (of_names (fault.too_many (at 3 39))))

-- Layers with a fault of an emission or an initial value, one with two faults, and one without, worked out.
use Rattle.std.specs.Prelude.{[], ◌∷◌, codes, Some, None}
use Rattle.layer_ast.specs.Samples.{at}
use Rattle.fault_mean.specs.Faults.{of_names, of_types}
use Rattle.fault_mean.specs.Faults as fault
use Rattle.fault_mean.specs.Samples.{IsJudged, lines, small_text}

-- A cast of one argument.
abbrev pub ArgumentMissing : Type 0
ArgumentMissing = IsJudged
    (small_text (codes "  down Cast(p, m) { down Cast(p); }" ∷ []))
    (Some (of_types (fault.arity (at 2 21))))

-- A header of one field that gets none.
abbrev pub FieldMissing : Type 0
FieldMissing = IsJudged
    (small_text (codes "  header h(v) passes;" ∷ codes "  down Cast(p, m) { down Cast(p, m) with h(); }" ∷ []))
    (Some (of_types (fault.arity (at 3 21))))

-- A header that is put on on the way up.
abbrev pub HeaderUp : Type 0
HeaderUp = IsJudged
    (small_text (codes "  header h() passes;" ∷ codes "  down Cast(p, m) { up Cast(p, m) with h(); }" ∷ []))
    (Some (of_types (fault.direction (at 3 21))))

-- At one place the number of fields comes before the direction.
abbrev pub FieldMissingUp : Type 0
FieldMissingUp = IsJudged
    (small_text (codes "  header h(v) passes;" ∷ codes "  down Cast(p, m) { up Cast(p, m) with h(); }" ∷ []))
    (Some (of_types (fault.arity (at 3 21))))

-- A message under a header that ends.
abbrev pub MessageEnds : Type 0
MessageEnds = IsJudged
    (small_text (codes "  header h() ends;" ∷ codes "  down Cast(p, m) { down Cast(p, m) with h(); }" ∷ []))
    (Some (of_types (fault.header (at 3 21))))

-- A part under a header that passes.
abbrev pub PartPasses : Type 0
PartPasses = IsJudged
    (small_text (codes "  header h() passes;" ∷ codes "  down Cast(p, m) { down Cast(p, nothing) with h(); }" ∷ []))
    (Some (of_types (fault.header (at 3 21))))

-- A part on the way up.
abbrev pub PartUp : Type 0
PartUp = IsJudged
    (small_text (codes "  header h() ends;" ∷ codes "  up Cast(o, m) with h() { up Cast(o, m); }" ∷ []))
    (Some (of_types (fault.header (at 3 28))))

-- A cell in an initial value.
abbrev pub InitialOfCell : Type 0
InitialOfCell = IsJudged
    (small_text (codes "  state int k;" ∷ codes "  state int j = (k + 1);" ∷ []))
    (Some (of_types (fault.initial (at 3 17))))

-- At one place the kind comes before the initial value.
abbrev pub InitialOfArray : Type 0
InitialOfArray = IsJudged
    (small_text (codes "  state int e[n];" ∷ codes "  state int j = e;" ∷ []))
    (Some (of_types (fault.kind (at 3 17))))

-- A fault of names comes before an earlier fault of types.
abbrev pub NamesFirst : Type 0
NamesFirst = IsJudged
    (small_text (codes "  down Timer(t) { set t = z; }" ∷ []))
    (Some (of_names (fault.unknown (at 2 27))))

-- The counter layer.
abbrev pub Counter : Type 0
Counter = IsJudged
    (lines
    (codes "layer cnt {"
    ∷ codes "  state int k;"
    ∷ codes "  state int e[n];"
    ∷ codes "  header num(seq) passes;"
    ∷ codes "  down Cast(p, m) {"
    ∷ codes "    down Cast(p, m) with num(k);"
    ∷ codes "    set k = (k + 1);"
    ∷ codes "  }"
    ∷ codes "  up Cast(o, m) with num(seq) common (seq == e[o]) {"
    ∷ codes "    set e[o] = (seq + 1);"
    ∷ codes "    up Cast(o, m);"
    ∷ codes "  }"
    ∷ codes "}"
    ∷ codes "stack { cnt; }" ∷ []))
    None

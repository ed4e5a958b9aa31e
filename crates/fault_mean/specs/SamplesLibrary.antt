-- Layers of the library, whose faults stand at the names of their places, worked out.
use Rattle.std.specs.Prelude.{ℕ, List, [], ◌∷◌, ◌++◌, codes, Some, None}
use Rattle.layer_ast.specs.Reader.{layer_of}
use Rattle.layer_ast.specs.Samples.{at}
use Rattle.layer_ast.specs.Tree.{LayerTree}
use Rattle.fault_mean.specs.Faults.{of_names, of_types}
use Rattle.fault_mean.specs.Faults as fault
use Rattle.fault_mean.specs.Samples.{IsJudgedOver, lines}

-- `layer b { param keep = 4; state queue q[keep] of (u: int); .. }` with these handlers.
abbrev pub of_library : List ℕ → List LayerTree
of_library handlers =
    layer_of (codes "layer b { param keep = 4; state queue q[keep] of (u: int); " ++ handlers ++ codes "}") ∷ []

-- A layer of the library without a fault.
abbrev pub FromLibrary : Type 0
FromLibrary = IsJudgedOver (of_library []) (lines (codes "stack { b; }" ∷ [])) None

-- A param of it is a capacity, and gets a value that is too large for one.
abbrev pub GivenToLibrary : Type 0
GivenToLibrary =
    IsJudgedOver (of_library []) (lines (codes "stack { b(keep = 65); }" ∷ []))
    (Some (of_names (fault.too_many (at 1 9))))

-- A fault of types in it stands at the place's name.
abbrev pub FaultOfLibrary : Type 0
FaultOfLibrary =
    IsJudgedOver (of_library (codes "down Timer(t) { set q = 1; }")) (lines (codes "stack { b; }" ∷ []))
    (Some (of_types (fault.kind (at 1 9))))

-- A layer of the file hides that of the library, and its params with it.
abbrev pub HidesLibrary : Type 0
HidesLibrary =
    IsJudgedOver (of_library []) (lines (codes "layer b { }" ∷ codes "stack { b(keep = 65); }" ∷ []))
    (Some (of_names (fault.unknown (at 2 11))))

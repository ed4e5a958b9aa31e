-- That a line is known throughout, seen turn by turn.
use Rattle.std.specs.Prelude.{ℕ, zero, suc, List, [], ◌∷◌, length}
use Rattle.std.specs.List.{AllByRecursion}
use Rattle.layer_mean.specs.declared.run.Event.{Event}
use Rattle.layer_mean.specs.Tree.{LayerTree}
use Rattle.layer_mean.specs.Queue.{Task, Line, Work, next_of, layers}
use Rattle.weight_laws.specs.Nodes.{IsKnown}
use Rattle.weight_laws.specs.Runs.{StaysKnown}

-- The tasks of a line are known for n turns, after which none is left.
abbrev pub KnownFor : List LayerTree → ℕ → Work → List (Task Event) → Type 0
KnownFor stack zero w [] = Unit {0}
KnownFor stack zero w (t ∷ rest) = ⊥
KnownFor stack (suc n) w tasks = let r = next_of (length stack) (layers stack) tasks w in
    AllByRecursion (IsKnown stack) tasks × KnownFor stack n r.world r.tasks

-- Then they are known throughout.
abbrev pub KnownToTheEnd : Type 0
KnownToTheEnd = (stack : List LayerTree) (n : ℕ) (r : Line Work Event) → KnownFor stack n r.world r.tasks →
    StaysKnown stack r

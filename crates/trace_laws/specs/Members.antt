-- The states of the member that an input is for, and that they stay so.
use Rattle.std.specs.Prelude.{◌≡◌, ℕ, List, [], ◌∷◌}
use Rattle.layer_mean.specs.declared.run.Event.{Event}
use Rattle.layer_mean.specs.Tree.{LayerTree}
use Rattle.layer_mean.specs.State.{State}
use Rattle.layer_mean.specs.Queue.{Task, run}
use Rattle.trace_mean.specs.Worth.{Input}

-- A state at the member that an input is for, in its view.
pub record IsOf (i : Input) (s : State) : Type 0 where
  pub me : s.me ≡ i.me
  pub count : s.count ≡ i.count
  pub ltime : s.ltime ≡ i.ltime

-- The states of a stack's layers at that member.
abbrev pub AreOf : Input → List LayerTree → List State → Type 0
AreOf i [] [] = Unit {0}
AreOf i (layer ∷ layers) (s ∷ states) = IsOf i s × AreOf i layers states
AreOf i _ _ = ⊥

-- They stay so through a run, whatever it does.
abbrev pub RunsKeepMembers : Type 0
RunsKeepMembers = (i : Input) (stack : List LayerTree) (states : List State) (most : ℕ) (task : Task Event) →
    AreOf i stack states → AreOf i stack (run most stack states task).world.states

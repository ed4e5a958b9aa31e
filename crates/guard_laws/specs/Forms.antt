-- That what is simplified stays as well formed as it was.
use Rattle.std.specs.Prelude.{◌≡◌, true, List}
use Rattle.std.specs.List.{list_all}
use Rattle.layer_mean.specs.State.{State}
use Rattle.layer_mean.specs.Tree.{LayerTree}
use Rattle.trace_mean.specs.Trace.{Guarded}
use Rattle.trace_mean.specs.Worth.{Input}
use Rattle.trace_mean.specs.Follow.{on, before, is_done}
use Rattle.trace_laws.specs.Safe.{SafeTrace}
use Rattle.trace_form_laws.specs.Closed.{Reach, Closed}
use Rattle.trace_form_laws.specs.There.{AreThere}
use Rattle.guard_mean.specs.Simplify.{simplified}

-- Its operations have no checks if they had none, name what there is, and are safe where they were.
pub record StaysFormed (stack : List LayerTree) (g : Guarded) : Type 0 where
  pub unchecked : list_all is_done g.operations ≡ true → list_all is_done (simplified g).operations ≡ true
  pub closed : (r : Reach) → Closed stack r g.operations → Closed stack r (simplified g).operations
  pub there : AreThere stack g.operations → AreThere stack (simplified g).operations
  pub safe : (i : Input) (states : List State) → SafeTrace stack i g.operations (on (before states)) →
      SafeTrace stack i (simplified g).operations (on (before states))

abbrev pub SimplifiedStaysFormed : Type 0
SimplifiedStaysFormed = (stack : List LayerTree) (g : Guarded) → StaysFormed stack g

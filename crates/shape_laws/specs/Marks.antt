-- That the log of a run tells the run.
use Rattle.std.specs.Prelude.{◌≡◌, ℕ, List, map, length}
use Rattle.layer_mean.specs.declared.run.Event.{Event}
use Rattle.layer_mean.specs.Tree.{LayerTree}
use Rattle.layer_mean.specs.State.{State}
use Rattle.layer_mean.specs.Queue.{Task, Line, Work, layers, run_for, run}
use Rattle.layer_mean.specs.Marked.{Log, Marked, marking_player}
use Rattle.shape_laws.specs.Law.{run_start}

-- A log is a run's where its world and its tasks are those of the run, and the logged outputs and visits are the run's
-- outputs and as many visits.
pub record Tells (r : Line (Log Work Event) (Marked Event)) (plain : Line Work Event) : Type 0 where
  pub world : r.world.world ≡ plain.world
  pub tasks : map (λ t. record { at = t.at; dir = t.dir; event = t.event.event }) r.tasks ≡ plain.tasks
  pub outs : map (λ x. (x.dir, x.marked.event)) r.world.outs ≡ plain.world.outs
  pub visits : length r.world.visits ≡ plain.world.visits

-- Marks change nothing: a marked run tells the run without them.
abbrev pub LogsTellRuns : Type 0
LogsTellRuns = (stack : List LayerTree) (states : List State) (task : Task Event) (most : ℕ) →
    Tells (run_for (length stack) (marking_player (layers stack)) most (run_start states task))
    (run most stack states task)

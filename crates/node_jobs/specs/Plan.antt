-- What a node needs of its plan, and what its run over that gives.
use Rattle.std.specs.Prelude.{◌≡◌, ◌⊎◌, ℕ, ◌<◌, All, List, length, Some, Result, Ok, Err}
use Rattle.std.specs.List.{AllByRecursion}
use Rattle.outside.specs.declared.sink.SinkError.TheVariants as sink
use Rattle.layer_mean.specs.Tree.{LayerTree}
use Rattle.script_mean.specs.declared.plan.NodePlan.{NodePlan}
use Rattle.script_text.specs.Plan.{IsRunnable}
use Rattle.end_mean.specs.Status.{Ended, done, second_refused, write_failed, link_failed, no_memory}
use Rattle.group_mean.specs.Shown.{shown_mode}
use Rattle.job_text.specs.declared.named.NodeJob as given
use Rattle.group_mean.specs.Node.{node_words}
use Rattle.group_mean.specs.Room.{HasRoom}
use Rattle.program_mean.specs.Second.{after_plan}
use Rattle.node_laws.specs.Stages.{AreOrdered}
use Rattle.node_loop.specs.Feeding.{IsOwn}
use Rattle.node_loop.specs.Serve.{MadeAllTurns, Task, Whereabouts}
use Rattle.node_loop.specs.declared.error.NodeError.{NodeError}
use Rattle.node_loop.specs.declared.error.NodeError.TheVariants.{Link, Write, Memory}
use Rattle.node_jobs.specs.Comes.{Node, Lost, Broken}

-- The words of a node's job.
abbrev pub words_of : given.NodeJob → Node
words_of n = record {
  file = n.file.now;
  plan = n.plan.now;
  turns = n.turns;
  me = n.members.items;
  patience = n.patience;
  mode = shown_mode n.mode;
}

-- A plan of 1 to 32 members, whose lines come in order and are events of members.
pub record IsServable (plan : NodePlan) : Type 0 where
  pub runs : IsRunnable plan
  pub ordered : AreOrdered 0 plan.turns
  pub own : AllByRecursion (λ entry. IsOwn entry.1) plan.turns

-- A plan's group has a node's own members, and its members have room.
pub record IsReady (stack : List LayerTree) (plan : NodePlan) (me : List ℕ) : Type 0 where
  pub members : All (λ id. id < length plan.peers) me
  pub room : HasRoom stack (length plan.peers)

-- What a node of these words is to do.
abbrev pub task : List LayerTree → NodePlan → Node → Task
task stack plan w = record { stack = stack; plan = plan; words = node_words w.turns w.me w.patience w.mode }

-- It ran, and something holds of its run.
pub record Served (stack : List LayerTree) (plan : NodePlan) (w : Node) (Holds : Task → Whereabouts → Whereabouts →
    Type 0) (a b : Whereabouts) : Type 0 where
  pub ready : IsReady stack plan w.me
  pub served : Holds (task stack plan w) a b

-- How it ended: its own members or their rows are refused, memory ran out before it ran, or it ran.
abbrev pub RunsPlan : List LayerTree → NodePlan → Node → Whereabouts → Whereabouts → Ended → Type 0
RunsPlan stack plan w a b done = Served stack plan w MadeAllTurns a b
RunsPlan stack plan w a b (second_refused fault) = (after_plan stack w.me (Ok plan) ≡ Some fault) × (b ≡ a)
RunsPlan stack plan w a b write_failed = Served stack plan w (Broken sink.Failed) a b
RunsPlan stack plan w a b link_failed = Served stack plan w Lost a b
RunsPlan stack plan w a b no_memory = (b ≡ a) ⊎ Served stack plan w (Broken sink.Memory) a b
RunsPlan stack plan w a b _ = ⊥

-- How a node ends if its group ran.
abbrev pub end_of : Result (Unit {0}) NodeError → Ended
end_of (Ok served) = done
end_of (Err Link) = link_failed
end_of (Err Write) = write_failed
end_of (Err Memory) = no_memory

-- Scripts that are explained event by event.
use Rattle.std.specs.Prelude.{◌≡◌, ℕ, List, [], ◌∷◌, length, Result, Ok, Err}
use Rattle.std.specs.List.{enumerate_from, flat_map}
use Rattle.group_feed.specs.Standing.{Peopled, Stands}
use Rattle.run_mean.specs.Mode.{bypass}
use Rattle.layer_ast.specs.Tree.{FileTree}
use Rattle.layer_mean.specs.Tree.{LayerTree}
use Rattle.miss_mean.specs.Text.{event_misses, miss_line}
use Rattle.msg_core.specs.declared.message.Memory.{Memory}
use Rattle.outside.specs.Lines.{Gains, Wrote}
use Rattle.outside.specs.Tells.{Tells}
use Rattle.outside.specs.declared.sink.SinkError.{SinkError}
use Rattle.run_mean.specs.Report.{Moment, moments}
use Rattle.run_mean.specs.World.{World, first_world, happens}
use Rattle.script_mean.specs.declared.event.ScriptEvent.{ScriptEvent}
use Rattle.script_mean.specs.declared.script.Script.{Script}
use Rattle.stack_mean.specs.Acceptance.{largest_weight}
use Rattle.stack_mean.specs.Plan.{Plan}
use Rattle.step_misses.specs.Misses.{miss_meant}
use Rattle.step_misses.specs.declared.miss.Probed.{Probed}
use Rattle.step_misses.specs.declared.miss.Probed.TheVariants.{Common, Missed}
use Rattle.miss_explain.specs.Told.{IsTold}

-- A group runs this stack with these plans by bypasses, and there is room for the outputs of a step.
pub record IsReady (stack : List LayerTree) (plans : List Plan) (c : Peopled) (places : ℕ) : Type 0 where
  pub mode_is : c.mode ≡ bypass
  pub stack_is : c.stack ≡ stack
  pub plans_are : c.plans ≡ plans
  pub room : places ≡ largest_weight stack

-- A ready group stands where the group of a script begins.
pub record IsAtFirst (stack : List LayerTree) (plans : List Plan) (s : Script) (c : Peopled) (places : ℕ) : Type 0 where
  pub ready : IsReady stack plans c places
  pub world : Stands c (first_world stack s.group s.stamp s.members)
  pub count : length c.members ≡ s.members

-- A group stands where a world of the definitions does.
pub record SomeWorld (c : Peopled) : Type 0 where
  pub world : World
  pub stands : Stands c world

-- An event leaves a group ready, with as many members.
pub record Keeps (stack : List LayerTree) (plans : List Plan) (c c' : Peopled) (places : ℕ) : Type 0 where
  pub ready : IsReady stack plans c' places
  pub count : length c'.members ≡ length c.members

-- An event was fed.
abbrev pub FedOn : Peopled → ScriptEvent → World → Peopled → Result (Unit {0}) Memory → Type 0
FedOn c event w c' (Ok done) = Stands c' (happens c.stack c.plans w event).world
FedOn c event w c' (Err memory) = Unit {0}

-- An event was fed, unless it was made as a common step when it was probed.
abbrev pub Follows : Probed → Peopled → ScriptEvent → World → Peopled → Result (Unit {0}) Memory → Type 0
Follows Common c event w c' result = c' ≡ c
Follows _ c event w c' result = FedOn c event w c' result

-- The line of an event that was probed, if it lacked something that may be told.
abbrev pub MayBeTold : List LayerTree → List Plan → Probed → Type 0
MayBeTold stack plans (Missed miss) = IsTold stack plans (miss_meant miss)
MayBeTold stack plans _ = Unit {0}

abbrev pub probed_lines : FileTree → List LayerTree → List Plan → ℕ → ℕ → Probed → List (List ℕ)
probed_lines file stack plans event id (Missed miss) = miss_line file stack plans event id (miss_meant miss) ∷ []
probed_lines file stack plans event id _ = []

-- The moment of an event, and its line.
abbrev pub moment_of : List LayerTree → List Plan → World → ScriptEvent → Moment
moment_of stack plans w event = record { before = w; event = event; happening = happens stack plans w event }

abbrev pub lines_at : FileTree → List LayerTree → List Plan → ℕ → World → ScriptEvent → List (List ℕ)
lines_at file stack plans number w event = event_misses file stack plans (number, moment_of stack plans w event)

-- An event was fed, and its line is written; or that was cut short.
pub record IsExplained (file : FileTree) (stack : List LayerTree) (plans : List Plan) (number : ℕ) (w : World)
    (event : ScriptEvent) (c' : Peopled)
    (before after : Tells) : Type 0 where
  pub world : Stands c' (happens stack plans w event).world
  pub gained : Gains before after (lines_at file stack plans number w event)

abbrev pub Explains : FileTree → List LayerTree → List Plan → ℕ → World → ScriptEvent → Peopled →
    (before after : Tells) →
    Result (Unit {0}) SinkError → Type 0
Explains file stack plans number w event c' before after (Ok done) =
    IsExplained file stack plans number w event c' before after
Explains file stack plans number w event c' before after (Err e) =
    Wrote (lines_at file stack plans number w event) before after (Err e)

-- The lines of events from a world on, the first of them with this number; and those of a script.
abbrev pub misses_from : FileTree → List LayerTree → List Plan → ℕ → World → List ScriptEvent → List (List ℕ)
misses_from file stack plans number w events =
    flat_map (event_misses file stack plans) (enumerate_from number (moments stack plans w events))

abbrev pub script_misses : FileTree → List LayerTree → List Plan → Script → List (List ℕ)
script_misses file stack plans s = misses_from file stack plans 1 (first_world stack s.group s.stamp s.members) s.events

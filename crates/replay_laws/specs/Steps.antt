-- Each moment of a replay is a step of the definition, with all that laws of steps ask, or leaves the world as it was.
use Rattle.std.specs.Prelude.{◌≡◌, ℕ, List, Ok}
use Rattle.std.specs.List.{AllByRecursion}
use Rattle.layer_mean.specs.Tree.{LayerTree}
use Rattle.layer_mean.specs.State.{State}
use Rattle.msg_core.specs.declared.packet.View.{View}
use Rattle.stack_mean.specs.Acceptance.{acceptance}
use Rattle.stack_mean.specs.Plans.{plans_of}
use Rattle.script_mean.specs.Event.{member_of}
use Rattle.script_mean.specs.Script.{script_of}
use Rattle.script_mean.specs.declared.event.ScriptEvent.{ScriptEvent}
use Rattle.script_mean.specs.declared.script.Script.{Script}
use Rattle.run_mean.specs.Member.{inside, Step, step_from}
use Rattle.run_mean.specs.World.{World, member_at, here_of, world_after, Did, taken}
use Rattle.run_mean.specs.Report.{Moment, moments, run_of}
use Rattle.output_mean.specs.Judged.{Means}
use Rattle.chain_laws.specs.Runs.{TypedStack}
use Rattle.member_laws.specs.Members.{IsGivenEvent, IsChainedWorld, IsChainedMoment}
use Rattle.member_laws.specs.Steps.{IsStep}
use Rattle.replay_laws.specs.Scripts.{IsGivenScript}
use Rattle.replay_laws.specs.Standing.{StandIn, IsStandingWorld, IsStandingMoment}

-- A step is that of a moment: before the moment its event's member is in a view, with states that have its rank, its
-- count of members and its ltime (`StandIn`); the states are chained and what entered is in range (`IsStep`); the step
-- is the definition's from there; and the world after the moment is the one before it, after this step.
pub record IsStepOf (stack : List LayerTree) (m : Moment) (s : Step) : Type 0 where
  pub view : View
  pub states : List State
  pub member : member_at m.before (member_of m.event) ≡ inside view states
  pub standing : StandIn view (member_of m.event) states
  pub step : IsStep stack (here_of m.before view (member_of m.event)) states s.entered
  pub is : s ≡ step_from stack (here_of m.before view (member_of m.event)) (member_of m.event) states s.entered
  pub world : m.happening.world ≡ world_after m.before view (member_of m.event) s

-- What an event did is so: a step that was taken is the moment's (`IsStepOf`); a refusal, a packet that doesn't exist
-- and a member that is shown leave the world as it was.
abbrev pub ComesTo : List LayerTree → Moment → Did → Type 0
ComesTo stack m (taken s) = IsStepOf stack m s
ComesTo stack m _ = m.happening.world ≡ m.before

abbrev pub IsMoment : List LayerTree → Moment → Type 0
IsMoment stack m = ComesTo stack m m.happening.did

-- This holds in each run of events that are made of bytes and numbers, from a chained world whose members stand in
-- their views.
abbrev pub MomentsAreSteps : Type 0
MomentsAreSteps = (stack : List LayerTree) (w : World) (events : List ScriptEvent) → TypedStack stack →
    AllByRecursion IsGivenEvent events →
    IsChainedWorld stack w → IsStandingWorld w →
    AllByRecursion (IsMoment stack) (moments stack (plans_of stack) w events)

-- The bytes of a file mean an accepted stack, and other bytes spell a script.
pub record IsReplay (file script_text : List ℕ) (stack : List LayerTree) (script : Script) : Type 0 where
  pub means : Means file stack
  pub spelled : script_of script_text ≡ Ok script

-- Then the stack is accepted and typed, the script is made of bytes and numbers, and along its run each world is
-- chained, each member stands in its view, and each moment is such a step or leaves the world as it was.
pub record IsPlayed (stack : List LayerTree) (script : Script) : Type 0 where
  pub accepts : acceptance stack ≡ Ok stack
  pub typed : TypedStack stack
  pub given : IsGivenScript script
  pub chained : AllByRecursion (IsChainedMoment stack) (run_of stack (plans_of stack) script)
  pub standing : AllByRecursion IsStandingMoment (run_of stack (plans_of stack) script)
  pub moments : AllByRecursion (IsMoment stack) (run_of stack (plans_of stack) script)

abbrev pub ReplaysArePlayed : Type 0
ReplaysArePlayed = (file script_text : List ℕ) (stack : List LayerTree) (script : Script) →
    IsReplay file script_text stack script →
    IsPlayed stack script

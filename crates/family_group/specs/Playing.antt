-- What it is to play the events of choices in a group.
use Rattle.std.specs.Prelude.{◌≡◌, ℕ, Bool, true, false, List, map, take, Result, Ok, Err}
use Rattle.msg_core.specs.declared.message.Memory.{Memory}
use Rattle.run_mean.specs.World.{World, happens}
use Rattle.script_mean.specs.declared.event.ScriptEvent.{ScriptEvent}
use Rattle.script_mean.specs.declared.script.Script.{Script}
use Rattle.stack_mean.specs.Plans.{plans_of}
use Rattle.group_feed.specs.Standing.{Peopled, Stands, Stays}
use Rattle.view_core.specs.declared.step.Did.{Did}
use Rattle.view_core.specs.declared.step.Did.TheVariants.{Stepped, Absent, Shown}
use Rattle.view_core.specs.declared.step.Stepped as step
use Rattle.view_core.specs.declared.step.Stepped.TheVariants.{Taken, Refused}
use Rattle.family_mean.specs.Family.{IsTaken, world_after}
use Rattle.family_search.specs.Coming.{Decides}
use Rattle.family_search.specs.Trying.{event_in}
use Rattle.family_search.specs.declared.choice.Choice.{Choice}

-- The script of the events of choices among acts, in their group.
abbrev pub script_in : Script → List Choice → Script
script_in acts past = record acts { events = map (event_in acts.events) past }

-- An event happened, and it is told whether its member took it.
pub record Happened (c : Peopled) (w : World) (e : ScriptEvent) (c' : Peopled) (taken : Bool) : Type 0 where
  pub world : Stands c' (happens c.stack (plans_of c.stack) w e).world
  pub taken_is : Decides (IsTaken (happens c.stack (plans_of c.stack) w e).did) taken

-- It happened, or memory ran out.
abbrev pub FeedsOne : Peopled → World → ScriptEvent → Peopled → Result Bool Memory → Type 0
FeedsOne c w e c' (Ok taken) = Happened c w e c' taken
FeedsOne c w e c' (Err memory) = Unit {0}

-- All happened, or memory ran out.
abbrev pub PlaysAll : Peopled → List ScriptEvent → World → List Choice → Peopled → Result (Unit {0}) Memory → Type 0
PlaysAll c acts w past c' (Ok done) = Stands c' (world_after c.stack w (map (event_in acts) past))
PlaysAll c acts w past c' (Err memory) = Unit {0}

-- Whether an answer tells of a step that was taken.
abbrev pub took_step : step.Stepped → Bool
took_step (Taken common change) = true
took_step (Refused refusal) = false

-- Whether what happened is a step that was taken.
abbrev pub took : Did → Bool
took (Stepped stepped) = took_step stepped
took _ = false

-- The events of the first choices happened.
pub record Played (c : Peopled) (acts : List ScriptEvent) (past : List Choice) (k : ℕ) (c' : Peopled) : Type 0 where
  pub stays : Stays c c'
  pub world : (w : World) → Stands c w → c.plans ≡ plans_of c.stack →
      Stands c' (world_after c.stack w (map (event_in acts) (take k past)))

-- They did, and there is as much room for outputs as before.
pub record Playing (c : Peopled) (acts : List ScriptEvent) (past : List Choice) (k : ℕ) (c' : Peopled)
    (places room : ℕ) : Type 0 where
  pub played : Played c acts past k c'
  pub places_are : room ≡ places

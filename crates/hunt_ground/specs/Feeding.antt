-- What an event that happens in a group yields.
use Rattle.std.specs.Prelude.{◌≡◌, ℕ, ◌≤◌, length, Option, Some, None, Result, Ok, Err}
use Rattle.msg_core.specs.declared.message.Memory.{Memory}
use Rattle.run_mean.specs.World.{World, happens}
use Rattle.script_mean.specs.Event.{member_of}
use Rattle.script_mean.specs.declared.event.ScriptEvent.{ScriptEvent}
use Rattle.view_core.specs.declared.step.Did.{Did}
use Rattle.group_feed.specs.Standing.{Peopled, Stands, Stays}

-- The event happened, and the group stands at the world after it; or the event names a member that the group doesn't
-- have, and nothing changed; or memory ran out.
abbrev pub Feeds : Peopled → World → ScriptEvent → Peopled → Result (Option Did) Memory → Type 0
Feeds c w event c' (Ok (Some did)) = Stands c' (happens c.stack c.plans w event).world
Feeds c w event c' (Ok None) = (length c.members ≤ member_of event) × (c' ≡ c)
Feeds c w event c' (Err memory) = Stays c c'

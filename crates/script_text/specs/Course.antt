-- A script that is made event by event.
use Rattle.std.specs.Prelude.{◌≡◌, ℕ, ◌+◌, ◌<◌, ◌≤◌, Some, length, slice_get}
use Rattle.msg_core.specs.View.{most_members}
use Rattle.script_mean.specs.Event.{member_of}
use Rattle.script_mean.specs.Generate.{generate, generator_after}
use Rattle.script_mean.specs.declared.event.ScriptEvent.{ScriptEvent}
use Rattle.script_mean.specs.declared.script.Script.{Script}
use Rattle.script_text.specs.Making.{IsWithin}
use Rattle.script_text.specs.declared.generating.Workload.{Workload}
use Rattle.script_text.specs.declared.maker.Maker.{Maker}

-- The script of a workload.
abbrev pub script_for : Workload → Script
script_for w = generate w.seed w.events w.members w.raw

-- How far the script of a workload is made: its first `made` events.
pub record Course : Type 0 where
  pub workload : Workload
  pub made : ℕ

-- The next event is the script's event of this number, and its member is one of the group's.
pub record IsNext (old new : Course) (event : ScriptEvent) : Type 0 where
  pub event_is : slice_get (script_for old.workload).events old.made ≡ Some event
  pub of_member : member_of event < old.workload.members
  pub course : new ≡ record { workload = old.workload; made = old.made + 1 }

-- A maker stands where the first events of a script are made from a seed, for 1 to 32 members.
pub record IsAt (seed made : ℕ) (m : Maker) : Type 0 where
  pub seed_is : (generator_after seed m.members m.raw made).seed ≡ m.seed.value
  pub cursors_are : (generator_after seed m.members m.raw made).cursors ≡ m.cursors.items
  pub count : length m.cursors.items ≡ m.members
  pub within : IsWithin made m.cursors.items
  pub some_member : 1 ≤ m.members
  pub most : m.members ≤ most_members

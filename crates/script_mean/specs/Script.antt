-- Which script a text spells, or its first fault.
use Rattle.std.specs.Prelude.{ℕ, ◌<◌, ◌≤◌, nat_lt, All, List, [], ◌∷◌, Option, Some, None, Result, Ok, Err}
use Rattle.std.specs.Prelude.{if◌then◌else◌}
use Rattle.script_mean.specs.Lines.{is_too_long, said_lines}
use Rattle.script_mean.specs.Event.{group_line, event_line, said_by, member_of}
use Rattle.script_mean.specs.declared.script.Script.{Script}
use Rattle.script_mean.specs.declared.event.ScriptEvent.{ScriptEvent}
use Rattle.msg_core.specs.View.{most_members}

-- why a text spells no script or plan; lines are counted from 1
pub data ScriptFault : Type 0 where
  too_long : ScriptFault
  bad_line : (line : ℕ) → ScriptFault
  no_member : (line : ℕ) → ScriptFault

infixl 10 ◌>>=◌
-- the second step, if the first found no fault
abbrev pub ◌>>=◌ : {A B : Type 0} → Result A ScriptFault → (A → Result B ScriptFault) → Result B ScriptFault
Ok value >>= next = next value
Err fault >>= next = Err fault

-- what a line says, if it is in form
abbrev pub in_form : {A : Type 0} → ℕ → Option A → Result A ScriptFault
in_form line None = Err (bad_line line)
in_form line (Some said) = Ok said

-- the event, if its member is one of the members 0 to `members` - 1
abbrev pub of_member : ℕ → ℕ → ScriptEvent → Result ScriptEvent ScriptFault
of_member members line event = if nat_lt (member_of event) members then Ok event else Err (no_member line)

-- the event of a numbered line; its form is judged before its member
abbrev pub event_of : ℕ → ℕ × List ℕ → Result ScriptEvent ScriptFault
event_of members line = do
  event ← in_form line.0 (said_by event_line line.1)
  of_member members line.0 event

-- the events of the lines, or the fault of the first line that has one
abbrev pub events_of : ℕ → List (ℕ × List ℕ) → Result (List ScriptEvent) ScriptFault
events_of members [] = Ok []
events_of members (line ∷ lines) = do
  event ← event_of members line
  events ← events_of members lines
  Ok (event ∷ events)

-- the script of the lines that say something: the first is the group's line, and each other one an event's
abbrev pub script_of_lines : List (ℕ × List ℕ) → Result Script ScriptFault
script_of_lines [] = Err (bad_line 1)
script_of_lines (first ∷ lines) = do
  opening ← in_form first.0 (said_by group_line first.1)
  events ← events_of opening.members lines
  Ok (record { group = opening.group; stamp = opening.stamp; members = opening.members; events = events })

-- the script that a text spells, unless it is too long
abbrev pub script_of : List ℕ → Result Script ScriptFault
script_of text = if is_too_long text then Err too_long else script_of_lines (said_lines text)

-- a script whose events can be run: it has 1 to 32 members, and each event is of one of them
pub record IsRunnable (script : Script) : Type 0 where
  pub some_member : 1 ≤ script.members
  pub most_members : script.members ≤ most_members
  pub of_members : All (λ event. member_of event < script.members) script.events

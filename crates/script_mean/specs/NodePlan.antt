-- Which plan of a node a text spells, or its first fault.
use Rattle.std.specs.Prelude.{ℕ, ◌+◌, nat_lt, List, [], ◌∷◌, length, take, drop, Result, Ok, Err, if◌then◌else◌}
use Rattle.outside.specs.declared.links.Peer.{Peer}
use Rattle.script_mean.specs.Lines.{is_too_long, line_count, said_lines}
use Rattle.script_mean.specs.Event.{group_line, said_by}
use Rattle.script_mean.specs.PlanLine.{peer_line, turn_line}
use Rattle.script_mean.specs.Script.{ScriptFault, too_long, bad_line, ◌>>=◌, in_form, of_member}
use Rattle.script_mean.specs.declared.plan.NodePlan.{NodePlan}
use Rattle.script_mean.specs.declared.event.ScriptEvent.{ScriptEvent}

-- the peers of the lines, one line for each member from this one on
abbrev pub peers_of : ℕ → List (ℕ × List ℕ) → Result (List Peer) ScriptFault
peers_of member [] = Ok []
peers_of member (line ∷ lines) = do
  peer ← in_form line.0 (said_by (peer_line member) line.1)
  peers ← peers_of (member + 1) lines
  Ok (peer ∷ peers)

-- the peers, if there is one for each of n members; else the line after the last is at fault
abbrev pub for_each : ℕ → ℕ → List Peer → Result (List Peer) ScriptFault
for_each members following peers = if nat_lt (length peers) members then Err (bad_line following) else Ok peers

-- the turn of a numbered line; its form, which has no earlier turn than this, is judged before its member
abbrev pub turn_of : ℕ → ℕ → ℕ × List ℕ → Result (ℕ × ScriptEvent) ScriptFault
turn_of members earliest line = do
  turn ← in_form line.0 (said_by (turn_line earliest) line.1)
  event ← of_member members line.0 turn.1
  Ok (turn.0, event)

-- the turns of the lines, none of them before the one in front
abbrev pub turns_of : ℕ → ℕ → List (ℕ × List ℕ) → Result (List (ℕ × ScriptEvent)) ScriptFault
turns_of members earliest [] = Ok []
turns_of members earliest (line ∷ lines) = do
  turn ← turn_of members earliest line
  turns ← turns_of members turn.0 lines
  Ok (turn ∷ turns)

-- the plan of the lines that say something: the group's line, a line for each member's peer, and turns;
-- `following` is the number of the line after the last
abbrev pub plan_of_lines : ℕ → List (ℕ × List ℕ) → Result NodePlan ScriptFault
plan_of_lines following [] = Err (bad_line 1)
plan_of_lines following (first ∷ lines) = do
  opening ← in_form first.0 (said_by group_line first.1)
  found ← peers_of 0 (take opening.members lines)
  peers ← for_each opening.members following found
  turns ← turns_of opening.members 0 (drop opening.members lines)
  Ok (record { group = opening.group; stamp = opening.stamp; peers = peers; turns = turns })

-- the plan of a node that a text spells, unless it is too long
abbrev pub node_plan : List ℕ → Result NodePlan ScriptFault
node_plan text = if is_too_long text then Err too_long else plan_of_lines (line_count text + 1) (said_lines text)

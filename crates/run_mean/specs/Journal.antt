-- A node: some members of a group that run over a network. Its journal is a list of script events, whatever the network
-- and the clock gave; what it writes is the report of these, and what it hands to the network are their packets.
use Rattle.std.specs.Prelude.{ℕ, zero, suc, ◌+◌, ◌==◌, ◌&&◌, not, List, [], ◌∷◌, ◌++◌, map, length, take, drop, zip}
use Rattle.std.specs.Prelude.{replicate, slice_get, codes, Option, Some, None, option_to_list}
use Rattle.std.specs.List.{flat_map, filter, filter_map, list_any}
use Rattle.std.specs.Fmt.{decimal}
use Rattle.msg_core.specs.declared.packet.Dest.{Dest}
use Rattle.msg_core.specs.declared.packet.Dest.TheVariants.{All, Rank}
use Rattle.msg_core.specs.declared.packet.View.{View}
use Rattle.layer_mean.specs.Tree.{LayerTree}
use Rattle.script_mean.specs.Event.{member_of}
use Rattle.script_mean.specs.EventText.{event_text}
use Rattle.script_mean.specs.declared.event.ScriptEvent.{ScriptEvent}
use Rattle.script_mean.specs.declared.event.ScriptEvent.TheVariants.{Tick, Raw}
use Rattle.script_mean.specs.declared.plan.NodePlan.{NodePlan}
use Rattle.stack_mean.specs.Plan.{Plan}
use Rattle.run_mean.specs.Mode.{Mode}
use Rattle.run_mean.specs.Common.{with_plans, as_sent, wire}
use Rattle.run_mean.specs.Lines.{line}
use Rattle.run_mean.specs.Member.{Output, packet}
use Rattle.run_mean.specs.Report.{Annex, lines_of_outputs, Moment, moments, lines_of, first_number, end_line}
use Rattle.msg_core.specs.View.{ids}
use Rattle.run_mean.specs.World.{Did, taken, first_world}

-- What a member hears when it asks the network: a datagram, nothing, or a failure.
pub data Heard : Type 0 where
  datagram : (bytes : List ℕ) → Heard
  silence : Heard
  failure : Heard

-- What a node notes as it runs: an event that one of its own members takes, or that a member couldn't hear.
pub data Note : Type 0 where
  fed : ScriptEvent → Note
  deaf : (id : ℕ) → Note

-- What the members heard in a turn, and how many more failures are borne. A failure that isn't borne leaves None here,
-- and nothing is heard after it.
pub record Hearing : Type 0 where
  pub notes : List Note
  pub patience : Option ℕ

-- What was heard, with one more note before the others.
abbrev pub noting : Note → Hearing → Hearing
noting note h = record h { notes = note ∷ h.notes }

-- What members heard, where `patience` failures are borne: a datagram is an event of the member that heard it.
abbrev pub hearing : ℕ → List (ℕ × Heard) → Hearing
hearing patience [] = record { notes = []; patience = Some patience }
hearing patience ((id, datagram bytes) ∷ rest) = noting (fed (Raw id bytes)) (hearing patience rest)
hearing patience ((id, silence) ∷ rest) = hearing patience rest
hearing zero ((id, failure) ∷ rest) = record { notes = []; patience = None }
hearing (suc patience) ((id, failure) ∷ rest) = noting (deaf id) (hearing patience rest)

-- The plan's events of a turn for a node's own members, in order.
abbrev pub planned_events : NodePlan → List ℕ → ℕ → List ScriptEvent
planned_events plan me t =
    map (λ x. x.1) (filter (λ x. (x.0 == t) && list_any (λ id. member_of x.1 == id) me) plan.turns)

-- What follows, unless a failure wasn't borne.
abbrev pub while_patient : Option ℕ → (ℕ → List Note) → List Note
while_patient None next = []
while_patient (Some left) next = next left

-- The notes from a turn on: a tick of the turn's moment at each own member, what the members heard, and the plan's
-- events. They end where no moment is left, or at a failure that isn't borne; what was heard earlier in that turn stays
-- among them.
abbrev pub notes_from : NodePlan → List ℕ → (t turns patience : ℕ) (moments : List ℕ) (heard : List Heard) → List Note
notes_from plan me t zero patience clock heard = []
notes_from plan me t (suc turns) patience [] heard = []
notes_from plan me t (suc turns) patience (moment ∷ clock) heard =
    let h = hearing patience (zip me (take (length me) heard)) in
    map (λ id. fed (Tick id moment)) me ++ h.notes
    ++ while_patient h.patience (λ left.
    map fed (planned_events plan me t) ++ notes_from plan me (t + 1) turns left clock (drop (length me) heard))

-- The notes of a node, from its plan, its own members, the numbers of turns that it makes and of failures that it
-- bears, what its clock told in each turn, and what its members heard.
abbrev pub notes_of : NodePlan → List ℕ → (turns patience : ℕ) → List ℕ → List Heard → List Note
notes_of plan me turns patience clock heard = notes_from plan me 0 turns patience clock heard

-- The event of a note, if it is one.
abbrev pub event_in : Note → Option ScriptEvent
event_in (fed event) = Some event
event_in (deaf id) = None

-- The journal of a node: the events of its notes, in order.
abbrev pub journal : List Note → List ScriptEvent
journal notes = filter_map event_in notes

-- The moments of a journal under a plan's first line.
abbrev pub node_run : List LayerTree → List Plan → NodePlan → List Note → List Moment
node_run stack plans plan notes =
    moments stack plans (first_world stack plan.group plan.stamp (length plan.peers)) (journal notes)

-- A datagram that is handed to the network: from a member, to a member.
pub record Handed : Type 0 where
  pub from : ℕ
  pub to : ℕ
  pub bytes : List ℕ

-- The members to which a packet goes: a cast to every other member of the sender's view, by ascending id; a send to the
-- member of its rank.
abbrev pub receivers : ℕ → View → Dest → List ℕ
receivers id view All = filter (λ other. not (other == id)) (ids view)
receivers id view (Rank rank) = option_to_list (slice_get (ids view) rank)

-- The datagrams that a member hands to the network for an output: for a packet, one to each receiver, short under the
-- output's plan if it has one.
abbrev pub handed_output : List Plan → ℕ → Output × Option ℕ → List Handed
handed_output plans id (packet p, plan) =
    map (λ to. record { from = id; to = to; bytes = wire plans p plan }) (receivers id p.view p.dest)
handed_output plans id (_, plan) = []

-- The datagrams that a member hands to the network, in a mode, for what one of its events gave: those of a step's
-- packets, in order.
abbrev pub handed_in : Mode → List LayerTree → List Plan → ℕ → Did → List Handed
handed_in mode stack plans id (taken s) = flat_map (handed_output plans id) (as_sent mode stack plans s)
handed_in mode stack plans id _ = []

-- What a run hands to the network in a mode, in order.
abbrev pub handed_datagrams : Mode → List LayerTree → List Plan → List Moment → List Handed
handed_datagrams mode stack plans run = flat_map (λ m. handed_in mode stack plans (member_of m.event) m.happening.did)
    run

-- After a packet's line, one line for each sending of it that failed.
abbrev pub lost_annex : (failed : ℕ → ℕ) → Annex
lost_annex failed k (packet p, plan) = replicate (failed k) (line (codes "lost" ∷ decimal k ∷ []))
lost_annex failed k (_, plan) = []

-- What a node writes of an event: `> ` and the event's line, then its report, with the packets that were lost.
abbrev pub node_moment_lines : List LayerTree → List Plan → (failed : ℕ → ℕ) → Moment → List (List ℕ)
node_moment_lines stack plans failed m =
    line (codes ">" ∷ event_text m.event ∷ [])
    ∷ lines_of stack
    (λ s. lines_of_outputs stack (lost_annex failed) (member_of m.event) (first_number m)
    (with_plans plans None s.outputs))
    m m.happening.did

-- What a node writes of its notes, whose events gave these moments. A member that couldn't hear has a line of its own
-- among theirs, in order.
abbrev pub note_lines : List LayerTree → List Plan → (failed : ℕ → ℕ) → List Note → List Moment → List (List ℕ)
note_lines stack plans failed (deaf id ∷ notes) run =
    line (codes "deaf" ∷ decimal id ∷ []) ∷ note_lines stack plans failed notes run
note_lines stack plans failed (fed event ∷ notes) (m ∷ run) =
    node_moment_lines stack plans failed m ++ note_lines stack plans failed notes run
note_lines stack plans failed _ _ = []

-- All that a node writes if it makes all its turns; the last line says how many events there were.
abbrev pub node_lines : List LayerTree → List Plan → (failed : ℕ → ℕ) → List Note → List Moment → List (List ℕ)
node_lines stack plans failed notes run = note_lines stack plans failed notes run ++ end_line (length run) ∷ []

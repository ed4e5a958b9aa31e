-- What a node does to its output and to its links, act by act and in order: a line is put, or a datagram handed on.
-- Each packet is handed on just after its line, and a sending that failed is told just after it.
use Rattle.std.specs.Prelude.{◌≡◌, ℕ, Bool, true, false, List, [], ◌∷◌, ◌++◌, map, take, drop, Option, Some, None}
use Rattle.std.specs.Prelude.{option_to_list}
use Rattle.std.specs.List.{filter_map}
use Rattle.layer_mean.specs.Tree.{LayerTree}
use Rattle.script_mean.specs.Event.{member_of}
use Rattle.script_mean.specs.declared.event.ScriptEvent.{ScriptEvent}
use Rattle.stack_mean.specs.Plan.{Plan}
use Rattle.run_mean.specs.Mode.{Mode}
use Rattle.run_mean.specs.Common.{as_sent}
use Rattle.run_mean.specs.Journal.{Handed, handed_output}
use Rattle.run_mean.specs.Lines.{absent_line, refused_line}
use Rattle.run_mean.specs.Member.{Output}
use Rattle.run_mean.specs.Report.{installed_line, member_lines, number_following, output_lines, packet_given}
use Rattle.run_mean.specs.World.{World, Did, taken, refused, absent, shown, happens, member_at}
use Rattle.node_laws.specs.Doings.{Doing, does, asks, bears}
use Rattle.node_laws.specs.Losses.{deaf_line, event_lines, event_sends, fan, first_in, first_of, journal_line}
use Rattle.node_laws.specs.Losses.{lost_line, sends_of, written_of}

pub data Act : Type 0 where
  puts : (line : List ℕ) → Act
  sends : Handed → Act

-- The line that is put, and the datagram that is handed on; and those of some acts.
abbrev pub line_in : Act → Option (List ℕ)
line_in (puts line) = Some line
line_in (sends handed) = None

abbrev pub send_in : Act → Option Handed
send_in (puts line) = None
send_in (sends handed) = Some handed

abbrev pub lines_in : List Act → List (List ℕ)
lines_in acts = filter_map line_in acts

abbrev pub sends_in : List Act → List Handed
sends_in acts = filter_map send_in acts

-- A sending that failed is told.
abbrev pub lost_acts : ℕ → List Bool → List Act
lost_acts k [] = []
lost_acts k (true ∷ failed) = puts (lost_line k) ∷ []
lost_acts k (false ∷ failed) = []

-- A packet of this number is handed on; `failed` says of one sending after another whether it failed.
abbrev pub sending_acts : ℕ → List Handed → List Bool → List Act
sending_acts k [] failed = []
sending_acts k (h ∷ handed) failed = sends h ∷ (lost_acts k failed ++ sending_acts k handed (drop 1 failed))

-- Outputs whose packets are numbered from k on.
abbrev pub output_acts : List LayerTree → List Plan → (id k : ℕ) → Output × Option ℕ → List Bool → List Act
output_acts stack plans id k o failed = map puts (output_lines stack id k o.0) ++
    sending_acts k (handed_output plans id o) failed

abbrev pub outputs_acts : List LayerTree → List Plan → (id k : ℕ) → List (Output × Option ℕ) → List Bool → List Act
outputs_acts stack plans id k [] failed = []
outputs_acts stack plans id k (o ∷ outs) failed =
    output_acts stack plans id k o (take (fan id o.0) failed)
    ++ outputs_acts stack plans id (number_following k o.0) outs (drop (fan id o.0) failed)

-- What an event of a member gave, where members run in a mode.
abbrev pub did_acts : Mode → List LayerTree → List Plan → World → ScriptEvent → Did → List Bool → List Act
did_acts mode stack plans w event (taken s) failed =
    outputs_acts stack plans (member_of event) (first_in w) (as_sent mode stack plans s) failed
    ++ map puts (map (installed_line (member_of event)) (option_to_list s.installs))
did_acts mode stack plans w event (refused refusal) failed = puts (refused_line (member_of event) refusal) ∷ []
did_acts mode stack plans w event absent failed = puts (absent_line (member_of event) (packet_given event)) ∷ []
did_acts mode stack plans w event shown failed =
    map puts (member_lines stack (member_of event) (member_at w (member_of event)))

abbrev pub event_acts : Mode → List LayerTree → List Plan → World → ScriptEvent → List Bool → List Act
event_acts mode stack plans w event failed =
    puts (journal_line event) ∷ did_acts mode stack plans w event (happens stack plans w event).did failed

-- All that a node does from a world on; `failed` says event by event which sendings failed.
abbrev pub acts_of : Mode → List LayerTree → List Plan → World → List Doing → List (List Bool) → List Act
acts_of mode stack plans w [] failed = []
acts_of mode stack plans w (does event ∷ doings) failed =
    event_acts mode stack plans w event (first_of failed) ++
    acts_of mode stack plans (happens stack plans w event).world doings (drop 1 failed)
acts_of mode stack plans w (asks id heard ∷ doings) failed = acts_of mode stack plans w doings failed
acts_of mode stack plans w (bears id ∷ doings) failed = puts (deaf_line id) ∷ acts_of mode stack plans w doings failed

-- What is written and handed on in these acts is what is written and handed on of events, and of all that a node does.
-- What is written depends on no mode: a line doesn't show how a packet is sent.
abbrev pub EventActs : Type 0
EventActs = (mode : Mode) (stack : List LayerTree) (plans : List Plan) (w : World) (event : ScriptEvent)
    (failed : List Bool) →
    (lines_in (event_acts mode stack plans w event failed) ≡ event_lines stack plans w event failed)
    × (sends_in (event_acts mode stack plans w event failed) ≡ event_sends mode stack plans w event)

abbrev pub ActsAreOfDoings : Type 0
ActsAreOfDoings = (mode : Mode) (stack : List LayerTree) (plans : List Plan) (w : World) (doings : List Doing)
    (failed : List (List Bool)) →
    (lines_in (acts_of mode stack plans w doings failed) ≡ written_of stack plans w doings failed)
    × (sends_in (acts_of mode stack plans w doings failed) ≡ sends_of mode stack plans w doings)

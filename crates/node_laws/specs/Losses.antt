-- What a node writes and hands on, event by event, given of each sending whether it failed.
use Rattle.std.specs.Prelude.{◌≡◌, ℕ, ◌+◌, ◌==◌, Bool, List, [], ◌∷◌, ◌++◌, length, take, drop, replicate, count_by}
use Rattle.std.specs.Prelude.{codes, Option, None}
use Rattle.std.specs.List.{filter_map}
use Rattle.std.specs.Fmt.{decimal}
use Rattle.layer_mean.specs.Tree.{LayerTree}
use Rattle.script_mean.specs.Event.{member_of}
use Rattle.script_mean.specs.EventText.{event_text}
use Rattle.script_mean.specs.declared.event.ScriptEvent.{ScriptEvent}
use Rattle.stack_mean.specs.Plan.{Plan}
use Rattle.run_mean.specs.Mode.{Mode}
use Rattle.run_mean.specs.Common.{with_plans}
use Rattle.run_mean.specs.Journal.{Handed, receivers, handed_datagrams, handed_in, journal, note_lines}
use Rattle.run_mean.specs.Lines.{line}
use Rattle.run_mean.specs.Member.{Output, packet}
use Rattle.run_mean.specs.Report.{number_following, output_lines, lines_of, moments, Moment}
use Rattle.run_mean.specs.World.{World, Did, taken, happens}
use Rattle.node_laws.specs.Doings.{Doing, does, asks, bears, note_in}

-- To how many members an output goes.
abbrev pub fan : ℕ → Output → ℕ
fan id (packet p) = length (receivers id p.view p.dest)
fan id _ = 0

-- How many failed.
abbrev pub failures_in : List Bool → ℕ
failures_in failed = count_by (λ f. f) failed

abbrev pub lost_line : ℕ → List ℕ
lost_line k = line (codes "lost" ∷ decimal k ∷ [])

abbrev pub deaf_line : ℕ → List ℕ
deaf_line id = line (codes "deaf" ∷ decimal id ∷ [])

abbrev pub journal_line : ScriptEvent → List ℕ
journal_line event = line (codes ">" ∷ event_text event ∷ [])

-- The lines of outputs whose packets are numbered from k on: after each packet's line, one for each sending of it that
-- failed. `failed` says of one sending after another whether it failed; those past its end didn't.
abbrev pub lossy_lines : List LayerTree → (id k : ℕ) → List (Output × Option ℕ) → List Bool → List (List ℕ)
lossy_lines stack id k [] failed = []
lossy_lines stack id k (o ∷ outs) failed =
    output_lines stack id k o.0 ++ replicate (failures_in (take (fan id o.0) failed)) (lost_line k)
    ++ lossy_lines stack id (number_following k o.0) outs (drop (fan id o.0) failed)

-- The number of the packet of each sending that failed.
abbrev pub losses : (id k : ℕ) → List (Output × Option ℕ) → List Bool → List ℕ
losses id k [] failed = []
losses id k (o ∷ outs) failed =
    replicate (failures_in (take (fan id o.0) failed)) k ++
    losses id (number_following k o.0) outs (drop (fan id o.0) failed)

-- An event in a world.
abbrev pub moment_at : List LayerTree → List Plan → World → ScriptEvent → Moment
moment_at stack plans w event = record { before = w; event = event; happening = happens stack plans w event }

abbrev pub first_in : World → ℕ
first_in w = length w.packets + 1

-- What is written of an event.
abbrev pub event_lines : List LayerTree → List Plan → World → ScriptEvent → List Bool → List (List ℕ)
event_lines stack plans w event failed =
    journal_line event
    ∷ lines_of stack (λ s. lossy_lines stack (member_of event) (first_in w) (with_plans plans None s.outputs) failed)
    (moment_at stack plans w event) (happens stack plans w event).did

abbrev pub losses_in : List Plan → World → ScriptEvent → Did → List Bool → List ℕ
losses_in plans w event (taken s) failed = losses (member_of event) (first_in w) (with_plans plans None s.outputs)
    failed
losses_in plans w event _ failed = []

abbrev pub event_losses : List LayerTree → List Plan → World → ScriptEvent → List Bool → List ℕ
event_losses stack plans w event failed = losses_in plans w event (happens stack plans w event).did failed

-- What is handed on of it in a mode.
abbrev pub event_sends : Mode → List LayerTree → List Plan → World → ScriptEvent → List Handed
event_sends mode stack plans w event = handed_in mode stack plans (member_of event) (happens stack plans w event).did

-- The first of some, or none.
abbrev pub first_of : List (List Bool) → List Bool
first_of [] = []
first_of (first ∷ rest) = first

-- The world after what was done.
abbrev pub following : List LayerTree → List Plan → World → List Doing → World
following stack plans w [] = w
following stack plans w (does event ∷ doings) = following stack plans (happens stack plans w event).world doings
following stack plans w (asks id heard ∷ doings) = following stack plans w doings
following stack plans w (bears id ∷ doings) = following stack plans w doings

-- What is written, lost and, in a mode, handed on by what a node does from a world on; `failed` says event by event
-- which sendings failed.
abbrev pub written_of : List LayerTree → List Plan → World → List Doing → List (List Bool) → List (List ℕ)
written_of stack plans w [] failed = []
written_of stack plans w (does event ∷ doings) failed =
    event_lines stack plans w event (first_of failed)
    ++ written_of stack plans (happens stack plans w event).world doings (drop 1 failed)
written_of stack plans w (asks id heard ∷ doings) failed = written_of stack plans w doings failed
written_of stack plans w (bears id ∷ doings) failed = deaf_line id ∷ written_of stack plans w doings failed

abbrev pub lost_of : List LayerTree → List Plan → World → List Doing → List (List Bool) → List ℕ
lost_of stack plans w [] failed = []
lost_of stack plans w (does event ∷ doings) failed =
    event_losses stack plans w event (first_of failed) ++ lost_of stack plans (happens stack plans w event).world doings
    (drop 1 failed)
lost_of stack plans w (asks id heard ∷ doings) failed = lost_of stack plans w doings failed
lost_of stack plans w (bears id ∷ doings) failed = lost_of stack plans w doings failed

abbrev pub sends_of : Mode → List LayerTree → List Plan → World → List Doing → List Handed
sends_of mode stack plans w [] = []
sends_of mode stack plans w (does event ∷ doings) =
    event_sends mode stack plans w event ++ sends_of mode stack plans (happens stack plans w event).world doings
sends_of mode stack plans w (asks id heard ∷ doings) = sends_of mode stack plans w doings
sends_of mode stack plans w (bears id ∷ doings) = sends_of mode stack plans w doings

-- The moments of what a node does.
abbrev pub moments_of : List LayerTree → List Plan → World → List Doing → List Moment
moments_of stack plans w doings = moments stack plans w (journal (filter_map note_in doings))

-- It writes the lines of its notes, with those of the sendings that failed, by the numbers of their packets.
abbrev pub WrittenIsOfNotes : Type 0
WrittenIsOfNotes = (stack : List LayerTree) (plans : List Plan) (w : World) (doings : List Doing)
    (failed : List (List Bool)) →
    note_lines stack plans (λ k. count_by (λ lost. lost == k) (lost_of stack plans w doings failed))
    (filter_map note_in doings) (moments_of stack plans w doings)
    ≡ written_of stack plans w doings failed

-- In whatever mode, it hands on the packets of its journal.
abbrev pub SendsAreHanded : Type 0
SendsAreHanded = (mode : Mode) (stack : List LayerTree) (plans : List Plan) (w : World) (doings : List Doing) →
    handed_datagrams mode stack plans (moments_of stack plans w doings) ≡ sends_of mode stack plans w doings

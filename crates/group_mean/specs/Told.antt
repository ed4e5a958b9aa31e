-- The report of a script as a replay writes it: with the packets' bytes and the number of visits where these are
-- wanted, and, where that is wanted, with the events. It then tells all that happened, as a node's journal does.
use Rattle.std.specs.Prelude.{ℕ, Bool, true, false, List, [], ◌∷◌, ◌++◌, map, length, codes, Option, option_to_list}
use Rattle.std.specs.List.{flat_map, sum_by}
use Rattle.layer_mean.specs.Tree.{LayerTree}
use Rattle.script_mean.specs.EventText.{event_text}
use Rattle.script_mean.specs.declared.event.ScriptEvent.{ScriptEvent}
use Rattle.script_mean.specs.declared.script.Script.{Script}
use Rattle.stack_mean.specs.Plan.{Plan}
use Rattle.run_mean.specs.Mode.{Mode}
use Rattle.run_mean.specs.Lines.{line}
use Rattle.run_mean.specs.Report.{Moment, moment_lines, run_of, end_line, visits_line, visits_of, mode_if}

-- `> EVENT`: an event as a script spells it, as in a journal.
abbrev pub event_line : ScriptEvent → List ℕ
event_line event = line (codes ">" ∷ event_text event ∷ [])

-- That line, where events are told.
abbrev pub event_lines : (events : Bool) → ScriptEvent → List (List ℕ)
event_lines false event = []
event_lines true event = event_line event ∷ []

-- The lines of a moment: before what came of its event stands the event, where events are told.
abbrev pub lines_with_events : (events : Bool) → List LayerTree → List Plan → Option Mode → Moment → List (List ℕ)
lines_with_events events stack plans wires m = event_lines events m.event ++ moment_lines stack plans wires m

-- What the program writes of a script in a mode: its report, with the events, the packets' bytes and the number of
-- visits where these are wanted.
unfoldable pub replay_lines : List LayerTree → List Plan → Script → Mode → (events wire count : Bool) → List (List ℕ)
replay_lines stack plans s mode events wire count =
    let run = run_of stack plans s in
    flat_map (lines_with_events events stack plans (mode_if wire mode)) run
    ++ end_line (length s.events)
    ∷ map (λ counting. visits_line (sum_by (visits_of counting stack plans) run)) (option_to_list (mode_if count mode))

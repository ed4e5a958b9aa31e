-- Reports with their events: the reports without, with the script's events among their lines.
use Rattle.std.specs.Prelude.{◌≡◌, ℕ, ◌==◌, not, Bool, true, false, List, [], ◌∷◌, map, filter, Ok}
use Rattle.std.specs.List.{concat}
use Rattle.layer_mean.specs.Tree.{LayerTree}
use Rattle.script_mean.specs.Script.{script_of}
use Rattle.script_mean.specs.declared.script.Script.{Script}
use Rattle.stack_mean.specs.Plan.{Plan}
use Rattle.run_mean.specs.Mode.{Mode}
use Rattle.run_mean.specs.Report.{output_in}
use Rattle.group_mean.specs.Told.{event_line, replay_lines}
use Rattle.output_mean.specs.Output.{Replays}

-- Whether a line is that of an event: it begins with `>` (62).
abbrev pub is_event_line : List ℕ → Bool
is_event_line [] = false
is_event_line (first ∷ rest) = first == 62

-- Without the events a replay writes the output that knows of none, byte for byte.
abbrev pub UntoldIsTheOutput : Type 0
UntoldIsTheOutput = (stack : List LayerTree) (plans : List Plan) (script : Script) (mode : Mode) (wire count : Bool) →
    replay_lines stack plans script mode false wire count ≡ output_in stack plans script mode wire count

-- With the events it writes the same lines in the same order, once the lines of events are taken out.
abbrev pub WithoutEventsIsTheOutput : Type 0
WithoutEventsIsTheOutput = (stack : List LayerTree) (plans : List Plan) (script : Script) (mode : Mode)
    (wire count : Bool) →
    filter (λ line. not (is_event_line line)) (replay_lines stack plans script mode true wire count)
    ≡ output_in stack plans script mode wire count

-- The lines that are taken out are the script's events, in order.
abbrev pub EventsAreTheScript : Type 0
EventsAreTheScript = (stack : List LayerTree) (plans : List Plan) (script : Script) (mode : Mode) (wire count : Bool) →
    filter is_event_line (replay_lines stack plans script mode true wire count) ≡ map event_line script.events

-- What a replay writes with the events: lines of which some are the script's events, in order, and the others are, in
-- order, what the replay writes without the events.
pub record TellsEvents (file script_text : List ℕ) (mode : Mode) (wire count : Bool) (out : List ℕ) : Type 0 where
  pub script : Script
  pub spelled : script_of script_text ≡ Ok script
  pub lines : List (List ℕ)
  pub written : out ≡ concat lines
  pub told : filter is_event_line lines ≡ map event_line script.events
  pub others : Replays file script_text mode false wire count (concat (filter (λ line. not (is_event_line line)) lines))

-- Each replay with the events writes this.
abbrev pub ReplaysTellEvents : Type 0
ReplaysTellEvents = (file script_text out : List ℕ) (mode : Mode) (wire count : Bool) →
    Replays file script_text mode true wire count out → TellsEvents file script_text mode wire count out

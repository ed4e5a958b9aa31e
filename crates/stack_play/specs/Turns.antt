-- Runs event by event.
use Rattle.std.specs.Prelude.{◌≡◌, ℕ, ◌+◌, ◌≤◌, Bool, true, false, List, [], ◌∷◌, ◌++◌, length, Result, Ok, Err}
use Rattle.outside.specs.declared.sink.SinkError.{SinkError}
use Rattle.msg_core.specs.declared.message.Memory.{Memory}
use Rattle.layer_mean.specs.Tree.{LayerTree}
use Rattle.script_mean.specs.declared.event.ScriptEvent.{ScriptEvent}
use Rattle.stack_mean.specs.Plan.{Plan}
use Rattle.run_mean.specs.Mode.{Mode}
use Rattle.group_mean.specs.Told.{lines_with_events}
use Rattle.run_mean.specs.Report.{Moment, mode_if, visits_in, visits_line}
use Rattle.run_mean.specs.World.{World, happens}
use Rattle.outside.specs.Lines.{Gains, Wrote}
use Rattle.outside.specs.Tells.{Tells}
use Rattle.report_text.specs.Counts.{counts_of}
use Rattle.report_text.specs.declared.counts.Counts.{Counts}
use Rattle.group_feed.specs.Beginning.{IsReady}
use Rattle.group_feed.specs.Standing.{Peopled, Stands}
use Rattle.script_mean.specs.Lines.{most_lines}
use Rattle.stack_play.specs.declared.run.Run.{Run}

-- The most events of a script that is played: as many as one has lines.
abbrev pub most_events : ℕ
most_events = most_lines

-- Where a run is: its group, for how many outputs of a step there is room, and how many visits were counted.
pub record Playing : Type 0 where
  pub group : Peopled
  pub places : ℕ
  pub visits : ℕ

abbrev pub playing : Peopled → Run → Playing
playing c r = record { group = c; places = r.outputs.places; visits = r.visits }

-- An event leaves a run ready, with as many members, and adds few visits.
pub record Keeps (mode : Mode) (stack : List LayerTree) (plans : List Plan) (old new : Playing) : Type 0 where
  pub ready : IsReady mode stack plans new.group new.places
  pub count : length new.group.members ≡ length old.group.members
  pub few : new.visits ≤ old.visits + 65536

-- The moment of an event.
abbrev pub moment_at : List LayerTree → List Plan → World → ScriptEvent → Moment
moment_at stack plans w event = record { before = w; event = event; happening = happens stack plans w event }

-- An event was played and its lines are written: the run stands at the world after it, and its visits are counted.
pub record IsTold (mode : Mode) (stack : List LayerTree) (plans : List Plan) (events wire : Bool) (w : World)
    (event : ScriptEvent) (old new : Playing)
    (before after : Tells) : Type 0 where
  pub world : Stands new.group (happens stack plans w event).world
  pub visits : new.visits ≡ old.visits + visits_in mode stack plans (happens stack plans w event).did
  pub gained : Gains before after
      (lines_with_events events stack plans (mode_if wire mode) (moment_at stack plans w event))

-- The event was told so, or its lines were cut short.
abbrev pub TellsEvent : Mode → List LayerTree → List Plan → (events wire : Bool) → World → ScriptEvent →
    (old new : Playing) →
    (before after : Tells) →
    Result (Unit {0}) SinkError → Type 0
TellsEvent mode stack plans events wire w event old new before after (Ok done) =
    IsTold mode stack plans events wire w event old new before after
TellsEvent mode stack plans events wire w event old new before after (Err e) =
    Wrote (lines_with_events events stack plans (mode_if wire mode) (moment_at stack plans w event)) before after
    (Err e)

-- An event was played and its lines are counted, after those of any run.
pub record IsCounted (mode : Mode) (stack : List LayerTree) (plans : List Plan) (w : World) (event : ScriptEvent)
    (new : Playing) (before after : Counts)
    : Type 0 where
  pub world : Stands new.group (happens stack plans w event).world
  pub counts : (run : List Moment) → before ≡ counts_of mode stack plans run →
      after ≡ counts_of mode stack plans (run ++ moment_at stack plans w event ∷ [])

abbrev pub CountsEvent : Mode → List LayerTree → List Plan → World → ScriptEvent → (new : Playing) →
    (before after : Counts) →
    Result (Unit {0}) Memory → Type 0
CountsEvent mode stack plans w event new before after (Ok done) = IsCounted mode stack plans w event new before after
CountsEvent mode stack plans w event new before after (Err memory) = Unit {0}

-- The line of how many visits were counted, where it is wanted.
abbrev pub visits_if : Bool → ℕ → List (List ℕ)
visits_if true visits = visits_line visits ∷ []
visits_if false visits = []

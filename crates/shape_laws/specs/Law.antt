-- That predicted runs have the shapes of their entries.
use Rattle.std.specs.Prelude.{◌≡◌, ℕ, ◌-◌, true, List, [], ◌∷◌, length, Ok}
use Rattle.std.specs.Option.{option_map_or}
use Rattle.layer_mean.specs.declared.run.Case.{Case}
use Rattle.msg_core.specs.declared.message.Header.{Header}
use Rattle.layer_mean.specs.declared.run.Event.{Event}
use Rattle.layer_mean.specs.Tree.{LayerTree}
use Rattle.layer_mean.specs.State.{State}
use Rattle.layer_mean.specs.Queue.{Task, Line, Work, layers, run_for, run, unstarted_work, is_predicted}
use Rattle.layer_mean.specs.Marked.{Log, Logged, Marked, marking_player, marked_start}
use Rattle.stack_mean.specs.Acceptance.{weight_limit}
use Rattle.stack_mean.specs.Shape.{Known, ShapeVisit, ShapeOut, Shape, entry_task, shape}
use Rattle.shape_laws.specs.Known.{Pairwise, HeadersAre, BeginsAs}
use Rattle.shape_laws.specs.Bare.{BareRun}

-- A run of layers in these states from a task, with its makers, before its first turn and at its end.
abbrev pub run_start : List State → Task Event → Line (Log Work Event) (Marked Event)
run_start states task = marked_start (unstarted_work states) task

abbrev pub marked_run : List LayerTree → List State → Task Event → Line (Log Work Event) (Marked Event)
marked_run stack states task = run_for (length stack) (marking_player (layers stack)) weight_limit
    (run_start states task)

-- The headers of an event, none where it has no message; and the tag of the first, 0 where there is none.
abbrev pub headers_in : Event → List Header
headers_in e = option_map_or (λ m. m.headers) e.message []

abbrev pub first_tag_in : List Header → ℕ
first_tag_in [] = 0
first_tag_in (h ∷ hs) = h.tag

-- A visit of a run is that of a shape: its place, the event's direction, kind and first tag, and its maker.
pub record VisitIs (s : ShapeVisit) (x : Logged Event) : Type 0 where
  pub place : s.place ≡ x.at - 1
  pub dir : s.dir ≡ x.dir
  pub kind : s.kind ≡ x.marked.event.kind
  pub tag : s.tag ≡ first_tag_in (headers_in x.marked.event)
  pub made_by : s.made_by ≡ x.marked.made_by

-- An output of a run is that of a shape: its direction and kind, its headers with the fields that are known, and its
-- maker.
pub record OutIs (s : ShapeOut) (x : Logged Event) : Type 0 where
  pub dir : s.dir ≡ x.dir
  pub kind : s.kind ≡ x.marked.event.kind
  pub headers : HeadersAre s.headers (headers_in x.marked.event)
  pub made_by : s.made_by ≡ x.marked.made_by

-- A run has a shape where its visits and its outputs are the shape's, in order.
pub record HasShape (s : Shape) (log : Log Work Event) : Type 0 where
  pub visits : Pairwise VisitIs s.visits log.visits
  pub outs : Pairwise OutIs s.outs log.outs

-- A run that begins with an entry's event and goes as predicted in a case throughout has the entry's shape in that
-- case, if there is one.
abbrev pub PredictedRunsHaveTheShape : Type 0
PredictedRunsHaveTheShape =
    (case : Case) (stack : List LayerTree) (k : Known) (s : Shape) (states : List State) (task : Task Event) →
    shape stack k case ≡ Ok s →
    BeginsAs (entry_task stack k) task →
    BareRun case stack (run_start states task) →
    is_predicted case (run weight_limit stack states task).world ≡ true →
    HasShape s (marked_run stack states task).world

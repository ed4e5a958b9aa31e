-- The queue of a run that is drawn, with what the code keeps of it: the tasks, and what a shape says of the visits and
-- outputs.
use Rattle.std.specs.Prelude.{ℕ, zero, suc, ◌+◌, ◌-◌, Bool, false, nat_lt, if◌then◌else◌, List, [], ◌∷◌, ◌++◌, length}
use Rattle.std.specs.Prelude.{map, option_map, Result, Ok, Err}
use Rattle.layer_mean.specs.declared.run.Case.{Case}
use Rattle.layer_mean.specs.Tree.{LayerTree}
use Rattle.layer_mean.specs.Marked.{Marked}
use Rattle.layer_mean.specs.Queue.{Task, is_place, layer_at}
use Rattle.stack_mean.specs.Acceptance.{held_at_most}
use Rattle.stack_mean.specs.NoShape as no_shape
use Rattle.stack_mean.specs.Drawn.{DrawnEvent}
use Rattle.stack_mean.specs.Shape as mean
use Rattle.stack_mean.specs.Shape.{Known, visits_limit, shape_visit, shape_out}
use Rattle.shape_core.specs.declared.types.Known as code_known
use Rattle.shape_core.specs.declared.types.Shape as code_shape
use Rattle.shape_core.specs.declared.types.ShapeVisit.{ShapeVisit}
use Rattle.shape_core.specs.declared.types.ShapeOut.{ShapeOut}
use Rattle.shape_core.specs.declared.sketch.Sketch.{Sketch}
use Rattle.shape_core.specs.declared.walk.Visit.{Visit}
use Rattle.shape_core.specs.Trees.{headers_tree, source_tree, task_tree}
use Rattle.shape_core.specs.Walk.{Walking, Stop, onward}
use Rattle.shape_core.specs.Visits.{visit_walked}

abbrev pub known_tree : code_known.Known → Known
known_tree k = record { dir = k.dir; kind = k.kind; tags = k.tags.items }

abbrev pub visit_tree : ShapeVisit → mean.ShapeVisit
visit_tree v = record {
  place = v.place;
  dir = v.dir;
  kind = v.kind;
  tag = v.tag;
  made_by =
      option_map source_tree v.made_by;
}

abbrev pub out_tree : ShapeOut → mean.ShapeOut
out_tree o = record {
  dir = o.dir;
  kind = o.kind;
  headers = headers_tree o.headers;
  made_by =
      option_map source_tree o.made_by;
}

abbrev pub shape_tree : code_shape.Shape → mean.Shape
shape_tree s = record { visits = map visit_tree s.visits.items; outs = map out_tree s.outs.items; length = s.length }

-- What is drawn of a run so far: its pending tasks, its visits and outputs, how much they count for, and whether a
-- condition with two predicted ways was met.
pub record Sketching : Type 0 where
  pub tasks : List (Task (Marked DrawnEvent))
  pub visits : List mean.ShapeVisit
  pub outs : List mean.ShapeOut
  pub length : ℕ
  pub forks : Bool

abbrev pub sketching : Sketch → Sketching
sketching s = record {
  tasks = map task_tree s.tasks.items;
  visits = map visit_tree s.visits.items;
  outs = map out_tree s.outs.items;
  length = s.length;
  forks = s.forks;
}

abbrev pub begun : Task (Marked DrawnEvent) → Sketching
begun t = record { tasks = t ∷ []; visits = []; outs = []; length = 0; forks = false }

-- A visit that is drawn, before its first step.
abbrev pub fresh_walk : Sketching → Walking
fresh_walk s = record { scope = []; sent = []; length = s.length; forks = s.forks }

abbrev pub visit_at : Case → ℕ → Sketching → Visit
visit_at case place s = record { case = case; place = place; number = length s.visits }

abbrev pub with_visit : Task (Marked DrawnEvent) → Sketching → Walking → Sketching
with_visit t s w = record {
  tasks = s.tasks ++ w.sent;
  visits = s.visits ++ shape_visit (record { at = t.at; dir = t.dir; marked = t.event }) ∷ [];
  outs = s.outs;
  length = w.length;
  forks = w.forks;
}

abbrev pub sketched_visit : Case → LayerTree → Task (Marked DrawnEvent) → Sketching → Result Sketching Stop
sketched_visit case layer t s = if nat_lt (length s.visits) visits_limit
    then onward (λ w. Ok (with_visit t s w))
    (visit_walked (visit_at case (t.at - 1) s) layer t.dir t.event.event (fresh_walk s))
    else Err (record { reason = no_shape.long; forks = s.forks })

abbrev pub with_output : Task (Marked DrawnEvent) → Sketching → Sketching
with_output t s = record s {
  outs = s.outs ++ shape_out (record { at = 0; dir = t.dir; marked = t.event }) ∷ [];
  length = held_at_most (s.length + 1);
}

-- A task that was taken off.
abbrev pub sketched_task : Case → List LayerTree → Task (Marked DrawnEvent) → Sketching → Result Sketching Stop
sketched_task case stack t s =
    if is_place (length stack) t.at then sketched_visit case (layer_at stack t.at) t s else Ok (with_output t s)

abbrev pub next_of : Case → List LayerTree → List (Task (Marked DrawnEvent)) → Sketching → Result Sketching Stop
next_of case stack [] s = Ok s
next_of case stack (t ∷ rest) s = sketched_task case stack t (record s { tasks = rest })

abbrev pub next : Case → List LayerTree → Sketching → Result Sketching Stop
next case stack s = next_of case stack s.tasks s

-- n turns; without a task they change nothing.
unfoldable pub sketched : Case → List LayerTree → ℕ → Sketching → Result Sketching Stop
sketched case stack zero s = Ok s
sketched case stack (suc n) s = onward (sketched case stack n) (next case stack s)

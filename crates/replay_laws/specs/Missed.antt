-- The first decision of a step that doesn't go as predicted is one on the way of the entry's shape.
use Rattle.std.specs.Prelude.{◌≡◌, ℕ, ◌<◌, Bool, true, false, List, count_by, length, slice_index_or, Option, Some}
use Rattle.std.specs.Prelude.{None, Ok}
use Rattle.std.specs.List.{sum_by}
use Rattle.std.specs.Option.{option_and_then}
use Rattle.layer_mean.specs.declared.run.Case.{Case}
use Rattle.layer_mean.specs.Tree.{LayerTree, no_layer}
use Rattle.layer_mean.specs.State.{State}
use Rattle.layer_mean.specs.Queue.{is_predicted}
use Rattle.layer_mean.specs.Visit.{handler_for}
use Rattle.layer_mean.specs.Way as way
use Rattle.layer_mean.specs.Way.{test, fork, put, get, loop, handler_way}
use Rattle.packet_mean.specs.declared.here.Here.{Here}
use Rattle.stack_mean.specs.Plans.{plans_of}
use Rattle.stack_mean.specs.Shape.{Known, ShapeVisit, Shape, shape}
use Rattle.run_mean.specs.Common.{entry_of, first_missed}
use Rattle.miss_mean.specs.Spots.{popped_tag}
use Rattle.run_mean.specs.Member.{Entered, step_from}
use Rattle.member_laws.specs.Steps.{IsStep}

-- Whether a predicted step is a decision: a condition, room for a push, a row for a take, or a loop.
abbrev pub is_decision : way.Step → Bool
is_decision (test wanted e) = true
is_decision (fork case e) = true
is_decision (put c i capacity row) = true
is_decision (get c i taken) = true
is_decision loop = true
is_decision _ = false

-- How many decisions a way has; a missing way has none.
abbrev pub way_decisions : Option (List way.Step) → ℕ
way_decisions None = 0
way_decisions (Some steps) = count_by is_decision steps

-- How many decisions the way of a shape's visit has: that of the handler that is met, if there is one.
abbrev pub visit_decisions : Case → List LayerTree → ShapeVisit → ℕ
visit_decisions case stack v = way_decisions (option_and_then (handler_way case)
    (handler_for (slice_index_or stack v.place no_layer) v.dir v.kind (popped_tag v.dir v.tag)))

-- How many decisions a shape has, through all its visits.
abbrev pub shape_decisions : Case → List LayerTree → Shape → ℕ
shape_decisions case stack s = sum_by (visit_decisions case stack) s.visits

-- In a step whose entry has a shape in a case: where a decision doesn't go as predicted in the case, the number of the
-- first that doesn't is below the number of the shape's decisions; and where all do, the step has as many as the shape.
abbrev pub MissedIsOnTheWay : Type 0
MissedIsOnTheWay = (case : Case) (stack : List LayerTree) (here : Here) (id : ℕ) (states : List State) (what : Entered)
    (known : Known) (s : Shape) →
    IsStep stack here states what → entry_of (plans_of stack) what ≡ Some known → shape stack known case ≡ Ok s →
    (n : ℕ) →
    first_missed case (step_from stack here id states what) ≡ Some n → n < shape_decisions case stack s

abbrev pub PredictedDecideAll : Type 0
PredictedDecideAll = (case : Case) (stack : List LayerTree) (here : Here) (id : ℕ) (states : List State)
    (what : Entered) (known : Known) (s : Shape) →
    IsStep stack here states what → entry_of (plans_of stack) what ≡ Some known → shape stack known case ≡ Ok s →
    is_predicted case (step_from stack here id states what).work ≡ true →
    length (step_from stack here id states what).work.decided ≡ shape_decisions case stack s

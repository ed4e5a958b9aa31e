-- The plans that the code gathers.
use Rattle.std.specs.Prelude.{if◌then◌else◌, List, [], ◌∷◌, map}
use Rattle.std.specs.List.{filter}
use Rattle.stack_mean.specs.Plan as mean
use Rattle.stack_mean.specs.Plans.{is_packet, plan_of}
use Rattle.stack_mean.specs.Shape.{ShapeOut}
use Rattle.stack_shapes.specs.declared.types.Plan.{Plan}
use Rattle.stack_shapes.specs.declared.types.PlanList.{PlanList}

abbrev pub plan_tree : Plan → mean.Plan
plan_tree p = record { kind = p.kind; tags = p.tags.items; fields = p.fields.items }

abbrev pub list_tree : PlanList → List mean.Plan
list_tree plans = map plan_tree plans.list.items

-- The packets among outputs, and the plan of an output that is one.
abbrev pub packets_in : List ShapeOut → List ShapeOut
packets_in outs = filter (λ out. is_packet out out.dir) outs

abbrev pub plan_or_none : ShapeOut → List mean.Plan
plan_or_none out = if is_packet out out.dir then plan_of out ∷ [] else []

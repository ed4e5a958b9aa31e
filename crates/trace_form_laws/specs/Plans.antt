-- The plans of a stack are entries: its layers declare their tags.
use Rattle.std.specs.Prelude.{List}
use Rattle.std.specs.List.{AllByRecursion}
use Rattle.layer_mean.specs.Tree.{LayerTree}
use Rattle.stack_mean.specs.Plan.{Plan}
use Rattle.stack_mean.specs.Plans.{plans_of}
use Rattle.stack_mean.specs.Shape.{packet_entry}
use Rattle.weight_laws.specs.Orderly.{IsOrderly}
use Rattle.trace_form_laws.specs.Entries.{IsEntry}

abbrev pub PlanIsEntry : List LayerTree → Plan → Type 0
PlanIsEntry stack plan = IsEntry stack (packet_entry plan.kind plan.tags)

abbrev pub PlansAreEntries : Type 0
PlansAreEntries = (stack : List LayerTree) → IsOrderly stack → AllByRecursion (PlanIsEntry stack) (plans_of stack)

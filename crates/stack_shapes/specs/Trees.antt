-- The plans that the code keeps.
use Rattle.std.specs.Prelude.{List}
use Rattle.stack_mean.specs.Plan as mean
use Rattle.stack_shapes.specs.declared.kept.Plans.{Plans}
use Rattle.stack_shapes.specs.Lists.{list_tree}

abbrev pub plans_tree : Plans → List mean.Plan
plans_tree plans = list_tree plans.list

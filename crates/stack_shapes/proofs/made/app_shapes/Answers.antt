use Rattle.stack_judge.specs.Answer.{stack_tree}
use Rattle.shape_core.specs.Cases.{case_trees}
use Rattle.stack_shapes.proofs.Few.{drawn_few}
use Rattle.stack_shapes.proofs.made.app_shapes.Goals as goal

pub returns-clause-few : goal.returns-clause-few
returns-clause-few c = drawn_few (stack_tree c.args.stack.now) _ (case_trees c.in_ok-shapes.field-0)
    c.in_ok-shapes.ensures

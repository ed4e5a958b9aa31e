use Rattle.stack_judge.specs.Answer.{stack_tree}
use Rattle.shape_core.specs.Cases.{case_trees}
use Rattle.stack_shapes.specs.Trees.{plans_tree}
use Rattle.stack_shapes.proofs.Held.{all_kept}
use Rattle.stack_shapes.proofs.stack.StackShapes.of.Goals as goal

pub returns-clause-entries : goal.returns-clause-entries
returns-clause-entries c =
    all_kept (stack_tree c.args.stack.now) _ (case_trees c.in_ok-cast.cast) (case_trees c.in_ok-send.send) _
    (plans_tree c.in_ok-plans.plans)
    c.in_ok-cast.ensures.drawn c.in_ok-send.ensures.drawn c.limited_cases.ensures c.limited_cases-2.ensures
    c.in_ok-packets.ensures c.slice.ensures.plans
    (c.in_ok-plans.ensures (stack_tree c.args.stack.now) c.in_ok-cast.ensures.drawn c.in_ok-send.ensures.drawn)

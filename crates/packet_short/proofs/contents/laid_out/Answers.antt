use Rattle.stack_judge.specs.Answer.{stack_tree}
use Rattle.packet_full.specs.Taking.{left}
use Rattle.stack_shapes.specs.Lists.{plan_tree}
use Rattle.stack_shapes.specs.Trees.{plans_tree}
use Rattle.packet_short.proofs.Filled.{named_laid}
use Rattle.packet_short.proofs.contents.laid_out.Goals as goal

pub returns : goal.returns
returns c =
    named_laid (stack_tree c.args.known.now.stack.now) (plans_tree c.args.known.now.plans.now) c.args.dest
    c.in_ok-number.number c.in_ok-layout.layout.now (plan_tree c.in_ok-number.field-0-1.now)
    (left c.args.cursor.now) (left c.named.new.cursor)
    c.in_ok-number.ensures.plan c.in_ok-number.ensures.listed c.in_ok-number.ensures.kind
    (c.in_ok-layout.ensures (stack_tree c.args.known.now.stack.now) (plans_tree c.args.known.now.plans.now) c.requires)

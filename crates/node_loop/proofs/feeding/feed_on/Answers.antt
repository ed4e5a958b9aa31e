use Rattle.node_loop.specs.Course.{plans_in, stack_in}
use Rattle.node_loop.proofs.Resting.{rests_on}
use Rattle.node_loop.proofs.Steps.{feeds_so}
use Rattle.node_loop.proofs.feeding.feed_on.Goals as goal

pub returns-clause-told : goal.returns-clause-told
returns-clause-told g c = λ course b moments answers borne rest clock within so.
    feeds_so (stack_in c.args.course) (plans_in c.args.course) course b moments answers borne rest c.args.event.now _ _
    _ _ _ _ clock _ within so
    (c.feed_event.ensures.fed b.mode b.members so.world so.rests)

pub returns-clause-rests : goal.returns-clause-rests
returns-clause-rests g c = rests_on _ _ c.args.event.now _ _ _ _ _ _ c.feed_event.result c.feed_event.ensures.fed

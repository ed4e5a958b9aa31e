use Rattle.std.proofs.Common.{true, false}
use Rattle.script_mean.specs.Event.{member_of}
use Rattle.node_loop.specs.Course.{plans_in, stack_in}
use Rattle.node_loop.proofs.Turning.{own_else, own_then, up_any, is_among}
use Rattle.node_loop.proofs.turns.feed_if_own.Goals as goal

pub feed_on-requires-clause-up : goal.feed_on-requires-clause-up
feed_on-requires-clause-up g c =
    up_any (stack_in c.args.course) (plans_in c.args.course) _ _ _ c.args.course.me.now (member_of c.args.event.now)
    (is_among c.args.course.me.now _ _ _ true c.member_of.ensures c.contains.ensures.value c.if-contains.true)
    c.requires.up

pub returns-then-contains-clause-told : goal.returns-then-contains-clause-told
returns-then-contains-clause-told g c =
    own_then (stack_in c.args.course) (plans_in c.args.course) c.args.course.me.now c.args.event.now _ _ _
    (g.F.Feed.group c.feed_on.new.feed) c.feed_on.new.desk _ c.feed_on.result
    (is_among c.args.course.me.now _ _ _ true c.member_of.ensures c.contains.ensures.value c.if-contains.true)
    c.feed_on.ensures.told

pub returns-else-contains-clause-told : goal.returns-else-contains-clause-told
returns-else-contains-clause-told g c =
    own_else (stack_in c.args.course) (plans_in c.args.course) c.args.course.me.now c.args.event.now _ _ _
    (is_among c.args.course.me.now _ _ _ false c.member_of.ensures c.contains.ensures.value c.if-contains.false)

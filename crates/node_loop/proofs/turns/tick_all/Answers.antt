use Rattle.std.proofs.Common.{Err, arith}
use Rattle.std.proofs.lemmas.Result.{err_from_is_err_and}
use Rattle.node_loop.specs.Course.{plans_in, stack_in}
use Rattle.node_loop.proofs.Turning.{ticked_all, ticked_more, ticked_then, ticked_up}
use Rattle.node_loop.proofs.turns.tick_all.Goals as goal

pub feed_on-requires-clause-up : goal.feed_on-requires-clause-up
feed_on-requires-clause-up g c =
    ticked_up (stack_in c.args.course) (plans_in c.args.course) c.args.moment c.args.course.me.now c.loop-id.id-index
    (omega (arith, c.loop-id-test.true)) c.loop-id.invariant c.requires.up

pub returns-in_err-feed_on-clause-told : goal.returns-in_err-feed_on-clause-told
returns-in_err-feed_on-clause-told g c =
    let p = err_from_is_err_and c.from_residual.result c.from_residual.ensures.1 in
    rw (p.1, p.2) (ticked_then (stack_in c.args.course) (plans_in c.args.course) c.args.moment c.args.course.me.now
    c.loop-id.id-index
    (omega (arith, c.loop-id-test.true)) c.loop-id.invariant (g.F.Feed.group c.feed_on.new.feed) c.feed_on.new.desk _
    (Err _) c.in_err-feed_on.ensures.told)

pub loop-id-preserved : goal.loop-id-preserved
loop-id-preserved g c =
    ticked_more (stack_in c.args.course) (plans_in c.args.course) c.args.moment c.args.course.me.now c.loop-id.id-index
    (omega (arith, c.loop-id-test.true)) c.loop-id.invariant _ _ _ c.in_ok-feed_on.ensures.told
    c.in_ok-feed_on.ensures.rests
    c.in_ok-feed_on.ensures.counted c.feed_on.ensures.listening

pub returns-clause-told : goal.returns-clause-told
returns-clause-told g c =
    ticked_all (stack_in c.args.course) (plans_in c.args.course) c.args.moment c.args.course.me.now c.loop-id.id-index
    c.loop-id.invariant (omega (arith, c.loop-id-test.false))

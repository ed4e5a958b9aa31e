use Rattle.std.proofs.Common.{Err, ap, arith, length}
use Rattle.std.proofs.lemmas.Result.{err_from_is_err_and}
use Rattle.node_loop.specs.Course.{plans_in, stack_in}
use Rattle.node_loop.proofs.Planning.{due_over, planned_end, planned_more, planned_out, planned_over, planned_then}
use Rattle.node_loop.proofs.Planning.{planned_up}
use Rattle.node_loop.proofs.turns.feed_planned.Goals as goal

pub feed_if_own-requires-clause-up : goal.feed_if_own-requires-clause-up
feed_if_own-requires-clause-up g c =
    planned_up (stack_in c.args.course) (plans_in c.args.course) c.args.course.me.now c.args.course.plan.now.turns
    c.args.t c.args.next.now
    c.loop-next.next c.loop-next.invariant c.requires.up

pub returns-in_err-feed_if_own-clause-told : goal.returns-in_err-feed_if_own-clause-told
returns-in_err-feed_if_own-clause-told g c =
    let p = err_from_is_err_and c.from_residual.result c.from_residual.ensures.1 in
    rw (p.1, p.2) (planned_then (stack_in c.args.course) (plans_in c.args.course) c.args.course.me.now
    c.args.course.plan.now.turns c.args.t
    c.args.next.now c.loop-next.next c.loop-next.invariant c.slice-entries.result.now c.slice-entries.ensures
    c.loop-next-test.true
    c.index-entries-next.result _ c.if-entries-next.true (g.F.Feed.group c.feed_if_own.new.feed) c.feed_if_own.new.desk
    _ (Err _)
    c.in_err-feed_if_own.ensures.told)

pub loop-next-preserved : goal.loop-next-preserved
loop-next-preserved g c =
    planned_more (stack_in c.args.course) (plans_in c.args.course) c.args.course.me.now c.args.course.plan.now.turns
    c.args.t
    c.args.next.now c.loop-next.next c.loop-next.invariant c.slice-entries.result.now c.slice-entries.ensures
    c.loop-next-test.true
    c.index-entries-next.result _ c.if-entries-next.true _ _ _
    c.in_ok-feed_if_own.ensures.told c.in_ok-feed_if_own.ensures.rests c.in_ok-feed_if_own.ensures.counted
    c.feed_if_own.ensures.listening

pub returns-else-entries-next-clause-told : goal.returns-else-entries-next-clause-told
returns-else-entries-next-clause-told g c =
    planned_end (stack_in c.args.course) (plans_in c.args.course) c.args.course.me.now c.args.course.plan.now.turns
    c.args.t
    c.args.next.now c.loop-next.next c.loop-next.invariant
    (planned_over (stack_in c.args.course) (plans_in c.args.course) c.args.course.me.now c.args.course.plan.now.turns
    c.args.t
    c.args.next.now c.loop-next.next c.loop-next.invariant c.slice-entries.result.now c.slice-entries.ensures
    c.loop-next-test.true
    c.index-entries-next.result c.if-entries-next.false c.requires.ordered)

pub returns-else-entries-next-clause-due : goal.returns-else-entries-next-clause-due
returns-else-entries-next-clause-due g c =
    due_over (stack_in c.args.course) (plans_in c.args.course) c.args.course.me.now c.args.course.plan.now.turns
    c.args.t
    c.args.next.now c.loop-next.next c.loop-next.invariant c.slice-entries.result.now c.slice-entries.ensures
    c.loop-next-test.true
    c.index-entries-next.result c.if-entries-next.false c.requires.ordered

pub returns-after-loop-next-clause-told : goal.returns-after-loop-next-clause-told
returns-after-loop-next-clause-told g c =
    planned_end (stack_in c.args.course) (plans_in c.args.course) c.args.course.me.now c.args.course.plan.now.turns
    c.args.t
    c.args.next.now c.loop-next.next c.loop-next.invariant
    (planned_out (stack_in c.args.course) (plans_in c.args.course) c.args.course.me.now c.args.course.plan.now.turns
    c.args.t
    c.args.next.now c.loop-next.next c.loop-next.invariant
    (omega (arith, c.loop-next-test.false, ap length c.slice-entries.ensures)))

use Rattle.std.proofs.Common.{arith, rules}
use Rattle.std.proofs.lemmas.Result.{err_from_is_err_and}
use Rattle.node_loop.specs.Course.{plans_in, stack_in}
use Rattle.node_loop.proofs.Asking.{asked_all, asked_end, asked_more, asked_up}
use Rattle.node_loop.proofs.turns.ask_all.Goals as goal

pub ask-requires-clause-up : goal.ask-requires-clause-up
ask-requires-clause-up g c =
    asked_up (stack_in c.args.course) (plans_in c.args.course) c.args.asking.now c.args.patience.now
    c.loop-id.id-index
    (omega (arith, c.loop-id-test.true)) c.loop-id.invariant c.requires.up

pub ask-requires-clause-few : goal.ask-requires-clause-few
ask-requires-clause-few g c =
    let n = c.loop-id.invariant.counted in
    let few = c.requires.few in
    omega (arith, c.loop-id-test.true, n, few)

pub returns-in_err-ask-clause-told : goal.returns-in_err-ask-clause-told
returns-in_err-ask-clause-told g c =
    let p = err_from_is_err_and c.from_residual.result c.from_residual.ensures.1 in
    rw (p.1, p.2) (asked_end (stack_in c.args.course) (plans_in c.args.course) c.args.asking.now c.args.patience.now
    c.loop-id.id-index
    (omega (arith, c.loop-id-test.true)) c.loop-id.invariant c.ask.new.patience (g.F.Feed.group c.ask.new.feed)
    c.ask.new.desk _ _
    c.in_err-ask.ensures.told)

pub loop-id-preserved : goal.loop-id-preserved
loop-id-preserved g c =
    asked_more (stack_in c.args.course) (plans_in c.args.course) c.args.asking.now c.args.patience.now
    c.loop-id.id-index
    (omega (arith, c.loop-id-test.true)) c.loop-id.invariant c.ask.new.patience _ _ _ c.in_ok-ask.ensures.told
    c.in_ok-ask.ensures.rests
    c.in_ok-ask.ensures.counted c.ask.ensures.listening

pub returns-clause-told : goal.returns-clause-told
returns-clause-told g c =
    asked_all (stack_in c.args.course) (plans_in c.args.course) c.args.asking.now c.args.patience.now
    c.loop-id.id-index _
    c.loop-id.invariant (search rules)

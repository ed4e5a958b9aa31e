use Rattle.std.proofs.Common.{arith, map}
use Rattle.std.proofs.lemmas.List.{length-map}
use Rattle.std.proofs.lemmas.Result.{err_from_is_err_and}
use Rattle.stack_judge.specs.Answer.{stack_tree}
use Rattle.outside.proofs.Turns.{turns_cut, turns_done, turns_more}
use Rattle.stack_shapes.specs.Lists.{plan_tree}
use Rattle.synth_print.specs.Entries.{plan_turn}
use Rattle.synth_print.proofs.Printed.{plan_at}
use Rattle.synth_print.proofs.print.write_plans.Goals as goal
use Rattle.trace_core.specs.Bypasses.{bypasses_tree}

pub loop-k-preserved : goal.loop-k-preserved
loop-k-preserved g c =
    turns_more (plan_turn (stack_tree c.args.stack.now) (bypasses_tree c.args.bypasses.now))
    (map plan_tree c.args.plans.now) c.loop-k.k
    (plan_tree c.plan_at-plan.result.now) (plan_tree c.plan_at-plan.result.now) _ _ _ c.loop-k.invariant
    c.in_ok-write_turn.ensures
    (omega (arith, c.loop-k-test.true, length-map c.args.plans.now plan_tree))
    (plan_at plan_tree c.args.plans.now c.loop-k.k c.plan_at-plan.result.now (omega (arith, c.loop-k-test.true))
    c.plan_at-plan.ensures)

pub returns-in_err-write_turn : goal.returns-in_err-write_turn
returns-in_err-write_turn g c =
    let p = err_from_is_err_and c.from_residual.result c.from_residual.ensures.1 in
    rw (p.1, p.2) (turns_cut (plan_turn (stack_tree c.args.stack.now) (bypasses_tree c.args.bypasses.now))
    (map plan_tree c.args.plans.now) c.loop-k.k
    (plan_tree c.plan_at-plan.result.now) (plan_tree c.plan_at-plan.result.now) _ _ _ _ c.loop-k.invariant
    c.in_err-write_turn.ensures
    (omega (arith, c.loop-k-test.true, length-map c.args.plans.now plan_tree))
    (plan_at plan_tree c.args.plans.now c.loop-k.k c.plan_at-plan.result.now (omega (arith, c.loop-k-test.true))
    c.plan_at-plan.ensures))

pub returns : goal.returns
returns g c =
    turns_done (plan_turn (stack_tree c.args.stack.now) (bypasses_tree c.args.bypasses.now))
    (map plan_tree c.args.plans.now) c.loop-k.k _ _ c.loop-k.invariant
    (omega (arith, c.loop-k-test.false, length-map c.args.plans.now plan_tree))

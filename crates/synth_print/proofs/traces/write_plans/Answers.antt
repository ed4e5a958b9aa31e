use Rattle.std.proofs.Common.{arith, get_or, map, refl}
use Rattle.std.proofs.lemmas.List.{length-map}
use Rattle.std.proofs.lemmas.Result.{err_from_is_err_and}
use Rattle.stack_judge.specs.Answer.{stack_tree}
use Rattle.outside.proofs.Turns.{turns_cut, turns_done, turns_more}
use Rattle.stack_shapes.specs.Lists.{plan_tree}
use Rattle.synth_print.specs.Traces.{plan_turn}
use Rattle.synth_print.proofs.Traced.{no_plan}
use Rattle.synth_print.proofs.traces.write_plans.Goals as goal
use Rattle.trace_core.specs.Bypasses.{bypasses_tree}

pub loop-k-preserved : goal.loop-k-preserved
loop-k-preserved g c =
    let plans = map plan_tree c.args.plans.now in
    turns_more (plan_turn (stack_tree c.args.stack.now) (bypasses_tree c.args.bypasses.now)) plans c.loop-k.k
    (get_or plans c.loop-k.k no_plan) no_plan _ _ _ c.loop-k.invariant c.in_ok-write_planned.ensures
    (omega (arith, c.loop-k-test.true, length-map c.args.plans.now plan_tree)) refl

pub returns-in_err-write_planned : goal.returns-in_err-write_planned
returns-in_err-write_planned g c =
    let p = err_from_is_err_and c.from_residual.result c.from_residual.ensures.1 in
    let plans = map plan_tree c.args.plans.now in
    rw (p.1, p.2) (turns_cut (plan_turn (stack_tree c.args.stack.now) (bypasses_tree c.args.bypasses.now)) plans
    c.loop-k.k
    (get_or plans c.loop-k.k no_plan) no_plan _ _ _ _ c.loop-k.invariant c.in_err-write_planned.ensures
    (omega (arith, c.loop-k-test.true, length-map c.args.plans.now plan_tree)) refl)

pub returns : goal.returns
returns g c =
    turns_done (plan_turn (stack_tree c.args.stack.now) (bypasses_tree c.args.bypasses.now))
    (map plan_tree c.args.plans.now) c.loop-k.k _ _ c.loop-k.invariant
    (omega (arith, c.loop-k-test.false, length-map c.args.plans.now plan_tree))

use Rattle.std.proofs.Common.{map, refl}
use Rattle.std.proofs.lemmas.Result.{err_from_is_err_and}
use Rattle.std.specs.List.{enumerate_from, flat_map}
use Rattle.stack_judge.specs.Answer.{stack_tree}
use Rattle.outside.proofs.Turns.{part_of, wrote_both}
use Rattle.stack_shapes.specs.Lists.{plan_tree}
use Rattle.synth_print.specs.Traces.{all_traces, plan_turn}
use Rattle.synth_print.proofs.traces.write_entries.Goals as goal
use Rattle.trace_core.specs.Bypasses.{bypasses_tree}

pub returns-in_err-write_own : goal.returns-in_err-write_own
returns-in_err-write_own g c =
    let p = err_from_is_err_and c.from_residual.result c.from_residual.ensures.1 in
    let stack = stack_tree c.args.stack.now in
    let plans = map plan_tree c.args.plans.now in
    rw (p.1, p.2) (part_of _ _ _
    (flat_map (plan_turn stack (bypasses_tree c.args.bypasses.now)) (enumerate_from 0 plans))
    (all_traces stack plans c.args.bypasses.now) _ refl c.in_err-write_own.ensures)

pub returns : goal.returns
returns g c = wrote_both _ _ _ _ _ _ c.in_ok-write_own.ensures c.write_plans.ensures

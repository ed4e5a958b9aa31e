use Rattle.std.proofs.Common.{refl, sym}
use Rattle.std.proofs.lemmas.Result.{err_from_is_err_and}
use Rattle.std.specs.List.{slice_get}
use Rattle.stack_judge.specs.Answer.{stack_tree}
use Rattle.outside.proofs.Turns.{part_of, wrote_as, wrote_both}
use Rattle.stack_shapes.specs.Lists.{plan_tree}
use Rattle.synth_print.specs.Entries.{found_lines, plan_turn}
use Rattle.synth_print.specs.declared.name.Name.TheVariants as names
use Rattle.synth_print.proofs.Printed.{turn_is}
use Rattle.synth_print.proofs.print.write_turn.Goals as goal
use Rattle.trace_core.specs.Bypasses.{bypasses_tree}

pub returns-in_err-write_plan : goal.returns-in_err-write_plan
returns-in_err-write_plan g c =
    let p = err_from_is_err_and c.from_residual.result c.from_residual.ensures.1 in
    let found = slice_get c.args.bypasses.now.plans.items c.args.numbered.number in
    rw (p.1, p.2) (part_of _ _ _ (found_lines (stack_tree c.args.stack.now) (names.Plan c.args.numbered.number) found)
    (plan_turn (stack_tree c.args.stack.now) (bypasses_tree c.args.bypasses.now)
    (c.args.numbered.number, plan_tree c.args.numbered.plan.now)) _
    (sym (turn_is (stack_tree c.args.stack.now) c.args.bypasses.now c.args.numbered.number
    (plan_tree c.args.numbered.plan.now) found
    refl))
    c.in_err-write_plan.ensures)

pub returns : goal.returns
returns g c =
    wrote_as _ _ _ _ _
    (turn_is (stack_tree c.args.stack.now) c.args.bypasses.now c.args.numbered.number
    (plan_tree c.args.numbered.plan.now) _
    c.cases_at.ensures)
    (wrote_both _ _ _ _ _ _ c.in_ok-write_plan.ensures c.write_found.ensures)

use Rattle.stack_judge.specs.Answer.{stack_tree}
use Rattle.outside.proofs.Turns.{wrote_as}
use Rattle.synth_print.proofs.Traced.{found_is}
use Rattle.synth_print.proofs.traces.write_planned.Goals as goal

pub returns : goal.returns
returns g c = wrote_as _ _ _ _ _
    (found_is (stack_tree c.args.stack.now) c.args.bypasses.now c.args.number _ c.cases_at.ensures)
    c.write_found.ensures

use Rattle.stack_judge.specs.Answer.{stack_tree}
use Rattle.outside.proofs.Turns.{wrote_as}
use Rattle.synth_print.specs.Source.{operations_in}
use Rattle.synth_print.proofs.Loops.{trace_lines}
use Rattle.synth_print.proofs.handler.write_noting.Goals as goal

pub returns : goal.returns
returns g c =
    wrote_as _ _ _ _ _ (trace_lines (stack_tree c.args.stacked.stack.now) c.args.stacked.source.now.noting
    (operations_in c.args.stacked.source.now) c.requires.noting)
    c.write_operations.ensures

use Rattle.synth_print.specs.Texts.{chains_in, written_in}
use Rattle.synth_print.proofs.Joins.{cores_listed}
use Rattle.synth_print.proofs.operations.push_arguments.Goals as goal

pub returns : goal.returns
returns c =
    cores_listed (written_in c.args.scope.now) (chains_in c.args.scope.now) c.args.numbers.now c.args.message _ _ _
    c.push_output_parts.ensures

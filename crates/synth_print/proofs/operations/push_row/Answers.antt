use Rattle.synth_print.specs.Texts.{chains_in, layers_in, terms_in, written_in}
use Rattle.synth_print.proofs.Joins.{rows_listed}
use Rattle.synth_print.proofs.operations.push_row.Goals as goal

pub returns : goal.returns
returns c =
    rows_listed (layers_in c.args.scope.now) (written_in c.args.scope.now) (terms_in c.args.scope.now)
    (chains_in c.args.scope.now)
    c.args.numbers.now c.args.message _ _ _ c.push_row_parts.ensures

use Rattle.symbol_compare.proofs.Sent.{row_of_atoms}
use Rattle.symbol_compare.proofs.sending.atom_row.Goals as goal

pub returns : goal.returns
returns c = row_of_atoms c.args.walk.now c.args.atoms.now c.len-many.result c.in_ok-values.values
    c.len-many.ensures.count c.in_ok-values.ensures c.in_ok-made.ensures

use Rattle.synth_print.specs.Texts.{written_in}
use Rattle.synth_print.proofs.Joins.{atom_missing}
use Rattle.synth_print.proofs.headers.push_some.Goals as goal

pub returns-in-None : goal.returns-in-None
returns-in-None c = atom_missing (written_in c.args.scope.now) c.args.atoms.now c.args.k c.args.line.now
    c.in-None.ensures

use Rattle.std.proofs.Common.{arith}
use Rattle.synth_print.specs.Headers.{atom_texts}
use Rattle.synth_print.specs.Texts.{written_in}
use Rattle.synth_print.proofs.Joins.{line_lead, many_atoms}
use Rattle.synth_print.proofs.headers.push_atoms.Goals as goal

pub loop-k-preserved : goal.loop-k-preserved
loop-k-preserved c =
    line_lead (atom_texts (written_in c.args.scope.now) c.args.atoms.now) c.loop-k.k _ _ _ _
    c.loop-k.invariant c.in_ok-push_lead.ensures c.in_ok-push_some.ensures
    (omega (
      arith,
      c.loop-k-test.true,
      c.len-k-end.ensures.count,
      many_atoms (written_in c.args.scope.now) c.args.atoms.now,
    ))

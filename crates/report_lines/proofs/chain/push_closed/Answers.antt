use Rattle.std.proofs.Common.{arith}
use Rattle.report_lines.proofs.Nones.{one_closed}
use Rattle.report_lines.proofs.chain.push_closed.Goals as goal

pub returns-then-len-eq1 : goal.returns-then-len-eq1
returns-then-len-eq1 c =
    one_closed _ c.args.line.now c.args.fields.now _ _ (omega arith) c.at.ensures c.closed_number.ensures

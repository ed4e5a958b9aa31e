use Rattle.std.proofs.Common.{arith}
use Rattle.audit_judge.proofs.Numbers.{above, further}
use Rattle.audit_judge.proofs.values.value_within.Goals as goal

pub returns-in_err-value-clause-value : goal.returns-in_err-value-clause-value
returns-in_err-value-clause-value c =
    rw c.from_residual.ensures
    (above c.args.high c.loop-byte.value c.args.digits.now c.loop-byte.byte-index c.requires (omega arith)
    c.loop-byte.invariant.0 c.in_err-value.ensures)

pub loop-byte-preserved : goal.loop-byte-preserved
loop-byte-preserved c =
    further c.args.high c.loop-byte.value c.in_ok-value.value c.args.digits.now c.loop-byte.byte-index c.requires
    (omega arith) c.loop-byte.invariant.0 c.in_ok-value.ensures

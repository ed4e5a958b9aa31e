use Rattle.std.proofs.Common.{arith, rules, refl, get_or}
use Rattle.file_lex.proofs.Numbers.{exceeds}
use Rattle.file_lex.proofs.pieces.value.Goals as goal

pub returns-then-next-from : goal.returns-then-next-from
returns-then-next-from c =
    exceeds c.args.digits.now c.loop-digit.digit-index c.loop-digit.value
    (get_or c.args.digits.now c.loop-digit.digit-index 0) (omega arith) refl c.loop-digit.invariant.0 (search rules)

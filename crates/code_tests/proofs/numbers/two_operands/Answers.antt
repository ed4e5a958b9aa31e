use Rattle.guard_mean.specs.Machine.{operand_at}
use Rattle.code_tests.specs.Registers.{input_of, kept_in}
use Rattle.code_tests.proofs.Found.{two_named}
use Rattle.code_tests.proofs.numbers.two_operands.Goals as goal

pub returns : goal.returns
returns c = λ p. two_named (operand_at (input_of c.args.given.now) (kept_in p c.args.values.now)) c.args.operands.now
    _ _ _ _ _ c.requires c.new-numbers.ensures (c.operand_in-first.ensures p) c.push.ensures
    (c.operand_in-second.ensures p) c.push-2.ensures

use Rattle.std.proofs.Common.{rules}
use Rattle.guard_mean.specs.Machine.{operand_at}
use Rattle.code_tests.specs.Registers.{input_of, kept_in}
use Rattle.code_tests.proofs.Found.{all_named, one_longer, one_more}
use Rattle.code_tests.proofs.numbers.all_operands.Goals as goal

pub loop-k-preserved : goal.loop-k-preserved
loop-k-preserved c = (
  λ p. one_more (operand_at (input_of c.args.given.now) (kept_in p c.args.values.now)) c.args.operands.now c.loop-k.k _
      _ _ (search rules)
      (c.loop-k.invariant.0 p) (c.operand_in.ensures p) c.push.ensures,
  one_longer _ _ _ _ c.loop-k.invariant.1 c.push.ensures,
)

pub returns : goal.returns
returns c = λ p. all_named (operand_at (input_of c.args.given.now) (kept_in p c.args.values.now)) c.args.operands.now
    c.loop-k.k _ (search rules) (c.loop-k.invariant.0 p)

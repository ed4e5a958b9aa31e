use Rattle.stack_judge.specs.Answer.{stack_tree}
use Rattle.report_lines.proofs.Nones.{none_left}
use Rattle.report_lines.proofs.chain.push_all.Goals as goal

pub returns : goal.returns
returns c =
    none_left (stack_tree c.args.stack.now) c.args.headers.now c.loop-k.k _ _ c.loop-k.invariant c.loop-k-test.false

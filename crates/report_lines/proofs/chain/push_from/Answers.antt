use Rattle.std.proofs.Common.{arith, refl}
use Rattle.stack_judge.specs.Answer.{stack_tree}
use Rattle.report_lines.proofs.Nones.{none_at, one_put}
use Rattle.report_lines.proofs.chain.push_from.Goals as goal

pub push_nones-requires-clause-first : goal.push_nones-requires-clause-first
push_nones-requires-clause-first c =
    none_at c.args.headers.now c.args.k c.args.header.now.layer c.args.header.now c.requires.header.0
    c.requires.header.1 refl (c.is_none.ensures c.if-is_none.true)

pub returns : goal.returns
returns c = (
  omega arith,
  one_put (stack_tree c.args.stack.now) c.args.headers.now c.args.k c.args.header.now _ _ c.requires.header.0
      c.requires.header.1 c.in_ok-push_header.ensures,
)

use Rattle.std.proofs.Common.{◌∷◌, []}
use Rattle.std.specs.List.{join_by}
use Rattle.std.specs.Fmt.{decimal}
use Rattle.stack_judge.specs.Answer.{stack_tree}
use Rattle.report_lines.specs.Nones.{header_front}
use Rattle.report_lines.proofs.Nones.{closed}
use Rattle.report_lines.proofs.chain.push_header.Goals as goal

pub returns : goal.returns
returns c =
    closed _ c.args.line.now (header_front (stack_tree c.args.stack.now) c.args.header.now)
    (join_by decimal (44 ∷ []) c.args.header.now.fields)
    _ _ c.in_ok-push_front.ensures c.push_closed.ensures

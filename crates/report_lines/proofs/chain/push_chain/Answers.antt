use Rattle.std.proofs.Common.{◌++◌, ◌∙◌, length, ap, arith}
use Rattle.stack_judge.specs.Answer.{stack_tree}
use Rattle.report_lines.specs.Nones.{slashed_headers}
use Rattle.report_lines.proofs.Nones.{all_put}
use Rattle.report_lines.proofs.chain.push_chain.Goals as goal

pub push_all-requires : goal.push_all-requires
push_all-requires c = omega (arith, ap length c.slice.ensures, c.len.ensures.count, c.len.ensures.few)

pub returns : goal.returns
returns c =
    all_put (stack_tree c.args.stack.now) c.args.headers.now _ _ _
    (c.in_ok-push_all.ensures
    ∙ ap (λ headers. c.args.line.now ++ slashed_headers (stack_tree c.args.stack.now) headers) c.slice.ensures)
    (λ none. c.if-len-eq0.false (c.len.ensures.count ∙ none))
    c.drop_last.ensures

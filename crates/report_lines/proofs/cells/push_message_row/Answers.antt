use Rattle.stack_judge.specs.Answer.{stack_tree}
use Rattle.report_lines.proofs.Rows.{in_other_words, numbers_and_message}
use Rattle.report_lines.proofs.cells.push_message_row.Goals as goal

pub returns : goal.returns
returns c =
    in_other_words _ _ _ _ _
    (numbers_and_message (stack_tree c.args.stack.now) c.args.numbers.now
    (record { headers = c.args.headers.now; body = c.args.body.now }))
    c.push_with_message.ensures

use Rattle.stack_judge.specs.Answer.{stack_tree}
use Rattle.report_lines.proofs.Rows.{in_other_words, numbers_alone}
use Rattle.report_lines.proofs.cells.push_numbers_row.Goals as goal

pub returns : goal.returns
returns c = in_other_words _ _ _ _ _ (numbers_alone (stack_tree c.args._stack.now) c.args.numbers.now)
    c.push_in_brackets.ensures

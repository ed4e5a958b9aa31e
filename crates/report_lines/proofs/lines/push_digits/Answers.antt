use Rattle.std.proofs.lemmas.Fmt.{decimal_digit}
use Rattle.report_lines.proofs.lines.push_digits.Goals as goal

pub returns-in-Cast : goal.returns-in-Cast
returns-in-Cast c =
    rw (decimal_digit c.args.id c.requires.0, decimal_digit c.args.peer c.requires.1, c.in-Cast.is) c.text.ensures

pub returns-in-Send : goal.returns-in-Send
returns-in-Send c =
    rw (decimal_digit c.args.id c.requires.0, decimal_digit c.args.peer c.requires.1, c.in-Send.is)
    c.text-in-Send.ensures

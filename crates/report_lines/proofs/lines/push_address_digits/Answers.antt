use Rattle.std.proofs.lemmas.Fmt.{decimal_digit}
use Rattle.report_lines.proofs.lines.push_address_digits.Goals as goal

pub returns : goal.returns
returns c = rw (decimal_digit c.args.id c.requires.0, decimal_digit c.args.rank c.requires.1) c.text.ensures

use Rattle.std.proofs.lemmas.Fmt.{decimal_digit}
use Rattle.report_lines.proofs.lines.push_to_all.Goals as goal

pub returns-then-id-lt10 : goal.returns-then-id-lt10
returns-then-id-lt10 c = rw (decimal_digit c.args.id c.if-id-lt10.true) c.text.ensures

use Rattle.std.proofs.Common.{◌∙◌, ap, map, refl, sym}
use Rattle.std.specs.Prelude.{option_map}
use Rattle.std.specs.String.{string_bytes}
use Rattle.job_mean.specs.Command.{telling_command}
use Rattle.job_mean.specs.Given.{given_in}
use Rattle.command_line.specs.Rules.{IsExact, rows_found}
use Rattle.command_line.proofs.Found.{read_rows, read_none}
use Rattle.job_text.proofs.reading.telling_given.Goals as goal

is_exact : IsExact telling_command
is_exact = record { simple = refl; free = refl }

pub returns-in-Some : goal.returns-in-Some
returns-in-Some c = c.of.ensures ∙ read_rows telling_command given_in (map string_bytes c.args.words.now)
    (rows_found c.in-Some.matches)
    (ap (option_map rows_found) (sym c.in-Some.is) ∙
    c.in_ok-matches.ensures telling_command c.in_ok-telling_command.ensures is_exact)

pub returns-in-None : goal.returns-in-None
returns-in-None c = read_none telling_command given_in (map string_bytes c.args.words.now)
    (ap (option_map rows_found) (sym c.in-None.is) ∙
    c.in_ok-matches.ensures telling_command c.in_ok-telling_command.ensures is_exact)

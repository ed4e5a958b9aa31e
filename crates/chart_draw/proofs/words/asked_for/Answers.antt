use Rattle.std.proofs.Common.{◌∙◌, ap, map, refl, sym}
use Rattle.std.specs.Prelude.{option_map}
use Rattle.std.specs.String.{string_bytes}
use Rattle.chart_mean.specs.Words.{command, request_in}
use Rattle.command_line.specs.Rules.{IsExact, rows_found}
use Rattle.command_line.proofs.Found.{read_rows, read_none}
use Rattle.chart_draw.proofs.words.asked_for.Goals as goal

is_exact : IsExact command
is_exact = record { simple = refl; free = refl }

pub returns-in-Some : goal.returns-in-Some
returns-in-Some c = c.request_in.ensures ∙ read_rows command request_in (map string_bytes c.args.words.now)
    (rows_found c.in-Some.matches)
    (ap (option_map rows_found) (sym c.in-Some.is) ∙ c.in_ok-matches.ensures command c.in_ok-command.ensures is_exact)

pub returns-in-None : goal.returns-in-None
returns-in-None c = read_none command request_in (map string_bytes c.args.words.now)
    (ap (option_map rows_found) (sym c.in-None.is) ∙ c.in_ok-matches.ensures command c.in_ok-command.ensures is_exact)

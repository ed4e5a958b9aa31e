use Rattle.std.proofs.Common.{◌∙◌, ap, map, refl, sym}
use Rattle.std.specs.Prelude.{option_map}
use Rattle.std.specs.String.{string_bytes}
use Rattle.bound_mean.specs.Words.{command, request_in}
use Rattle.command_line.specs.Rules.{IsExact, rows_found}
use Rattle.command_line.proofs.Found.{read_rows, read_none}
use Rattle.bound_run.proofs.words.asked_for.Goals as goal

is_exact : IsExact command
is_exact = record { simple = refl; free = refl }

pub returns : goal.returns
returns c = c.request_in.ensures ∙ read_rows command request_in (map string_bytes c.args.words.now)
    (rows_found c.in-Some.matches)
    (ap (option_map rows_found) (sym c.in-Some.is) ∙ c.in_ok-matches.ensures command c.in_ok-command.ensures is_exact)

pub returns-in_default : goal.returns-in_default
returns-in_default c = read_none command request_in (map string_bytes c.args.words.now)
    (ap (option_map rows_found) (sym c.in_default.is) ∙ c.in_ok-matches.ensures command c.in_ok-command.ensures
    is_exact)

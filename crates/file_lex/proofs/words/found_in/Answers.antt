use Rattle.std.proofs.Common.{◌∙◌}
use Rattle.file_lex.proofs.Tables.{find_shown}
use Rattle.file_lex.proofs.words.found_in.Goals as goal

pub returns : goal.returns
returns g c = c.first_in.ensures ∙ find_shown c.args.table.now c.args.word.now

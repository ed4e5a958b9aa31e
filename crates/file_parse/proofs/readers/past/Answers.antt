use Rattle.std.proofs.Common.{sym}
use Rattle.file_parse.proofs.Signs.{sign_passes}
use Rattle.file_parse.proofs.readers.past.Goals as goal

pub returns-then-is_sign : goal.returns-then-is_sign
returns-then-is_sign c =
    sign_passes c.args.want c.args.tokens.now c.in_ok-first.rest.now c.in_ok-first.first.now
    c.in_ok-first.ensures.cases.0
    (sym c.if-is_sign.ensures)

use Rattle.std.proofs.Common.{sym}
use Rattle.file_parse.proofs.Signs.{sign_reads}
use Rattle.file_parse.proofs.readers.sign.Goals as goal

pub returns-then-is_sign : goal.returns-then-is_sign
returns-then-is_sign c =
    sign_reads c.args.want c.args.tokens.now c.in-Some.rest.now c.in-Some.first.now c.in-Some.ensures.cases.0
    (sym c.if-is_sign.ensures) c.requires

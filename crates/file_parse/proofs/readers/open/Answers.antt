use Rattle.std.proofs.Common.{sym, arith}
use Rattle.file_parse.proofs.Signs.{opening_reads}
use Rattle.file_parse.proofs.readers.open.Goals as goal

pub returns-then-is_sign : goal.returns-then-is_sign
returns-then-is_sign c =
    opening_reads c.args.want c.args.tokens.now c.in-Some.rest.now c.in-Some.first.now c.in-Some.ensures.cases.0
    (sym c.if-is_sign.ensures) c.args.room _ (omega arith) c.requires

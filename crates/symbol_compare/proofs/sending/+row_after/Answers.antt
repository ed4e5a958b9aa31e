use Rattle.std.proofs.Common.{arith}
use Rattle.symbol_compare.proofs.Sent.{number_kept, row_next, row_there}
use Rattle.symbol_compare.proofs.sending.+row_after.Goals as goal

pub put-requires-2 : goal.put-requires-2
put-requires-2 t c = (
  number_kept c.args.numbers.now c.args.first
      (omega (arith, c.if-first-len.false, c.len.ensures.count)) c.requires.numbers c.at.ensures c.in_ok-rest.ensures,
  row_there c.in_ok-rest.ensures.stands,
)

pub returns : goal.returns
returns t c = row_next c.args.numbers.now c.args.first c.at.result
    (omega (arith, c.if-first-len.false, c.len.ensures.count)) c.requires.numbers c.at.ensures c.in_ok-rest.ensures
    c.in_ok-made-2.ensures

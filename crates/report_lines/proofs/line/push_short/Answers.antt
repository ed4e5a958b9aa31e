use Rattle.std.proofs.Common.{arith}
use Rattle.report_lines.proofs.Decimals.{push_one, push_two, push_three, push_four}
use Rattle.report_lines.proofs.line.push_short.Goals as goal

pub returns-then-number-lt10-clause-items : goal.returns-then-number-lt10-clause-items
returns-then-number-lt10-clause-items c = push_one c.args.number _ _ _ c.if-number-lt10.true c.digit.ensures
    c.push_reserved.ensures.items

pub returns-then-number-lt100-clause-items : goal.returns-then-number-lt100-clause-items
returns-then-number-lt100-clause-items c =
    push_two c.args.number _ _ _ _ _ (omega (arith, c.if-number-lt10.false)) c.if-number-lt100.true
    c.digit-then-number-lt100.ensures c.digit-then-number-lt100-2.ensures
    c.push_reserved-then-number-lt100.ensures.items c.push_reserved-then-number-lt100-2.ensures.items

pub returns-then-number-lt1000-clause-items : goal.returns-then-number-lt1000-clause-items
returns-then-number-lt1000-clause-items c =
    push_three c.args.number _ _ _ _ _ _ _ (omega (arith, c.if-number-lt100.false)) c.if-number-lt1000.true
    c.digit-then-number-lt1000.ensures c.digit-then-number-lt1000-2.ensures c.digit-then-number-lt1000-3.ensures
    c.push_reserved-then-number-lt1000.ensures.items c.push_reserved-then-number-lt1000-2.ensures.items
    c.push_reserved-then-number-lt1000-3.ensures.items

pub returns-else-number-lt1000-clause-items : goal.returns-else-number-lt1000-clause-items
returns-else-number-lt1000-clause-items c =
    push_four c.args.number _ _ _ _ _ _ _ _ _ (omega (arith, c.if-number-lt1000.false)) c.requires.short
    c.digit-else-number-lt1000.ensures c.digit-else-number-lt1000-2.ensures c.digit-else-number-lt1000-3.ensures
    c.digit-else-number-lt1000-4.ensures
    c.push_reserved-else-number-lt1000.ensures.items c.push_reserved-else-number-lt1000-2.ensures.items
    c.push_reserved-else-number-lt1000-3.ensures.items c.push_reserved-else-number-lt1000-4.ensures.items

use Rattle.std.proofs.Common.{arith}
use Rattle.report_lines.proofs.Nones.{none_at}
use Rattle.report_lines.proofs.chain.is_none_of.Goals as goal

pub returns : goal.returns
returns c =
    λ empty. none_at c.args.headers.now c.args.k c.args.place c.index-headers-k.result
    (omega (arith, c.if-k-headers.false)) c.index-headers-k.is c.if-header-place.false
    (c.is_none.ensures empty)

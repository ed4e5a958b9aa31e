use Rattle.std.proofs.Common.{arith}
use Rattle.packet_short.proofs.Variable.{headers_put}
use Rattle.packet_short.proofs.write.put_headers.Goals as goal

pub returns-clause-items : goal.returns-clause-items
returns-clause-items c =
    rw (← c.slice-header-items.ensures)
    (headers_put _ c.loop-header.left.now c.slice-header-items.result.now c.loop-header.header-index _
    c.loop-header.invariant.items (omega (arith, c.loop-header-test.false)))

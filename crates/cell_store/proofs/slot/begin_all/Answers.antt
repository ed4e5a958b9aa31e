use Rattle.std.proofs.Common.{arith}
use Rattle.cell_store.proofs.Begun.{begun_one}
use Rattle.cell_store.proofs.slot.begin_all.Goals as goal

pub loop-cell-preserved : goal.loop-cell-preserved
loop-cell-preserved g c =
    let one = begun_one _ _ _ _ _ _ _ _ _ _ _ c.loop-cell.invariant.0 c.loop-cell.invariant.1.1.1 c.loop-cell-test.true
    c.cell-item.is
    c.in-Ok.ensures.numbers c.in-Ok.ensures.slot c.push_reserved.ensures.items in
    (one.0, (omega arith, (omega arith, one.1)))

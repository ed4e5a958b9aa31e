use Rattle.std.proofs.Common.{◌∙◌, arith}
use Rattle.live_layer.proofs.Reserve.{rows_next}
use Rattle.live_layer.proofs.makes.rows_at_most.Goals as goal

pub loop-cell-preserved : goal.loop-cell-preserved
loop-cell-preserved c =
    let within = c.if-rows-gt-MOST_DESK_ROWS.false in (
      rows_next _ _ _ _ _ c.loop-cell-test.true c.cell-item.is c.loop-cell.invariant.0
          (c.from.ensures ∙ c.capacity_of.ensures),
      omega arith,
    )

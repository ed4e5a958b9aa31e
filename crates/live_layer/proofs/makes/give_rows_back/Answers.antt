use Rattle.std.proofs.Common.{refl, ◌∙◌}
use Rattle.live_layer.proofs.Back.{none_gone, all_gone}
use Rattle.live_layer.proofs.makes.give_rows_back.Goals as goal

pub loop-row-init : goal.loop-row-init
loop-row-init c = (none_gone c.args.pool.now c.args.cells.now c.requires, refl)

pub returns-clause-returned : goal.returns-clause-returned
returns-clause-returned c =
    all_gone c.args.pool.now c.loop-row.pool c.args.cells.now c.loop-row.cells c.loop-row.invariant.0
    (c.in_default.ensures.rows ∙ c.in_default.ensures.none)

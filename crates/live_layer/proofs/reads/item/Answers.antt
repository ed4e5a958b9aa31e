use Rattle.std.proofs.Common.{option_copied, slice_index, sym, ap, ◌∙◌}
use Rattle.live_layer.proofs.Found.{item_found, item_none}
use Rattle.live_layer.proofs.reads.item.Goals as goal

pub returns-in-Some : goal.returns-in-Some
returns-in-Some g c =
    c.at.ensures ∙ ap (slice_index c.in-Some.row.now.numbers) c.from.ensures ∙
    item_found c.args.pool.now c.args.desk.now.cells c.args.at.cell c.args.at.index c.args.at.row c.args.number
    c.in-Some.row.now
    (sym c.row.ensures ∙ ap option_copied c.in-Some.is)

pub returns-in-None : goal.returns-in-None
returns-in-None g c =
    item_none c.args.pool.now c.args.desk.now.cells c.args.at.cell c.args.at.index c.args.at.row c.args.number
    (sym c.row.ensures ∙ ap option_copied c.in-None.is)

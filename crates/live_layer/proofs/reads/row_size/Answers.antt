use Rattle.std.proofs.Common.{option_copied, sym, ap, ◌∙◌}
use Rattle.typed_layer.specs.View.{carried_tree}
use Rattle.live_layer.proofs.Found.{size_found, size_bare, size_none}
use Rattle.live_layer.proofs.reads.row_size.Goals as goal

pub returns-in-Some-message : goal.returns-in-Some-message
returns-in-Some-message g c =
    size_found c.args.pool.now c.args.desk.now.cells c.args.at.cell c.args.at.index c.args.at.row
    (carried_tree c.args.carried)
    c.in-Some.row.now
    c.in-Some-message.message c.len.result c.requires.pool.lies.kept (sym c.row.ensures ∙ ap option_copied c.in-Some.is)
    c.in-Some-message.is c.len.ensures

pub returns-in-None-message : goal.returns-in-None-message
returns-in-None-message g c =
    size_bare c.args.pool.now c.args.desk.now.cells c.args.at.cell c.args.at.index c.args.at.row
    (carried_tree c.args.carried)
    c.in-Some.row.now
    (sym c.row.ensures ∙ ap option_copied c.in-Some.is) c.in-None-message.is

pub returns-in-None : goal.returns-in-None
returns-in-None g c =
    size_none c.args.pool.now c.args.desk.now.cells c.args.at.cell c.args.at.index c.args.at.row
    (carried_tree c.args.carried)
    (sym c.row.ensures ∙ ap option_copied c.in-None.is)

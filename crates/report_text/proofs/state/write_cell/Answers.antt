use Rattle.std.proofs.Common.{sym, ap, ◌∙◌}
use Rattle.stack_judge.specs.Answer.{stack_tree}
use Rattle.group_feed.specs.Showing.{state_at}
use Rattle.run_mean.specs.Report.{cell_lines}
use Rattle.outside.proofs.Turns.{wrote_as}
use Rattle.typed_layer.specs.View.{form_tree, items_tree, layer_tree}
use Rattle.report_text.proofs.Shown.{queue_cell, queues_cell}
use Rattle.report_text.proofs.state.write_cell.Goals as goal

pub returns-in-Numbers : goal.returns-in-Numbers
returns-in-Numbers g c =
    let s = state_at (g.S.Feed.group c.args.group.now) c.args.shown.spot.id c.args.shown.spot.place in
    wrote_as _ _ _ _ _
    (ap (λ form. cell_lines (stack_tree c.args.shown.stack.now) c.args.shown.spot.id c.args.shown.spot.place
    (layer_tree c.args.shown.layer.now)
    s
    (c.args.shown.spot.cell, record { name = c.args.shown.cell.now.name; form = form_tree form }))
    (sym c.in-Numbers.is))
    c.write_numbers.ensures

pub returns-in-Queue : goal.returns-in-Queue
returns-in-Queue g c =
    let s = state_at (g.S.Feed.group c.args.group.now) c.args.shown.spot.id c.args.shown.spot.place in
    wrote_as _ _ _ _ _
    (queue_cell (stack_tree c.args.shown.stack.now) c.args.shown.spot.id c.args.shown.spot.place
    (layer_tree c.args.shown.layer.now) s
    c.args.shown.spot.cell c.args.shown.cell.now.name
    c.in-Queue.capacity (items_tree c.in-Queue.items)
    ∙ ap (λ form. cell_lines (stack_tree c.args.shown.stack.now) c.args.shown.spot.id c.args.shown.spot.place
    (layer_tree c.args.shown.layer.now) s
    (c.args.shown.spot.cell, record { name = c.args.shown.cell.now.name; form = form_tree form })) (sym c.in-Queue.is))
    c.write_queues.ensures

pub returns-in-Queues : goal.returns-in-Queues
returns-in-Queues g c =
    let s = state_at (g.S.Feed.group c.args.group.now) c.args.shown.spot.id c.args.shown.spot.place in
    wrote_as _ _ _ _ _
    (queues_cell (stack_tree c.args.shown.stack.now) c.args.shown.spot.id c.args.shown.spot.place
    (layer_tree c.args.shown.layer.now) s
    c.args.shown.spot.cell c.args.shown.cell.now.name
    c.in-Queues.capacity (items_tree c.in-Queues.items)
    ∙ ap (λ form. cell_lines (stack_tree c.args.shown.stack.now) c.args.shown.spot.id c.args.shown.spot.place
    (layer_tree c.args.shown.layer.now) s
    (c.args.shown.spot.cell, record { name = c.args.shown.cell.now.name; form = form_tree form })) (sym c.in-Queues.is))
    c.write_queues-in-Queues.ensures

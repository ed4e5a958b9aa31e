use Rattle.group_feed.specs.Showing.{state_at}
use Rattle.layer_mean.specs.State.{cell_at, numbers_in}
use Rattle.report_lines.proofs.Rows.{in_other_words}
use Rattle.run_mean.specs.Lines.{numbers_text}
use Rattle.typed_layer.specs.View.{layer_tree}
use Rattle.report_text.proofs.Shown.{numbers_parts}
use Rattle.report_text.proofs.cells.build_numbers.Goals as goal

pub returns : goal.returns
returns g c =
    let s = state_at (g.S.Feed.group c.args.group.now) c.args.spot.id c.args.spot.place in
    in_other_words _ _ _ _ _
    (numbers_parts c.args.spot.id c.args.spot.place (layer_tree c.args.layer.now) c.args.name.now
    (numbers_text (numbers_in (cell_at s c.args.spot.cell))))
    c.push_cell_numbers.ensures

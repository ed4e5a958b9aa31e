use Rattle.std.specs.Prelude.{◌++◌, codes}
use Rattle.chart_mean.specs.Row.{label, tinted_band}
use Rattle.chart_draw.proofs.Joined.{last, more}
use Rattle.chart_draw.proofs.rows.draw_stay.Goals as goal

pub returns-in_ok-draw_label-in-View : goal.returns-in_ok-draw_label-in-View
returns-in_ok-draw_label-in-View c =
    let start = c.args.text.now in
    let band = tinted_band c.args.member c.args.turn.x c.args.end c.in-View.ltime in
    let name = label c.args.member c.args.turn.x c.in-View.ltime c.in-View.mask in
    let to_two = more start band name _ _ c.in_ok-draw_view-in-View.ensures
    c.in_ok-draw_label-in-View.ensures in
    rw c.in-View.is (last c.put.result start (band ++ name) (codes "</g>\n") _ _ to_two c.put.ensures)

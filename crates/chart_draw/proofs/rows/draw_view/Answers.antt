use Rattle.std.specs.Prelude.{◌%◌, ◌++◌, codes}
use Rattle.std.specs.Fmt.{decimal}
use Rattle.chart_mean.specs.Row.{band}
use Rattle.chart_draw.proofs.Joined.{last, more}
use Rattle.chart_draw.proofs.rows.draw_view.Goals as goal

pub returns : goal.returns
returns c =
    let start = c.args.text.now in
    let one = codes "<g class='view" ++ decimal (c.args.ltime % 6) in
    let to_two = more start one (codes "'>") _ _ (rw c.from.ensures at c.in_ok-put_number.ensures) c.in_ok-put.ensures
    in
    last c.draw_band.result start (one ++ codes "'>") (band c.args.member c.args.x c.args.end) _ _ to_two
    c.draw_band.ensures

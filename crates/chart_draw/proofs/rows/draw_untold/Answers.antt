use Rattle.std.specs.Prelude.{◌++◌, codes}
use Rattle.chart_mean.specs.Row.{band}
use Rattle.chart_draw.proofs.Joined.{last, more}
use Rattle.chart_draw.proofs.rows.draw_untold.Goals as goal

pub returns : goal.returns
returns c =
    let start = c.args.text.now in
    let one = codes "<g class='untold'>" in
    let to_two = more start one (band c.args.member c.args.x c.args.end) _ _ c.in_ok-put.ensures
    c.in_ok-draw_band.ensures in
    let two = one ++ (band c.args.member c.args.x c.args.end) in
    last c.put-2.result start two (codes "</g>\n") _ _ to_two c.put-2.ensures

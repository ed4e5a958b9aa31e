use Rattle.std.specs.Prelude.{◌-◌, ◌++◌, codes}
use Rattle.chart_mean.specs.Mark.{numbered}
use Rattle.chart_mean.specs.Place.{down}
use Rattle.chart_mean.specs.Row.{midst}
use Rattle.chart_draw.proofs.Joined.{last, more}
use Rattle.chart_draw.proofs.rows.draw_band.Goals as goal

pub returns : goal.returns
returns c =
    let start = c.args.text.now in
    let one = codes "<rect" ++ numbered (codes "x") c.args.x ++ numbered (codes "y") (down c.args.member - 12) in
    let to_two = more start one (numbered (codes "width") (c.args.end - c.args.x)) _ _
    (rw c.down.ensures.is at c.in_ok-put_at.ensures)
    (rw c.saturating_sub.ensures at c.in_ok-attribute.ensures) in
    let two = one ++ numbered (codes "width") (c.args.end - c.args.x) in
    let to_three = more start two (codes " height='24'/>") _ _ to_two c.in_ok-put.ensures in
    last c.draw_midst.result start (two ++ codes " height='24'/>") (midst c.args.member c.args.x c.args.end) _ _
    to_three c.draw_midst.ensures

use Rattle.std.specs.Prelude.{◌+◌, ◌++◌, codes}
use Rattle.std.specs.Fmt.{decimal}
use Rattle.chart_mean.specs.Mark.{numbered}
use Rattle.chart_mean.specs.Place.{down}
use Rattle.chart_draw.proofs.Joined.{last, two_more}
use Rattle.chart_draw.proofs.rows.draw_heading.Goals as goal

pub returns : goal.returns
returns c =
    let start = c.args.text.now in
    let one = codes "<text class='member'" ++ numbered (codes "x") 28 ++
    numbered (codes "y") (down c.args.member + 5) in
    let to_two = two_more start one (codes ">") (decimal c.args.member) _ _
    (rw c.down.ensures.is at c.in_ok-put_at.ensures)
    (rw c.from.ensures at c.in_ok-put_number.ensures) in
    last c.put.result start (one ++ codes ">" ++ decimal c.args.member) (codes "</text>\n") _ _ to_two c.put.ensures

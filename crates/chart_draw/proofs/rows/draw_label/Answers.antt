use Rattle.std.specs.Prelude.{◌-◌, ◌++◌, codes}
use Rattle.std.specs.Fmt.{decimal}
use Rattle.msg_core.specs.View.{most_members}
use Rattle.chart_mean.specs.Mark.{numbered}
use Rattle.chart_mean.specs.Place.{down}
use Rattle.chart_mean.specs.Row.{members_below}
use Rattle.chart_draw.proofs.Joined.{last, more, two_more}
use Rattle.chart_draw.proofs.rows.draw_label.Goals as goal

pub returns : goal.returns
returns c =
    let start = c.args.text.now in
    let one = codes "<text" ++ numbered (codes "x") c.args.x ++ numbered (codes "y") (down c.args.member - 16) in
    let to_two = two_more start one (codes " dx='4'>view ") (decimal c.args.ltime) _ _
    (rw c.down.ensures.is at c.in_ok-put_at.ensures)
    (rw c.from.ensures at c.in_ok-put_number.ensures) in
    let two = one ++ codes " dx='4'>view " ++ decimal c.args.ltime in
    let to_three = more start two (codes " {") _ _ to_two c.in_ok-put.ensures in
    let three = two ++ codes " {" in
    let members = members_below (record { ltime = c.args.ltime; mask = c.args.mask }) most_members in
    let to_four = more start three members _ _ to_three c.in_ok-put_members.ensures in
    last c.put-2.result start (three ++ members) (codes "}</text>") _ _ to_four c.put-2.ensures

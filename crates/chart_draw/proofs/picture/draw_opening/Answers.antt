use Rattle.std.specs.Prelude.{◌++◌, codes}
use Rattle.std.specs.Fmt.{decimal}
use Rattle.chart_mean.specs.Mark.{numbered}
use Rattle.chart_draw.proofs.Joined.{last, more, two_more}
use Rattle.chart_draw.proofs.picture.draw_opening.Goals as goal

pub returns : goal.returns
returns c =
    let start = c.args.text.now in
    let one = codes "<svg xmlns='http://www.w3.org/2000/svg'" in
    let to_two = more start one (numbered (codes "width") c.args.width) _ _ c.in_ok-put.ensures
    c.in_ok-attribute.ensures in
    let two = one ++ numbered (codes "width") c.args.width in
    let to_three = more start two (numbered (codes "height") c.args.height) _ _ to_two c.in_ok-attribute-2.ensures in
    let three = two ++ numbered (codes "height") c.args.height in
    let to_four = two_more start three (codes " viewBox='0 0 ") (decimal c.args.width) _ _ to_three
    c.in_ok-put_number.ensures in
    let four = three ++ codes " viewBox='0 0 " ++ decimal c.args.width in
    let to_five = two_more start four (codes " ") (decimal c.args.height) _ _ to_four c.in_ok-put_number-2.ensures in
    last c.put-2.result start (four ++ codes " " ++ decimal c.args.height) (codes "'>\n") _ _ to_five c.put-2.ensures

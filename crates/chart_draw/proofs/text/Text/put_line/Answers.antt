use Rattle.std.specs.Prelude.{◌++◌, codes}
use Rattle.chart_mean.specs.Mark.{numbered}
use Rattle.chart_draw.proofs.Joined.{last, more}
use Rattle.chart_draw.proofs.text.Text.put_line.Goals as goal

pub returns : goal.returns
returns c =
    let start = c.args.self.now in
    let one = c.args.opening.now in
    let to_two = more start one (numbered (codes "x1") c.args.ends.x1) _ _ c.in_ok-put.ensures c.in_ok-attribute.ensures
    in
    let two = one ++ numbered (codes "x1") c.args.ends.x1 in
    let to_three = more start two (numbered (codes "y1") c.args.ends.y1) _ _ to_two c.in_ok-attribute-2.ensures in
    let three = two ++ numbered (codes "y1") c.args.ends.y1 in
    let to_four = more start three (numbered (codes "x2") c.args.ends.x2) _ _ to_three c.in_ok-attribute-3.ensures in
    let four = three ++ numbered (codes "x2") c.args.ends.x2 in
    let to_five = more start four (numbered (codes "y2") c.args.ends.y2) _ _ to_four c.in_ok-attribute-4.ensures in
    last c.put-2.result start (four ++ numbered (codes "y2") c.args.ends.y2) c.args.closing.now _ _ to_five
    c.put-2.ensures

use Rattle.std.specs.Prelude.{◌++◌, codes}
use Rattle.std.specs.Fmt.{decimal}
use Rattle.chart_mean.specs.Escape.{escaped}
use Rattle.chart_mean.specs.Mark.{class_of}
use Rattle.chart_draw.proofs.Joined.{last, more}
use Rattle.chart_draw.proofs.marks.draw_title.Goals as goal

pub returns : goal.returns
returns c =
    let start = c.args.text.now in
    let class = class_of c.args.breach c.args.line.now.number in
    let one = codes "<g id='L" ++ decimal c.args.line.now.number in
    let to_two = more start one (codes "'") _ _ c.in_ok-put_number.ensures c.in_ok-put.ensures in
    let two = one ++ codes "'" in
    let to_three = more start two class _ _ to_two (rw c.class_of.ensures at c.in_ok-put-2.ensures) in
    let three = two ++ class in
    let to_four = more start three (codes "><title>") _ _ to_three c.in_ok-put-3.ensures in
    let four = three ++ codes "><title>" in
    let to_five = more start four (escaped c.args.line.now.text.now) _ _ to_four c.in_ok-escaped.ensures in
    last c.put-4.result start (four ++ escaped c.args.line.now.text.now) (codes "</title>") _ _ to_five
    c.put-4.ensures

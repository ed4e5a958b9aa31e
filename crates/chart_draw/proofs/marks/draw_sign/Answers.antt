use Rattle.std.specs.Prelude.{◌++◌, codes}
use Rattle.chart_mean.specs.Mark.{numbered, sign_of}
use Rattle.chart_mean.specs.Place.{y_of}
use Rattle.chart_draw.specs.Reading.{says_shown}
use Rattle.chart_draw.proofs.Joined.{last, more}
use Rattle.chart_draw.proofs.marks.draw_sign.Goals as goal

pub returns : goal.returns
returns c =
    let start = c.args.text.now in
    let says = says_shown c.args.line.now.says in
    let one = codes "<use href='#" in
    let to_two = more start one (sign_of says) _ _ c.in_ok-put.ensures (rw c.sign.ensures at c.in_ok-put-2.ensures) in
    let two = one ++ (sign_of says) in
    let to_three = more start two (codes "'") _ _ to_two c.in_ok-put-3.ensures in
    let three = two ++ (codes "'") in
    let to_four = more start three (numbered (codes "x") c.args.line.now.x) _ _ to_three c.in_ok-attribute.ensures in
    let four = three ++ (numbered (codes "x") c.args.line.now.x) in
    let to_five = more start four (numbered (codes "y") (y_of says)) _ _ to_four
    (rw c.y.ensures at c.in_ok-attribute-2.ensures) in
    let five = four ++ (numbered (codes "y") (y_of says)) in
    last c.put-4.result start five (codes "/>") _ _ to_five c.put-4.ensures

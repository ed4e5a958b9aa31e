use Rattle.std.specs.Prelude.{◌++◌, codes}
use Rattle.chart_mean.specs.Mark.{arrow, sign, tenth, title, words}
use Rattle.chart_mean.specs.Place.{y_of}
use Rattle.chart_draw.specs.Reading.{line_shown, manner_shown}
use Rattle.chart_draw.proofs.Joined.{last, more}
use Rattle.chart_draw.proofs.marks.draw_mark.Goals as goal

pub returns : goal.returns
returns c =
    let start = c.args.text.now in
    let line = line_shown c.args.line.now in
    let manner = manner_shown c.args.manner in
    let one = title manner.breach line in
    let to_two = more start one (arrow c.args.sent line.x (y_of line.says)) _ _ c.in_ok-draw_title.ensures
    (rw c.y.ensures at c.in_ok-draw_arrow.ensures) in
    let two = one ++ arrow c.args.sent line.x (y_of line.says) in
    let to_three = more start two (sign line) _ _ to_two c.in_ok-draw_sign.ensures in
    let three = two ++ sign line in
    let to_four = more start three (words manner.hide line) _ _ to_three c.in_ok-draw_words.ensures in
    let four = three ++ words manner.hide line in
    let to_five = more start four (tenth line) _ _ to_four c.in_ok-draw_tenth.ensures in
    last c.put.result start (four ++ tenth line) (codes "</g>\n") _ _ to_five c.put.ensures

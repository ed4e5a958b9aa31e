use Rattle.std.specs.Prelude.{◌+◌, [], ◌++◌, codes, map, max}
use Rattle.std.specs.List.{concat}
use Rattle.chart_mean.specs.Place.{down, rows}
use Rattle.chart_mean.specs.Mark.{marks}
use Rattle.chart_mean.specs.Row.{rows_below}
use Rattle.chart_mean.specs.Stub.{stubs}
use Rattle.chart_mean.specs.Picture.{opening, axis_line, legend_width, manner_of}
use Rattle.chart_mean.specs.Style.{style}
use Rattle.chart_draw.specs.Reading.{excerpt_shown, line_shown}
use Rattle.chart_draw.proofs.Joined.{last, more}
use Rattle.chart_draw.proofs.picture.draw_picture.Goals as goal

pub returns : goal.returns
returns c =
    let start = c.args.text.now in
    let lines = map line_shown c.args.layout.now.lines.items in
    let end = c.args.layout.now.end in
    let one = opening (max legend_width (end + 100)) (down (rows lines)) in
    let to_two = more start one style _ _
    (rw (c.down.ensures.is, c.count_rows-rows.ensures, c.as_slice-lines.ensures.value, c.max.ensures)
    at c.in_ok-draw_opening.ensures)
    (rw c.style.ensures at c.in_ok-put.ensures) in
    let two = one ++ style in
    let to_three = more start two (axis_line end) _ _ to_two c.in_ok-draw_axis.ensures in
    let three = two ++ (axis_line end) in
    let to_four = more start three (rows_below (rows lines) end lines) _ _ to_three
    (rw (c.count_rows-rows.ensures, c.as_slice-lines.ensures.value) at c.in_ok-draw_rows.ensures) in
    let four = three ++ (rows_below (rows lines) end lines) in
    let to_five = more start four (stubs (rows lines) lines) _ _ to_four
    (rw (c.count_rows-rows.ensures, c.as_slice-lines.ensures.value) at c.in_ok-draw_stubs.ensures) in
    let five = four ++ stubs (rows lines) lines in
    let drawn = concat (marks (manner_of (excerpt_shown c.args.excerpt) lines) [] lines) in
    let to_six = more start five drawn _ _ to_five
    (rw (c.manner_of.ensures, c.as_slice-lines.ensures.value) at c.in_ok-draw_marks.ensures) in
    last c.put-2.result start (five ++ drawn) (codes "</svg>\n") _ _ to_six c.put-2.ensures

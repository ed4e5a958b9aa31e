use Rattle.std.specs.Prelude.{◌++◌, codes}
use Rattle.std.specs.Fmt.{decimal}
use Rattle.chart_mean.specs.Escape.{escaped}
use Rattle.chart_mean.specs.Place.{down}
use Rattle.chart_mean.specs.Stub.{stub_end}
use Rattle.chart_draw.proofs.Joined.{last, more, two_more}
use Rattle.chart_draw.proofs.stubs.draw_stub.Goals as goal

pub returns : goal.returns
returns c =
    let start = c.args.text.now in
    let post = c.args.post in
    let one = codes "<g class='stub'><title>packet " in
    let to_two = more start one (escaped post.number.now) _ _ c.in_ok-put.ensures c.in_ok-escaped.ensures in
    let two = one ++ escaped post.number.now in
    let to_three = two_more start two (codes " never reached ") (decimal c.args.member) _ _ to_two
    (rw c.from.ensures at c.in_ok-put_number.ensures) in
    let three = two ++ codes " never reached " ++ decimal c.args.member in
    let to_four = two_more start three (codes "</title><path d='M") (decimal post.x) _ _ to_three
    c.in_ok-put_number-2.ensures in
    let four = three ++ codes "</title><path d='M" ++ decimal post.x in
    let to_five = two_more start four (codes " ") (decimal (down post.sender)) _ _ to_four
    (rw (c.down.ensures.is, c.from-2.ensures) at c.in_ok-put_number-3.ensures) in
    let five = four ++ codes " " ++ decimal (down post.sender) in
    let to_six = more start five (codes "l") _ _ to_five c.in_ok-put-2.ensures in
    let six = five ++ codes "l" in
    let to_seven = more start six (stub_end post.sender c.args.member) _ _ to_six c.in_ok-draw_end.ensures in
    last c.put-3.result start (six ++ stub_end post.sender c.args.member) (codes "'/></g>\n") _ _ to_seven
    c.put-3.ensures

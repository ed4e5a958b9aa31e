use Rattle.std.proofs.Common.{ap, ap₂, ◌∙◌}
use Rattle.chart_mean.specs.Place.{lines_from, first_x, x_after}
use Rattle.chart_mean.specs.Picture.{in_range, picture}
use Rattle.chart_draw.specs.Reading.{excerpt_shown, texts_shown}
use Rattle.chart_draw.proofs.picture.draw.Goals as goal

pub returns : goal.returns
returns c =
    let excerpt = excerpt_shown c.args.excerpt in
    let texts = c.in_range.ensures.lines ∙ ap (λ ts. in_range excerpt (texts_shown ts)) c.deref.ensures.value ∙
    ap (in_range excerpt) c.in_ok-texts.ensures.lines in
    let lines = c.in_ok-layout.ensures.lines ∙ ap (lines_from excerpt.hide excerpt.first 0 first_x) texts in
    let end = c.in_ok-layout.ensures.end ∙ ap (x_after excerpt.hide first_x) texts in
    c.into_bytes.ensures ∙ (rw c.new-picture.ensures at c.in_ok-draw_picture.ensures)
    ∙ ap₂ (picture excerpt) end lines

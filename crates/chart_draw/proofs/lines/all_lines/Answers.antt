use Rattle.std.proofs.Common.{ap, ◌∙◌}
use Rattle.chart_draw.specs.Reading.{pieces_left}
use Rattle.chart_draw.proofs.Loops.{begins}
use Rattle.chart_draw.proofs.lines.all_lines.Goals as goal

pub loop-line-init : goal.loop-line-init
loop-line-init c =
    begins c.args.text.now _ _ c.new-lines.ensures.items
    (ap pieces_left c.into_iter-line-iterator.ensures.into_iter_gives ∙ c.lines-line-items.ensures) c.requires

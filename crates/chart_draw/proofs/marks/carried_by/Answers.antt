use Rattle.std.proofs.Common.{ap, ◌∙◌}
use Rattle.chart_mean.specs.Mark.{from_another}
use Rattle.chart_draw.proofs.marks.carried_by.Goals as goal

pub returns-in-Deliver : goal.returns-in-Deliver
returns-in-Deliver c = λ told before agrees.
    rw c.in-Deliver.is
    (c.from_another.ensures ∙
    ap (from_another c.in-Deliver.member) (c.get.ensures.value ∙ agrees (record { word = c.in-Deliver.body })))

use Rattle.std.proofs.Common.{◌∙◌}
use Rattle.chart_draw.proofs.marks.given_by.Goals as goal

pub returns-in-Give : goal.returns-in-Give
returns-in-Give c = λ told before agrees.
    rw c.in-Give.is (c.copied.ensures ∙ c.get.ensures.value ∙ agrees (record { word = c.in-Give.number }))

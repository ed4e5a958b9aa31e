use Rattle.std.proofs.Common.{rules}
use Rattle.chart_draw.proofs.Ran.{large}
use Rattle.chart_draw.proofs.over_sinks.fetch_text.Goals as goal

pub returns-in-TooLong : goal.returns-in-TooLong
returns-in-TooLong g c = large _ _ _ _ (rw c.in-TooLong.is at c.in_ok-read.ensures.answered)
    (search rules)

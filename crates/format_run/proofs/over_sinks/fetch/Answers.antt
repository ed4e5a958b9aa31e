use Rattle.std.proofs.Common.{rules}
use Rattle.format_run.proofs.Comes.{fetched}
use Rattle.format_run.proofs.over_sinks.fetch.Goals as goal

pub returns-in-Whole : goal.returns-in-Whole
returns-in-Whole g c =
    fetched _ _ _ _ _ (rw c.in-Whole.is at c.in_ok-read.ensures.answered) (search rules)
    (rw (c.in-Whole.is, c.from.ensures) at c.in_ok-read.ensures.filled) _ c.judged.ensures

pub returns-in-TooLong : goal.returns-in-TooLong
returns-in-TooLong g c =
    record {
      large = rw (c.in-TooLong.is, c.from.ensures) at c.in_ok-read.ensures.answered;
      sound =
          search rules;
    }

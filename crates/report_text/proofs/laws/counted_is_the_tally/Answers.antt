use Rattle.report_text.proofs.Gained.{counted_tally}
use Rattle.report_text.proofs.laws.counted_is_the_tally.Goals as goal

pub returns : goal.returns
returns c = counted_tally

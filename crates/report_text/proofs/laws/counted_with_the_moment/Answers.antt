use Rattle.report_text.proofs.Gained.{counted_moment}
use Rattle.report_text.proofs.laws.counted_with_the_moment.Goals as goal

pub returns : goal.returns
returns c = counted_moment

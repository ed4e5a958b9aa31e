use Rattle.report_text.proofs.Moments.{told_is_moment}
use Rattle.report_text.proofs.laws.told_is_the_moment.Goals as goal

pub returns : goal.returns
returns c = told_is_moment

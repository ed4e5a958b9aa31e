use Rattle.format_mean.proofs.Round.{keeps_marks}
use Rattle.format_mean.proofs.keeps_marks.Goals as goal

pub returns : goal.returns
returns c = keeps_marks

use Rattle.format_mean.proofs.Round.{is_stable}
use Rattle.format_mean.proofs.is_stable.Goals as goal

pub returns : goal.returns
returns c = is_stable

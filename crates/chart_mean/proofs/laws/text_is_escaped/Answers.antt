use Rattle.chart_mean.proofs.Shown.{all_escaped}
use Rattle.chart_mean.proofs.laws.text_is_escaped.Goals as goal

pub returns : goal.returns
returns c = all_escaped

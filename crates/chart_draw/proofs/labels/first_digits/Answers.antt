use Rattle.chart_mean.specs.Label.{most_shown}
use Rattle.chart_draw.proofs.Loops.{begun}
use Rattle.chart_draw.proofs.labels.first_digits.Goals as goal

pub returns : goal.returns
returns c = begun most_shown c.args.body.now _ c.min.ensures

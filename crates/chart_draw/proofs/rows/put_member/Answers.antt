use Rattle.chart_mean.specs.Row.{ranked_in}
use Rattle.chart_draw.proofs.rows.put_member.Goals as goal

pub returns : goal.returns
unfolding ranked_in
returns c = rw c.rank.ensures at c.put_ranked.ensures

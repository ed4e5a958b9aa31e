use Rattle.pool_laws.proofs.Views.{views_shrink}
use Rattle.pool_laws.proofs.views_shrink.Goals as goal

pub returns : goal.returns
returns c = views_shrink

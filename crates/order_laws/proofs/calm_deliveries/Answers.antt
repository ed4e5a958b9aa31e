use Rattle.order_laws.proofs.Calm.{calm_deliveries}
use Rattle.order_laws.proofs.calm_deliveries.Goals as goal

pub returns : goal.returns
returns c = calm_deliveries

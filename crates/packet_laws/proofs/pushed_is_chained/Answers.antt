use Rattle.packet_laws.proofs.Grown.{pushed_is_chained}
use Rattle.packet_laws.proofs.pushed_is_chained.Goals as goal

pub returns : goal.returns
returns c = pushed_is_chained

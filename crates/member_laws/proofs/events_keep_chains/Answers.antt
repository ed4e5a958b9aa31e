use Rattle.member_laws.proofs.Members.{events_keep_chains}
use Rattle.member_laws.proofs.events_keep_chains.Goals as goal

pub returns : goal.returns
returns c = events_keep_chains

use Rattle.member_laws.proofs.Members.{steps_keep_chains}
use Rattle.member_laws.proofs.steps_keep_chains.Goals as goal

pub returns : goal.returns
returns c = steps_keep_chains

use Rattle.member_laws.proofs.Members.{opened_is_chained}
use Rattle.member_laws.proofs.opened_is_chained.Goals as goal

pub returns : goal.returns
returns c = opened_is_chained

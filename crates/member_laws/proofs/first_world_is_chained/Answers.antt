use Rattle.member_laws.proofs.Members.{first_world_is_chained}
use Rattle.member_laws.proofs.first_world_is_chained.Goals as goal

pub returns : goal.returns
returns c = first_world_is_chained

use Rattle.member_laws.proofs.Members.{moments_are_chained}
use Rattle.member_laws.proofs.moments_are_chained.Goals as goal

pub returns : goal.returns
returns c = moments_are_chained

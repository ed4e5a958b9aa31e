use Rattle.member_laws.proofs.Numbered.{worlds_are_chained}
use Rattle.member_laws.proofs.worlds_are_chained.Goals as goal

pub returns : goal.returns
returns c = worlds_are_chained

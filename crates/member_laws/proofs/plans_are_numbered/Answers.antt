use Rattle.member_laws.proofs.Numbered.{plans_are_numbered}
use Rattle.member_laws.proofs.plans_are_numbered.Goals as goal

pub returns : goal.returns
returns c = plans_are_numbered

use Rattle.handler_laws.proofs.Members.{fresh_are_of_member}
use Rattle.handler_laws.proofs.fresh_are_of_member.Goals as goal

pub returns : goal.returns
returns c = fresh_are_of_member

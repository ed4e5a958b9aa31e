use Rattle.handler_laws.proofs.Members.{steps_keep_members}
use Rattle.handler_laws.proofs.steps_keep_members.Goals as goal

pub returns : goal.returns
returns c = steps_keep_members

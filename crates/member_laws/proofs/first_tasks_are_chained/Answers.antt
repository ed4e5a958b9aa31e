use Rattle.member_laws.proofs.Members.{first_tasks_are_chained}
use Rattle.member_laws.proofs.first_tasks_are_chained.Goals as goal

pub returns : goal.returns
returns c = first_tasks_are_chained

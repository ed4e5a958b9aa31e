use Rattle.trace_laws.proofs.Members.{runs_keep_members}
use Rattle.trace_laws.proofs.runs_keep_members.Goals as goal

pub returns : goal.returns
returns c = runs_keep_members

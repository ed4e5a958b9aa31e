use Rattle.member_laws.proofs.SmallStacks.{keeping_step}
use Rattle.member_laws.proofs.samples.keeping_step.Goals as goal

pub returns : goal.returns
returns c = keeping_step

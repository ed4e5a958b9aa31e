use Rattle.stack_queue.proofs.Entries.{stacks_fit}
use Rattle.stack_queue.proofs.laws.stacks_fit.Goals as goal

pub returns : goal.returns
returns c = stacks_fit

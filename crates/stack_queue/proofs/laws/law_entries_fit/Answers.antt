use Rattle.stack_queue.proofs.Entries.{entries_fit}
use Rattle.stack_queue.proofs.laws.law_entries_fit.Goals as goal

pub returns : goal.returns
returns c = entries_fit

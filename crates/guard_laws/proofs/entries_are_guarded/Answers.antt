use Rattle.guard_laws.proofs.Entry.{entries_are_guarded}
use Rattle.guard_laws.proofs.entries_are_guarded.Goals as goal

pub returns : goal.returns
returns c = entries_are_guarded

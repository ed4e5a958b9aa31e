use Rattle.handler_laws.proofs.Entries.{entries_begin}
use Rattle.handler_laws.proofs.entries_begin.Goals as goal

pub returns : goal.returns
returns c = entries_begin

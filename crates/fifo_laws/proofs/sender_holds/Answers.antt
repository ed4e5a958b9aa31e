use Rattle.fifo_laws.proofs.Law.{sender_holds}
use Rattle.fifo_laws.proofs.sender_holds.Goals as goal

pub returns : goal.returns
returns c = sender_holds

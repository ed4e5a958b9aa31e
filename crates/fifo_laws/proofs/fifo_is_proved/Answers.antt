use Rattle.fifo_laws.proofs.Kept.{fifo_is_proved}
use Rattle.fifo_laws.proofs.fifo_is_proved.Goals as goal

pub returns : goal.returns
returns c = fifo_is_proved

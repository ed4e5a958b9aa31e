use Rattle.total_laws.proofs.Kept.{total_is_proved}
use Rattle.total_laws.proofs.total_is_proved.Goals as goal

pub returns : goal.returns
returns c = total_is_proved

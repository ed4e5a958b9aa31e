use Rattle.script_mean.proofs.ReadBack.{reads_back}
use Rattle.script_mean.proofs.event_lines.events_read_back.Goals as goal

pub returns : goal.returns
returns c = reads_back

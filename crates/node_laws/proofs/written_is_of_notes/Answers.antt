use Rattle.node_laws.proofs.Losses.{written_is_of_notes}
use Rattle.node_laws.proofs.written_is_of_notes.Goals as goal

pub returns : goal.returns
returns c = written_is_of_notes

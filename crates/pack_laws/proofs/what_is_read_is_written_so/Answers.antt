use Rattle.pack_laws.proofs.Lines.{what_is_read_is_written_so}
use Rattle.pack_laws.proofs.what_is_read_is_written_so.Goals as goal

pub returns : goal.returns
returns c = what_is_read_is_written_so

use Rattle.pack_laws.proofs.Files.{files_are_written_so}
use Rattle.pack_laws.proofs.files_are_written_so.Goals as goal

pub returns : goal.returns
returns c = files_are_written_so

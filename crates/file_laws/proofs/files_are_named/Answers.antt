use Rattle.file_laws.proofs.Files.{files_are_named}
use Rattle.file_laws.proofs.files_are_named.Goals as goal

pub returns : goal.returns
returns c = files_are_named

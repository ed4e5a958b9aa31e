use Rattle.file_laws.proofs.Files.{files_are_typed}
use Rattle.file_laws.proofs.files_are_typed.Goals as goal

pub returns : goal.returns
returns c = files_are_typed

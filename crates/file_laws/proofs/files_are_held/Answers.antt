use Rattle.file_laws.proofs.HeldLayers.{files_are_held}
use Rattle.file_laws.proofs.files_are_held.Goals as goal

pub returns : goal.returns
returns c = files_are_held

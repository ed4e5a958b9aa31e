use Rattle.file_laws.proofs.Texts.{texts_are_typed}
use Rattle.file_laws.proofs.texts_are_typed.Goals as goal

pub returns : goal.returns
returns c = texts_are_typed

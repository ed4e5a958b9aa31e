use Rattle.file_laws.proofs.Texts.{texts_are_named}
use Rattle.file_laws.proofs.texts_are_named.Goals as goal

pub returns : goal.returns
returns c = texts_are_named

use Rattle.file_laws.proofs.SmallFiles.{small_files_are_named}
use Rattle.file_laws.proofs.samples.small_files_are_named.Goals as goal

pub returns : goal.returns
returns c = small_files_are_named

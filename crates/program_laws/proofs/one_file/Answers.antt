use Rattle.program_laws.proofs.Files.{one_file}
use Rattle.program_laws.proofs.one_file.Goals as goal

pub returns : goal.returns
returns c = one_file

use Rattle.program_laws.proofs.Files.{one_refusal}
use Rattle.program_laws.proofs.one_refusal.Goals as goal

pub returns : goal.returns
returns c = one_refusal

use Rattle.program_laws.proofs.Traces.{accepted_or_refused}
use Rattle.program_laws.proofs.accepted_or_refused.Goals as goal

pub returns : goal.returns
returns c = accepted_or_refused

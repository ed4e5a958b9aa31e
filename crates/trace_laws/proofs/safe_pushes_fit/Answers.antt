use Rattle.trace_laws.proofs.Calls.{safe_pushes_fit}
use Rattle.trace_laws.proofs.safe_pushes_fit.Goals as goal

pub returns : goal.returns
returns c = safe_pushes_fit

use Rattle.trace_laws.proofs.Calls.{safe_outputs_fit}
use Rattle.trace_laws.proofs.safe_outputs_fit.Goals as goal

pub returns : goal.returns
returns c = safe_outputs_fit

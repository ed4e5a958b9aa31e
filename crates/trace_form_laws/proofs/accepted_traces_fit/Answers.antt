use Rattle.trace_form_laws.proofs.Counts.{accepted_traces_fit}
use Rattle.trace_form_laws.proofs.accepted_traces_fit.Goals as goal

pub returns : goal.returns
returns c = accepted_traces_fit

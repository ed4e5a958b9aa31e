use Rattle.trace_form_laws.proofs.Closed.{traces_are_closed}
use Rattle.trace_form_laws.proofs.traces_are_closed.Goals as goal

pub returns : goal.returns
returns c = traces_are_closed

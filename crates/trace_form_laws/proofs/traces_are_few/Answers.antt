use Rattle.trace_form_laws.proofs.Counts.{traces_are_few}
use Rattle.trace_form_laws.proofs.traces_are_few.Goals as goal

pub returns : goal.returns
returns c = traces_are_few

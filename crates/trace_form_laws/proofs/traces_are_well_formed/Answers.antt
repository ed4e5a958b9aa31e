use Rattle.trace_form_laws.proofs.WellFormed.{traces_are_well_formed}
use Rattle.trace_form_laws.proofs.traces_are_well_formed.Goals as goal

pub returns : goal.returns
returns c = traces_are_well_formed

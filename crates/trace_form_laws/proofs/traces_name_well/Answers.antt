use Rattle.trace_form_laws.proofs.There.{traces_name_well}
use Rattle.trace_form_laws.proofs.traces_name_well.Goals as goal

pub returns : goal.returns
returns c = traces_name_well

use Rattle.trace_form_laws.proofs.Joins.{traces_join_less}
use Rattle.trace_form_laws.proofs.traces_join_less.Goals as goal

pub returns : goal.returns
returns c = traces_join_less

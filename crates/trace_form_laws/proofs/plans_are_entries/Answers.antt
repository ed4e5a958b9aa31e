use Rattle.trace_form_laws.proofs.Plans.{plans_are_entries}
use Rattle.trace_form_laws.proofs.plans_are_entries.Goals as goal

pub returns : goal.returns
returns c = plans_are_entries

use Rattle.trace_form_laws.proofs.Entries.{chained_is_entry}
use Rattle.trace_form_laws.proofs.chained_is_entry.Goals as goal

pub returns : goal.returns
returns c = chained_is_entry

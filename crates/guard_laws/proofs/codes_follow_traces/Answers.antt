use Rattle.guard_laws.proofs.Entry.{codes_follow_traces}
use Rattle.guard_laws.proofs.codes_follow_traces.Goals as goal

pub returns : goal.returns
returns c = codes_follow_traces

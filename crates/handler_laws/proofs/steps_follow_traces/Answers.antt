use Rattle.handler_laws.proofs.Entries.{steps_follow_traces}
use Rattle.handler_laws.proofs.steps_follow_traces.Goals as goal

pub returns : goal.returns
returns c = steps_follow_traces

use Rattle.trace_laws.proofs.Unchecked.{checks_can_go}
use Rattle.trace_laws.proofs.checks_can_go.Goals as goal

pub returns : goal.returns
returns c = checks_can_go

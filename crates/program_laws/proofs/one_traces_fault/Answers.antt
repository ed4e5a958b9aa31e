use Rattle.program_laws.proofs.Traces.{one_traces_fault}
use Rattle.program_laws.proofs.one_traces_fault.Goals as goal

pub returns : goal.returns
returns c = one_traces_fault

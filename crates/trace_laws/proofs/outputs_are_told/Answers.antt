use Rattle.trace_laws.proofs.Shapes.{outputs_are_told}
use Rattle.trace_laws.proofs.outputs_are_told.Goals as goal

pub returns : goal.returns
returns c = outputs_are_told

use Rattle.shape_laws.proofs.Parts.{runs_without_parts}
use Rattle.shape_laws.proofs.runs_without_parts.Goals as goal

pub returns : goal.returns
returns c = runs_without_parts

use Rattle.shape_laws.proofs.Constants.{constants_are_values}
use Rattle.shape_laws.proofs.constants_are_values.Goals as goal

pub returns : goal.returns
returns c = constants_are_values

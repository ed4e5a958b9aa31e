use Rattle.desk_needs.proofs.Fits.{typed_layers_fit}
use Rattle.desk_needs.proofs.laws.typed_layers_fit.Goals as goal

pub returns : goal.returns
returns c = typed_layers_fit

use Rattle.std.proofs.Common.{refl}
use Rattle.layer_ast.proofs.samples.keeps_places.Goals as goal

pub returns : goal.returns
returns c = (refl, refl)

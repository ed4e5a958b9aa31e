use Rattle.std.proofs.Common.{ap, subst, sym}
use Rattle.file_mean.specs.Names.{Placed}
use Rattle.file_laws.specs.Bounds.{HoldsLayer}
use Rattle.file_lower.proofs.layer.layer.Goals as goal

pub layer_of-requires-clause-layer : goal.layer_of-requires-clause-layer
layer_of-requires-clause-layer c = ap (λ (p : Placed). p.layer) c.in_ok-place.ensures

pub layer_of-requires-clause-holds : goal.layer_of-requires-clause-holds
layer_of-requires-clause-holds c = subst HoldsLayer (sym c.in_ok-place.ensures) c.requires

use Rattle.std.proofs.Common.{refl}
use Rattle.stack_mean.specs.Shape.{drawn_shape, has_second_case}
use Rattle.stack_mean.proofs.samples.flip_plans.Goals as goal

pub returns : goal.returns
unfolding drawn_shape has_second_case
returns c = (refl, refl, refl, refl)

use Rattle.shape_laws.proofs.Law.{predicted_runs_have_the_shape}
use Rattle.shape_laws.proofs.predicted_runs_have_the_shape.Goals as goal

pub returns : goal.returns
returns c = predicted_runs_have_the_shape

use Rattle.handler_laws.proofs.Handled.{steps_are_handled}
use Rattle.handler_laws.proofs.law_steps_are_handled.Goals as goal

pub returns : goal.returns
returns c = steps_are_handled

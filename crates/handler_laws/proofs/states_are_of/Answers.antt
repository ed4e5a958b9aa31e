use Rattle.handler_laws.proofs.Members.{states_are_of}
use Rattle.handler_laws.proofs.states_are_of.Goals as goal

pub returns : goal.returns
returns c = states_are_of

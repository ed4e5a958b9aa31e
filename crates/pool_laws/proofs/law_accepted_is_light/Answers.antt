use Rattle.pool_laws.proofs.Room.{accepted_is_light}
use Rattle.pool_laws.proofs.law_accepted_is_light.Goals as goal

pub returns : goal.returns
returns c = accepted_is_light

use Rattle.pack_laws.proofs.Accepted.{accepted_may_replace}
use Rattle.pack_laws.proofs.accepted_may_replace.Goals as goal

pub returns : goal.returns
returns c = accepted_may_replace

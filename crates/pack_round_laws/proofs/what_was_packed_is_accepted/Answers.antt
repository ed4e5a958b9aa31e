use Rattle.pack_round_laws.proofs.Meant.{what_was_packed_is_accepted}
use Rattle.pack_round_laws.proofs.what_was_packed_is_accepted.Goals as goal

pub returns : goal.returns
returns c = what_was_packed_is_accepted

use Rattle.protocol_laws.proofs.Runs.{raw_is_given}
use Rattle.protocol_laws.proofs.raw_is_given.Goals as goal

pub returns : goal.returns
returns c = raw_is_given

use Rattle.protocol_laws.proofs.Runs.{tests_keep}
use Rattle.protocol_laws.proofs.tests_keep.Goals as goal

pub returns : goal.returns
returns c = tests_keep

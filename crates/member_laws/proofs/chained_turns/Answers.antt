use Rattle.member_laws.proofs.Ends.{chained_turns}
use Rattle.member_laws.proofs.chained_turns.Goals as goal

pub returns : goal.returns
returns c = chained_turns

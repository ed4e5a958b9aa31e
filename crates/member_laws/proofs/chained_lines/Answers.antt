use Rattle.member_laws.proofs.Ends.{chained_lines}
use Rattle.member_laws.proofs.chained_lines.Goals as goal

pub returns : goal.returns
returns c = chained_lines

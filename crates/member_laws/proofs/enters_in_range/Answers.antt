use Rattle.member_laws.proofs.Members.{enters_in_range}
use Rattle.member_laws.proofs.enters_in_range.Goals as goal

pub returns : goal.returns
returns c = enters_in_range

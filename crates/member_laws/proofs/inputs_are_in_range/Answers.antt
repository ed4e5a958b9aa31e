use Rattle.member_laws.proofs.Numbered.{inputs_are_in_range}
use Rattle.member_laws.proofs.inputs_are_in_range.Goals as goal

pub returns : goal.returns
returns c = inputs_are_in_range

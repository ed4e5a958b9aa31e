use Rattle.pack_round_laws.proofs.Meant.{stacks_are_told_apart}
use Rattle.pack_round_laws.proofs.stacks_are_told_apart.Goals as goal

pub returns : goal.returns
returns c = stacks_are_told_apart

use Rattle.std.proofs.Common.{◌-◌, length}
use Rattle.stack_judge.specs.Answer.{stack_tree}
use Rattle.packet_short.proofs.planned.Planned.+chain.Given as goal

abbrev pub decreases-chain : goal.decreases-chain
decreases-chain l = length (stack_tree l.stack.now) - l.place

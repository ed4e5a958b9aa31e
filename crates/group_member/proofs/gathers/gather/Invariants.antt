use Rattle.std.proofs.Common.{◌≡◌, length}
use Rattle.group_member.specs.Gathering.{IsGathering}
use Rattle.group_member.proofs.gathers.gather.Given as goal

abbrev pub invariant-loop-direction : goal.invariant-loop-direction
invariant-loop-direction l = record {
  gathering : IsGathering l.fn.pool l.fn.outs.items l.fn.out l.pool l.outs.items l.out;
  room : l.outs.capacity ≡ l.fn.outs.capacity;
}

abbrev pub decreases-loop-direction : goal.decreases-loop-direction
decreases-loop-direction l = length l.outs.items

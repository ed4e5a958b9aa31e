use Rattle.std.proofs.Common.{◌≡◌, map, slice_index}
use Rattle.std.specs.List.{range_with_len}
use Rattle.stack_mean.specs.Acceptance.{largest}
use Rattle.stack_judge.proofs.rounds.largest_cost.Given as goal

abbrev pub invariant-loop-k : goal.invariant-loop-k
invariant-loop-k l = l.most ≡ largest (map (slice_index l.costs) (range_with_len l.first l.k))

use Rattle.std.proofs.Common.{◌≡◌, ◌+◌, ◌-◌, map}
use Rattle.std.specs.List.{range_with_len}
use Rattle.layer_mean.specs.Visit.{none_header}
use Rattle.pool_message.proofs.headers.none_headers.Given as goal

abbrev pub invariant-loop-k : goal.invariant-loop-k
invariant-loop-k l = l.headers ≡ map none_header (range_with_len (l.first + l.k) (l.count - l.k))

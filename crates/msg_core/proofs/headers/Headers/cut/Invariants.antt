use Rattle.std.proofs.Common.{◌≡◌, drop, take}
use Rattle.msg_core.proofs.headers.Headers.cut.Given as goal

abbrev pub invariant-loop-k : goal.invariant-loop-k
invariant-loop-k l = l.kept ≡ drop l.k (take l.count l.all)

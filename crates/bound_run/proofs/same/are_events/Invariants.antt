use Rattle.std.proofs.Common.{◌≡◌, take}
use Rattle.bound_run.proofs.same.are_events.Given as goal

abbrev pub invariant-loop-index : goal.invariant-loop-index
invariant-loop-index l = take l.index l.all ≡ take l.index l.others

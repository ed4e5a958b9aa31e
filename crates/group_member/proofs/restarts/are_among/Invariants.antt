use Rattle.std.proofs.Common.{take}
use Rattle.group_member.specs.Restarting.{AreAmong}
use Rattle.group_member.proofs.restarts.are_among.Given as goal

abbrev pub invariant-loop-layer : goal.invariant-loop-layer
invariant-loop-layer l = AreAmong l.count (take l.layer-index l.layers)

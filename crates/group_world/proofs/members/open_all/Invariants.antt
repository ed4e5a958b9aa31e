use Rattle.std.proofs.Common.{◌+◌, ◌-◌, ◌≤◌, vec_len, vec_capacity}
use Rattle.live_layer.specs.Making.{making}
use Rattle.group_world.proofs.Opened.{AreBelow}
use Rattle.group_world.proofs.members.open_all.Given as goal

abbrev pub invariant-loop-id : goal.invariant-loop-id
invariant-loop-id l = record {
  below : AreBelow l.opening l.n l.id (making l.fn.maker) (making l.maker) l.members.items;
  room : vec_len l.members + (l.n - l.id) ≤ vec_capacity l.members;
}

use Rattle.std.proofs.Common.{◌≡◌, ◌++◌, take}
use Rattle.stack_shapes.specs.Trees.{plans_tree}
use Rattle.group_feed.specs.Standing.{spelled_of}
use Rattle.group_world.proofs.packets.Packets.keep.Given as goal

abbrev pub invariant-loop-k : goal.invariant-loop-k
invariant-loop-k l = l.self ≡ l.fn.self ++ spelled_of (plans_tree l.plans) (take l.k l.out.outputs)

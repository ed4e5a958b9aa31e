use Rattle.std.proofs.Common.{◌≡◌, ◌≤◌, length, map, take}
use Rattle.shape_core.specs.Sketch.{out_tree}
use Rattle.stack_shapes.specs.Lists.{packets_in}
use Rattle.stack_shapes.proofs.starts.count_packets.Given as goal

abbrev pub invariant-loop-out : goal.invariant-loop-out
invariant-loop-out l = record {
  is : l.count ≡ length (packets_in (map out_tree (take l.out-index l.outs)));
  few : l.count ≤ l.out-index;
}

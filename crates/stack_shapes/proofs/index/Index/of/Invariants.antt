use Rattle.std.proofs.Common.{map}
use Rattle.stack_shapes.specs.Lists.{plan_tree}
use Rattle.stack_shapes.proofs.Indexing.{IndexesFrom}
use Rattle.stack_shapes.proofs.index.Index.of.Given as goal

abbrev pub invariant-loop-number : goal.invariant-loop-number
invariant-loop-number l = IndexesFrom (map plan_tree l.plans) l.number l.first.items l.next.items

use Rattle.std.proofs.Common.{◌≡◌, ℕ, Some, length}
use Rattle.std.specs.Prelude.{slice_get}
use Rattle.stack_judge.specs.Answer.{stack_tree}
use Rattle.stack_shapes.specs.Trees.{plans_tree}
use Rattle.packet_short.specs.Layouts.{IsLaidOut}
use Rattle.packet_short.specs.declared.layout.Layout.{Layout}
use Rattle.packet_short.proofs.layouts.Layouts.of.Given as goal

abbrev pub invariant-loop-number : goal.invariant-loop-number
invariant-loop-number l = record {
  laid : (k : ℕ) (layout : Layout) → slice_get l.list.items k ≡ Some (Some layout) →
      IsLaidOut (stack_tree l.stack) (plans_tree l.plans) k layout;
  count : length l.list.items ≡ l.number;
}

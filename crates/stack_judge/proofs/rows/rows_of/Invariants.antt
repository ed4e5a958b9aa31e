use Rattle.std.proofs.Common.{◌≡◌, map, take}
use Rattle.std.specs.List.{sum_by}
use Rattle.stack_mean.specs.Acceptance.{held_at_most}
use Rattle.typed_layer.specs.Places.{rc_tree}
use Rattle.stack_judge.specs.Rows.{rows_of_layer}
use Rattle.stack_judge.proofs.rows.rows_of.Given as goal

abbrev pub invariant-loop-layer : goal.invariant-loop-layer
invariant-loop-layer l = l.sum ≡
    held_at_most (sum_by (rows_of_layer l.n) (map rc_tree (take l.layer-index l.layer-items)))

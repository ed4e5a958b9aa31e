use Rattle.std.proofs.Common.{◌≡◌, map, take}
use Rattle.std.specs.List.{sum_by}
use Rattle.stack_mean.specs.Emissions.{joins_in}
use Rattle.stack_mean.specs.Acceptance.{held_at_most}
use Rattle.typed_layer.specs.View.{expression_tree}
use Rattle.stack_judge.proofs.joins.of_numbers.Given as goal

abbrev pub invariant-loop-expression : goal.invariant-loop-expression
invariant-loop-expression l = l.sum ≡
    held_at_most (sum_by joins_in (map expression_tree (take l.expression-index l.expressions)))

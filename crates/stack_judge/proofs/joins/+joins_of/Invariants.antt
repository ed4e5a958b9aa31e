use Rattle.std.proofs.Common.{◌≡◌, map, take}
use Rattle.stack_mean.specs.Emissions.{joins_of}
use Rattle.stack_mean.specs.Acceptance.{held_at_most}
use Rattle.typed_layer.specs.View.{trees, statement_tree}
use Rattle.stack_judge.proofs.joins.+joins_of.Given as goal

abbrev pub invariant-of_block-loop-statement : goal.invariant-of_block-loop-statement
invariant-of_block-loop-statement l =
    l.sum ≡ held_at_most (joins_of (trees (map statement_tree (take l.statement-index l.statement-items))))

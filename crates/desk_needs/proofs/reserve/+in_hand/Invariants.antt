use Rattle.std.proofs.Common.{◌≡◌, map, take}
use Rattle.stack_mean.specs.Acceptance.{held_at_most}
use Rattle.typed_layer.specs.View.{trees, statement_tree}
use Rattle.layer_desk.specs.Need.{block_in_hand}
use Rattle.desk_needs.proofs.reserve.+in_hand.Given as goal

abbrev pub invariant-of_block-loop-statement : goal.invariant-of_block-loop-statement
invariant-of_block-loop-statement l =
    l.most ≡ held_at_most (block_in_hand (trees (map statement_tree (take l.statement-index l.statement-items))))

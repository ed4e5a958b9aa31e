use Rattle.std.proofs.Common.{◌≡◌, map, take}
use Rattle.stack_mean.specs.Acceptance.{held_at_most}
use Rattle.typed_layer.specs.View.{handler_tree}
use Rattle.layer_desk.specs.Need.{block_in_hand}
use Rattle.desk_needs.specs.Layouts.{most}
use Rattle.desk_needs.proofs.reserve.most_in_hand.Given as goal

abbrev pub invariant-loop-handler : goal.invariant-loop-handler
invariant-loop-handler l =
    l.most ≡ held_at_most (most (λ h. block_in_hand h.block) (map handler_tree (take l.handler-index l.handlers)))

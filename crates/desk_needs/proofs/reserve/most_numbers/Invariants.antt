use Rattle.std.proofs.Common.{◌≡◌, map, take}
use Rattle.typed_layer.specs.View.{handler_tree}
use Rattle.desk_needs.specs.Layouts.{most}
use Rattle.desk_needs.proofs.reserve.most_numbers.Given as goal

abbrev pub invariant-loop-handler : goal.invariant-loop-handler
invariant-loop-handler l = l.most ≡ most (λ h. h.numbers) (map handler_tree (take l.handler-index l.handlers))

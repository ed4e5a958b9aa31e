use Rattle.std.specs.Prelude.{◌≡◌, ◌≤◌, ◌<◌, ◌+◌, ◌^◌}
use Rattle.msg_core.specs.View as views
use Rattle.view_masks.proofs.Ids.{mask_from}
use Rattle.view_masks.proofs.masks.mask_of.Given as goal

abbrev pub invariant-loop-id : goal.invariant-loop-id
invariant-loop-id l =
    (l.rank ≤ l.id) × (l.mask < 2 ^ l.id) ×
    (views.mask_of l.view l.ranks ≡ l.mask + mask_from l.view l.ranks l.rank l.id)

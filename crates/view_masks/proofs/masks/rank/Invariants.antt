use Rattle.std.specs.Prelude.{◌≡◌, ◌≤◌}
use Rattle.msg_core.specs.View as members
use Rattle.view_masks.proofs.Ids.{rank_from}
use Rattle.view_masks.proofs.masks.rank.Given as goal

abbrev pub invariant-loop-other : goal.invariant-loop-other
invariant-loop-other l = (l.rank ≤ l.other) × (members.rank l.view l.id ≡ rank_from l.view l.id l.rank l.other)

use Rattle.std.specs.Prelude.{◌≡◌, slice_get}
use Rattle.msg_core.specs.View.{ids}
use Rattle.view_masks.proofs.Ranked.{ranked_from}
use Rattle.view_masks.proofs.masks.member_at.Given as goal

abbrev pub invariant-loop-id : goal.invariant-loop-id
invariant-loop-id l = slice_get (ids l.view) l.rank ≡ ranked_from l.view l.left l.id

-- Later views of a run have no more members than earlier ones.
use Rattle.std.specs.Prelude.{◌≡◌, ℕ, ◌≤◌, Some}
use Rattle.msg_core.specs.View.{member_count, next_view}
use Rattle.msg_core.specs.declared.packet.View.{View}

-- A view after a view has no more members.
abbrev pub ViewsShrink : Type 0
ViewsShrink = (view next : View) (ranks : ℕ) → next_view view ranks ≡ Some next → member_count next ≤ member_count view

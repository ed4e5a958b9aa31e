-- Members as they are shown, and rows of their queues.
use Rattle.std.specs.Prelude.{ℕ, slice_index_or, Option, Some, None, option_map}
use Rattle.msg_core.specs.Chain.{Content}
use Rattle.msg_core.specs.declared.packet.View.{View}
use Rattle.layer_mean.specs.State.{State}
use Rattle.layer_mean.specs.Visit.{no_state}
use Rattle.layer_mean.specs.declared.run.Row.{Row}
use Rattle.run_mean.specs.Member.{Member, inside, out}
use Rattle.group_feed.specs.Standing.{Peopled}
use Rattle.group_feed.specs.declared.row.MessageView.{MessageView}
use Rattle.group_feed.specs.declared.row.RowView.{RowView}

-- The view of a member, and the state of the layer at a place; without a view or a layer there, a state without cells.
abbrev pub view_shown : Member → Option View
view_shown (inside view states) = Some view
view_shown out = None

abbrev pub state_shown : Member → ℕ → State
state_shown (inside view states) place = slice_index_or states place no_state
state_shown out place = no_state

-- A member of a group by its id, or one in no view where the group doesn't have it; and the state of its layer at a
-- place.
abbrev pub shown_in : Peopled → ℕ → Member
shown_in c id = slice_index_or c.members id out

abbrev pub state_at : Peopled → (id place : ℕ) → State
state_at c id place = state_shown (shown_in c id) place

-- A shown message, and a shown row, as the definitions have them.
abbrev pub message_meant : MessageView → Content
message_meant m = record { headers = m.headers.now; body = m.body.now }

abbrev pub row_meant : RowView → Row
row_meant r = record { numbers = r.numbers.now; message = option_map message_meant r.message }

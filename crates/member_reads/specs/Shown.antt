-- Members as they are shown.
use Rattle.std.specs.Prelude.{ℕ, List, slice_index_or, Option, Some, None}
use Rattle.msg_core.specs.declared.packet.View.{View}
use Rattle.layer_mean.specs.State.{State}
use Rattle.layer_mean.specs.Visit.{no_state}
use Rattle.std.specs.Borrow.{Bor}
use Rattle.slot_pool.specs.Held.{Held}
use Rattle.run_mean.specs.Member.{Member, inside, out}
use Rattle.live_layer.specs.Layer.{state_in}
use Rattle.live_layer.specs.declared.layer.FileLayer.{FileLayer}

-- The member that is in a view with these states of its layers, or in none.
abbrev pub member_in : Option View → List State → Member
member_in (Some view) states = inside view states
member_in None states = out

-- The view of a member, and the state of the layer at a place; without a view or a layer there, a state without cells.
abbrev pub view_shown : Member → Option View
view_shown (inside view states) = Some view
view_shown out = None

abbrev pub state_shown : Member → ℕ → State
state_shown (inside view states) place = slice_index_or states place no_state
state_shown out place = no_state

-- The state of a layer in a pool, if there is one.
abbrev pub state_of : List Held → Option (Bor FileLayer) → State
state_of p (Some layer) = state_in p layer.now
state_of p None = no_state

-- Members that begin again.
use Rattle.std.specs.Prelude.{◌≡◌, ℕ, ◌≤◌, Bool, true, false, List, map}
use Rattle.std.specs.List.{AllByRecursion}
use Rattle.slot_pool.specs.Held.{Held}
use Rattle.msg_core.specs.declared.packet.View.{View}
use Rattle.layer_mean.specs.Tree.{LayerTree}
use Rattle.run_mean.specs.Member.{inside, opened_member}
use Rattle.live_layer.specs.Layer.{state_in}
use Rattle.live_layer.specs.declared.layer.FileLayer.{FileLayer}
use Rattle.group_member.specs.Placed.{Placed, SamePlace}
use Rattle.group_member.specs.Viewing.{HasMembers}
use Rattle.group_member.specs.Working.{states_in, IsReady}
use Rattle.group_member.specs.declared.works.Works.{Works}

-- Each of these layers has at least `count` members.
pub record AreAmong (count : ℕ) (layers : List FileLayer) : Type 0 where
  pub counts : (p : List Held) → AllByRecursion (λ s. count ≤ s.count) (map (state_in p) layers)

-- A member works with this as it comes into a view of no more members than its first one had, with fresh layers.
pub record IsAnew (stack : List LayerTree) (most : ℕ) (view : View) (id : ℕ) (w : Works) : Type 0 where
  pub ready : IsReady stack most w
  pub member : opened_member stack view id ≡ inside view (states_in w)
  pub members : HasMembers stack most view id (states_in w)

-- The member works with such fresh layers, or nothing has changed.
abbrev pub BeginsAnew : (stack : List LayerTree) (most : ℕ) (view : View) (id : ℕ) → Works → Works → Bool → Type 0
BeginsAnew stack most view id old new true = IsAnew stack most view id new
BeginsAnew stack most view id old new false = new ≡ old

-- A member has begun again in a view: it stands where a member opened in this view stands, and all else of it stays.
pub record IsRestarted (view : View) (old new : Placed) : Type 0 where
  pub member : new.member ≡ opened_member old.stack view old.id
  pub place : SamePlace old new

-- The member has begun again, or nothing has changed.
abbrev pub Restarts : View → Placed → Placed → Bool → Type 0
Restarts view old new true = IsRestarted view old new
Restarts view old new false = new ≡ old

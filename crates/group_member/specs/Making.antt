-- Layers that are made for a member, one by one, and what it then works with.
use Rattle.std.specs.Prelude.{◌≡◌, ℕ, ◌+◌, ◌≤◌, List, [], map, length, Result, Ok, Err}
use Rattle.std.specs.List.{flat_map, range_with_len, AllByRecursion}
use Rattle.std.specs.declared.alloc.AllocError.{AllocError}
use Rattle.std.specs.declared.alloc.Global.{Global}
use Rattle.std.specs.declared.vec.Vec.{Vec}
use Rattle.slot_pool.specs.Held.{Held}
use Rattle.msg_core.specs.declared.message.Memory.{Memory}
use Rattle.msg_core.specs.View.{member_count}
use Rattle.msg_core.specs.declared.packet.View.{View}
use Rattle.layer_mean.specs.Tree.{LayerTree}
use Rattle.layer_mean.specs.Visit.{fresh}
use Rattle.run_mean.specs.Member.{inside, opened_member}
use Rattle.live_layer.specs.Layer.{place_of, tree_of, refs_of, IsInOrder, state_in}
use Rattle.live_layer.specs.Making.{Making}
use Rattle.live_layer.specs.declared.layer.FileLayer.{FileLayer}
use Rattle.group_member.specs.Viewing.{HasMembers}
use Rattle.group_member.specs.Working.{states_in, IsReady}
use Rattle.group_member.specs.declared.kit.Kit.{Kit}
use Rattle.group_member.specs.declared.works.Works.{Works}

-- These layers are those of some trees, from the lowest place on, before their first events.
pub record AreFresh (me count ltime : ℕ) (trees : List LayerTree) (layers : List FileLayer) : Type 0 where
  pub places : map place_of layers ≡ range_with_len 0 (length trees)
  pub trees_are : map tree_of layers ≡ trees
  pub order : (p : List Held) → AllByRecursion (IsInOrder p) layers
  pub refs : flat_map refs_of layers ≡ []
  pub states : (p : List Held) → map (state_in p) layers ≡ map (λ layer. fresh layer me count ltime) trees

-- `count` more layers were made.
pub record Made (count : ℕ) (old new : Making) : Type 0 where
  pub same : new.stack ≡ old.stack
  pub made : new.made ≡ old.made + count

-- At most `most` more were made.
pub record MadeAtMost (most : ℕ) (old new : Making) : Type 0 where
  pub same : new.stack ≡ old.stack
  pub made : new.made ≤ old.made + most

pub record AllMade (me count ltime : ℕ) (old new : Making) (layers : List FileLayer) : Type 0 where
  pub fresh_are : AreFresh me count ltime old.stack layers
  pub making : Made (length old.stack) old new

-- All layers of a stack are made, or there is no memory.
abbrev pub MakesAll : (me count ltime : ℕ) (old new : Making) → Result (Vec FileLayer Global) AllocError → Type 0
MakesAll me count ltime old new (Ok layers) = AllMade me count ltime old new layers.items
MakesAll me count ltime old new (Err e) = MadeAtMost (length old.stack) old new

-- A member works with this as it comes into its first view.
pub record IsOpening (stack : List LayerTree) (view : View) (id : ℕ) (old new : Making) (w : Works) : Type 0 where
  pub ready : IsReady stack (member_count view) w
  pub member : opened_member stack view id ≡ inside view (states_in w)
  pub members : HasMembers stack (member_count view) view id (states_in w)
  pub making : Made (length stack) old new

abbrev pub OpensWorks : (stack : List LayerTree) (view : View) (id : ℕ) (old new : Making) → Result Works AllocError →
    Type 0
OpensWorks stack view id old new (Ok w) = IsOpening stack view id old new w
OpensWorks stack view id old new (Err e) = MadeAtMost (length stack) old new

abbrev pub OpensKit : (stack : List LayerTree) (view : View) (id : ℕ) (old new : Making) → Result Kit Memory → Type 0
OpensKit stack view id old new (Ok kit) = IsOpening stack view id old new kit.works
OpensKit stack view id old new (Err e) = MadeAtMost (length stack) old new

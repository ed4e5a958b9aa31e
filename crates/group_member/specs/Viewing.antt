-- Members that come into a view.
use Rattle.std.specs.Prelude.{◌≡◌, ℕ, ◌≤◌, List, [], map, Option, Some, None}
use Rattle.std.specs.List.{flat_map, AllByRecursion}
use Rattle.slot_pool.specs.Held.{Held}
use Rattle.slot_pool.specs.References.{Moved}
use Rattle.msg_core.specs.View.{member_count}
use Rattle.msg_core.specs.declared.packet.View.{View}
use Rattle.layer_mean.specs.State.{State}
use Rattle.layer_mean.specs.Tree.{LayerTree}
use Rattle.layer_mean.specs.Visit.{fresh}
use Rattle.run_mean.specs.Member.{inside, out, installed_member}
use Rattle.member_laws.specs.Members.{IsInside}
use Rattle.view_core.specs.declared.step.Change.{Change}
use Rattle.view_core.specs.declared.step.Change.TheVariants.{Into, Out}
use Rattle.live_layer.specs.Layer.{place_of, tree_of, refs_of, taken_by, IsInOrder, state_in}
use Rattle.live_layer.specs.declared.layer.FileLayer.{FileLayer}
use Rattle.trace_mean.specs.Worth.{Input}
use Rattle.trace_laws.specs.Members.{AreOf}
use Rattle.group_member.specs.After.{rank_of}
use Rattle.group_member.specs.Working.{states_in, taken_in, IsReady}
use Rattle.group_member.specs.declared.works.Works.{Works}

-- What each input tells the member of this id in a view.
abbrev pub input_at : View → ℕ → Input
input_at view id = record {
  me = rank_of view id;
  count = member_count view;
  ltime = view.ltime;
  peer = 0;
  fields =
      [];
  body = [];
}

-- A member whose first view had `most` members is in a view of no more members, and the states are this member's in it.
pub record HasMembers (stack : List LayerTree) (most : ℕ) (view : View) (id : ℕ) (states : List State) : Type 0 where
  pub few : member_count view ≤ most
  pub own : AreOf (input_at view id) stack states

-- Such a member is in a view, with chained states; or it is in none.
pub record IsIn (stack : List LayerTree) (most : ℕ) (view : View) (id : ℕ) (states : List State) : Type 0 where
  pub inside_is : IsInside stack view states
  pub members : HasMembers stack most view id states

abbrev pub IsAt : List LayerTree → (most id : ℕ) → Option View → List State → Type 0
IsAt stack most id (Some view) states = IsIn stack most view id states
IsAt stack most id None states = Unit {0}

-- Layers have begun again in a view: they are where they were, in order, refer to nothing, took as many events as
-- before, and their states are fresh.
pub record Anew (me count ltime : ℕ) (p q : List Held) (old new : List FileLayer) : Type 0 where
  pub places : map place_of new ≡ map place_of old
  pub trees : map tree_of new ≡ map tree_of old
  pub order : (r : List Held) → AllByRecursion (IsInOrder r) new
  pub refs : flat_map refs_of new ≡ []
  pub states : (r : List Held) → map (state_in r) new ≡ map (λ layer. fresh layer me count ltime) (map tree_of old)
  pub taken : map taken_by new ≡ map taken_by old
  pub moved : Moved p q (flat_map refs_of old) []

-- A member comes into the view after its own, made of these ranks, with fresh layers; or it is no longer in any view.
-- Either way its layers took as many events as before.
pub record ComesInto (stack : List LayerTree) (most : ℕ) (view : View) (id ranks : ℕ) (next : View) (old w : Works) :
    Type 0 where
  pub member : installed_member stack view id ranks ≡ inside next (states_in w)
  pub members : HasMembers stack most next id (states_in w)
  pub ready : IsReady stack most w
  pub taken : taken_in w ≡ taken_in old

pub record Leaves (stack : List LayerTree) (most : ℕ) (view : View) (id ranks : ℕ) (old w : Works) : Type 0 where
  pub member : installed_member stack view id ranks ≡ out
  pub ready : IsReady stack most w
  pub taken : taken_in w ≡ taken_in old

abbrev pub Installs : (stack : List LayerTree) (most : ℕ) (view : View) (id ranks : ℕ) → Works → Works → Change → Type 0
Installs stack most view id ranks old w (Into next) = ComesInto stack most view id ranks next old w
Installs stack most view id ranks old w Out = Leaves stack most view id ranks old w

-- The first announced view is installed, if there is one; else nothing changes.
abbrev pub Changes : (stack : List LayerTree) (most : ℕ) (view : View) (id : ℕ) → Option ℕ → Works → Works →
    Option Change → Type 0
Changes stack most view id (Some ranks) old new (Some change) = Installs stack most view id ranks old new change
Changes stack most view id None old new None = new ≡ old
Changes stack most view id _ old new _ = ⊥

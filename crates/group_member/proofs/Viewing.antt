-- A member comes into the view after its own.
use Rattle.std.proofs.Common.{◌≡◌, ◌∙◌, ℕ, ◌<◌, ◌≤◌, Bool, true, false, nat_lt, ltb-true, List, [], map, length, Option}
use Rattle.std.proofs.Common.{Some, None, position, refl, sym, ap, subst, arith}
use Rattle.std.specs.Prelude.{◌==◌, if◌then◌else◌}
use Rattle.std.specs.List.{AllByRecursion, position_or_len}
use Rattle.std.specs.Option.{option_map_or}
use Rattle.slot_pool.specs.References.{Exact}
use Rattle.slot_pool.proofs.References.{exact-moved}
use Rattle.msg_core.specs.View.{ids, member_count, rank, next_view}
use Rattle.msg_core.specs.declared.packet.View.{View}
use Rattle.layer_mean.specs.State.{State}
use Rattle.layer_mean.specs.Tree.{LayerTree}
use Rattle.layer_mean.specs.Visit.{fresh}
use Rattle.run_mean.specs.Member.{inside, out, opened_member}
use Rattle.chain_laws.proofs.Lists.{each_so}
use Rattle.pool_laws.proofs.Views.{views_shrink}
use Rattle.trace_laws.specs.Members.{AreOf}
use Rattle.group_member.specs.After.{rank_of}
use Rattle.group_member.specs.Viewing.{input_at, HasMembers, Anew, ComesInto}
use Rattle.group_member.specs.Working.{states_in, refs_in, IsReady}
use Rattle.group_member.specs.declared.works.Works.{Works}
use Rattle.group_member.proofs.Members.{fresh_are_of}

-- a rank is below the number of members

position_below : {A : Type 0} (p : A → Bool) (xs : List A) (k : ℕ) → position p xs ≡ Some k → k < length xs
position_below p xs k is = go (nat_lt (position_or_len p xs) (length xs)) refl is where
  go : (b : Bool) → nat_lt (position_or_len p xs) (length xs) ≡ b → (if b then Some (position_or_len p xs) else None) ≡
      Some k → k < length xs
  go true below is =
      let e : position_or_len p xs ≡ k = cc is in
      omega (arith, e, ltb-true (position_or_len p xs) (length xs) below)
  go false below is = absurd (cc is)

pub rank_below : (view : View) (id me : ℕ) → rank view id ≡ Some me → me < member_count view
rank_below view id me is = position_below (λ other. other == id) (ids view) me is

-- what was enough for a view is so for the one after it

pub fewer_now : (view next : View) (ranks count : ℕ) (states : List State) → next_view view ranks ≡ Some next →
    count ≡ member_count next →
    AllByRecursion (λ (s : State). s.count ≡ member_count view) states →
    AllByRecursion (λ (s : State). count ≤ s.count) states
fewer_now view next ranks count states is same are =
    let less = views_shrink view next ranks is in
    each_so (λ (s : State). s.count ≡ member_count view) (λ (s : State). count ≤ s.count)
    (λ s at. omega (arith, at, less, same)) states are

-- states are fresh as those of their member, by its rank
pub fresh_own : (view : View) (id me : ℕ) (stack : List LayerTree) (states : List State) → rank view id ≡ Some me →
    states ≡ map (λ (layer : LayerTree). fresh layer me (member_count view) view.ltime) stack →
    AreOf (input_at view id) stack states
fresh_own view id me stack states at fresh_are =
    let its : me ≡ rank_of view id = ap (λ (r : Option ℕ). option_map_or (λ (r : ℕ). r) r 0) (sym at) in
    subst (λ (all : List State). AreOf (input_at view id) stack all)
    (sym (fresh_are ∙ ap (λ (n : ℕ). map (λ (layer : LayerTree). fresh layer n (member_count view) view.ltime) stack)
    its))
    (fresh_are_of (input_at view id) stack)

pub opened_is : (stack : List LayerTree) (view : View) (id me : ℕ) → rank view id ≡ Some me →
    opened_member stack view id ≡
    inside view (map (λ (layer : LayerTree). fresh layer me (member_count view) view.ltime) stack)
opened_is stack view id me at =
    ap (λ (o : Option ℕ).
    option_map_or (λ me. inside view
    (map (λ (layer : LayerTree). fresh layer me (member_count view) view.ltime) stack)) o
    out) at

module _ (stack : List LayerTree) (most : ℕ) (view next : View) (id ranks me : ℕ) where
  pub comes_into : (count : ℕ) (old new : Works) → next_view view ranks ≡ Some next → rank next id ≡ Some me →
      count ≡ member_count next →
      IsReady stack most old → HasMembers stack most view id (states_in old) →
      Anew me count next.ltime old.pool new.pool old.layers.items new.layers.items →
      new.tasks ≡ old.tasks → new.outs ≡ old.outs → ComesInto stack most view id ranks next old new
  comes_into count old new following at same ready members anew tasks outs =
      let states : states_in new ≡ map (λ (layer : LayerTree). fresh layer me (member_count next) next.ltime) stack =
      anew.states new.pool
      ∙ ap (λ (layers : List LayerTree). map (λ (layer : LayerTree). fresh layer me count next.ltime) layers)
      ready.stand.layers
      ∙ ap (λ (n : ℕ). map (λ (layer : LayerTree). fresh layer me n next.ltime) stack) same in
      let less = views_shrink view next ranks following in let few = members.few in record {
        member = ap (λ (o : Option View). option_map_or (λ n. opened_member stack n id) o out) following ∙
            opened_is stack next id me at ∙ ap (inside next)
            (sym states);
        members = record {
          few = omega arith;
          own = fresh_own next id me stack (states_in new) at states;
        };
        taken = anew.taken;
        ready = record {
          stand = record {
            places = anew.places ∙ ready.stand.places;
            layers = anew.trees ∙ ready.stand.layers;
            ready = anew.order new.pool;
          };
          exact = subst (λ (xs : List ℕ). Exact new.pool xs) (sym anew.refs)
              (exact-moved old.pool new.pool (refs_in old) [] ready.exact anew.moved);
          quiet = record { tasks = tasks ∙ ready.quiet.tasks; outs = outs ∙ ready.quiet.outs };
          slots = anew.moved.slots ∙ ready.slots;
          few = ready.few;
        };
      }

-- A member begins again.
use Rattle.std.proofs.Common.{◌≡◌, ◌∙◌, ℕ, ◌+◌, ◌<◌, ◌≤◌, List, [], ◌∷◌, ◌++◌, map, take, length, get_or, Some}
use Rattle.std.proofs.Common.{refl, sym, ap, subst, arith, add-one, take-suc}
use Rattle.std.specs.List.{AllByRecursion}
use Rattle.std.specs.Rc.{rc_value}
use Rattle.std.proofs.lemmas.List.{map-append}
use Rattle.slot_pool.specs.Held.{Held}
use Rattle.slot_pool.specs.References.{Exact}
use Rattle.slot_pool.proofs.References.{exact-moved}
use Rattle.msg_core.specs.View.{member_count, most_members, rank}
use Rattle.msg_core.specs.declared.packet.View.{View}
use Rattle.layer_mean.specs.State.{State}
use Rattle.layer_mean.specs.Tree.{LayerTree}
use Rattle.layer_mean.specs.Visit.{fresh}
use Rattle.run_mean.specs.Member.{Member, inside}
use Rattle.chain_laws.proofs.Lists.{each_append}
use Rattle.stack_judge.specs.Answer.{stack_tree}
use Rattle.stack_judge.specs.declared.stack.Stack.{Stack}
use Rattle.member_laws.specs.Members.{IsView, IsChainedMember}
use Rattle.member_laws.proofs.Members.{opened_is_chained}
use Rattle.live_layer.specs.Layer.{state_in}
use Rattle.live_layer.specs.declared.layer.FileLayer.{FileLayer}
use Rattle.group_member.specs.After.{rank_of}
use Rattle.group_member.specs.Placed.{Placed}
use Rattle.group_member.specs.Placing.{placed_member, IsMember}
use Rattle.group_member.specs.Restarting.{AreAmong, IsAnew, IsRestarted}
use Rattle.group_member.specs.Viewing.{Anew}
use Rattle.group_member.specs.Working.{states_in, refs_in, IsReady}
use Rattle.group_member.specs.declared.member.Member.TheInside.{Inside}
use Rattle.group_member.specs.declared.works.Works.{Works}
use Rattle.group_member.proofs.Viewing.{fresh_own, opened_is}

-- the next layer has at least `count` members too
pub among_next : (count : ℕ) (layers : List FileLayer) (k : ℕ) (s : FileLayer) (now : ℕ) → k < length layers →
    s ≡ get_or layers k s →
    AreAmong count (take k layers) → ((p : List Held) → now ≡ (state_in p s).count) → count ≤ now →
    AreAmong count (take (k + 1) layers)
among_next count layers k s now within is so_far counts enough =
    let front : take (k + 1) layers ≡ take k layers ++ s ∷ [] =
    ap (λ (n : ℕ). take n layers) (add-one k) ∙ take-suc layers k s within ∙
    ap (λ (x : FileLayer). take k layers ++ x ∷ []) (sym is) in record {
      counts = λ p.
          let same = counts p in
          let one : count ≤ (state_in p s).count = omega (arith, same, enough) in
          subst (λ (states : List State). AllByRecursion (λ (x : State). count ≤ x.count) states)
          (sym (ap (map (state_in p)) front ∙ map-append (state_in p) (take k layers) (s ∷ [])))
          (each_append (λ (x : State). count ≤ x.count) (map (state_in p) (take k layers)) (state_in p s ∷ [])
          (so_far.counts p) (one, tt));
    }

-- what a member works with is that of one that comes into the view
pub anew_in : (stack : List LayerTree) (most : ℕ) (view : View) (id me count : ℕ) (old new : Works) →
    rank view id ≡ Some me → count ≡ member_count view → count ≤ most →
    IsReady stack most old →
    Anew me count view.ltime old.pool new.pool old.layers.items new.layers.items → new.tasks ≡ old.tasks →
    new.outs ≡ old.outs →
    IsAnew stack most view id new
anew_in stack most view id me count old new at same few ready anew tasks outs =
    let states : states_in new ≡ map (λ (layer : LayerTree). fresh layer me (member_count view) view.ltime) stack =
    anew.states new.pool
    ∙ ap (λ (layers : List LayerTree). map (λ (layer : LayerTree). fresh layer me count view.ltime) layers)
    ready.stand.layers
    ∙ ap (λ (n : ℕ). map (λ (layer : LayerTree). fresh layer me n view.ltime) stack) same in record {
      ready = record {
        stand = record {
          places = anew.places ∙ ready.stand.places;
          layers = anew.trees ∙ ready.stand.layers;
          ready = anew.order new.pool;
        };
        exact = subst (λ (xs : List ℕ). Exact new.pool xs) (sym anew.refs)
            (exact-moved old.pool new.pool (refs_in old) [] ready.exact anew.moved);
        quiet = record { tasks = tasks ∙ ready.quiet.tasks; outs = outs ∙ ready.quiet.outs };
        slots = anew.moved.slots ∙ ready.slots;
        few = ready.few;
      };
      member = opened_is stack view id me at ∙ ap (inside view) (sym states);
      members = record {
        few = subst (λ (n : ℕ). n ≤ most) same few;
        own = fresh_own view id me stack (states_in new) at states;
      };
    }

-- a member that works with it is one, opened in the view
module _ (m : Inside) (stack : Stack) (view : View) (works : Works) (r c : ℕ) where
  pub again_is : IsMember m → stack ≡ rc_value m.stack → IsView view →
      IsAnew (stack_tree stack) m.most view m.id works →
      (r ≡ rank_of view m.id) × (r < most_members) →
      (c ≡ member_count view) × (c ≤ most_members) →
      IsMember (record m { view = Some view; rank = r; count = c; kit = record m.kit { works = works } })
  again_is is same is_view anew ranks counts =
      let its = subst (λ (s : Stack). IsAnew (stack_tree s) m.most view m.id works) same anew in record {
        typed = is.typed;
        plans_are = is.plans_are;
        entries_are = is.entries_are;
        starts_are = is.starts_are;
        codes_are = is.codes_are;
        rank_is = ranks;
        count_is = counts;
        bare = is.bare;
        ready = its.ready;
        spare = is.spare;
        laid = is.laid;
        at = record {
          inside_is = subst (λ (x : Member). IsChainedMember (stack_tree (rc_value m.stack)) x) its.member
              (opened_is_chained (stack_tree (rc_value m.stack)) view m.id is.typed is_view);
          members = its.members;
        };
      }

  pub restarted : (old : Placed) → placed_member m ≡ old → stack ≡ rc_value m.stack →
      IsAnew (stack_tree stack) m.most view m.id works →
      IsRestarted view old
      (placed_member (record m { view = Some view; rank = r; count = c; kit = record m.kit { works = works } }))
  restarted old seen same anew =
      let its = subst (λ (s : Stack). IsAnew (stack_tree s) m.most view m.id works) same anew in
      subst
      (λ (p : Placed). IsRestarted view p
      (placed_member (record m { view = Some view; rank = r; count = c; kit = record m.kit { works = works } }))) seen
      (record {
        member = sym its.member;
        place = record { stack = refl; plans = refl; mode = refl; group = refl; stamp = refl; id = refl; most = refl };
      })

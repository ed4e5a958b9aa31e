-- Layers begin again one by one.
use Rattle.std.proofs.Common.{◌≡◌, ◌∙◌, ℕ, suc, ◌<◌, ◌≤◌, List, [], ◌∷◌, ◌++◌, map, set, get_or, take, drop, length}
use Rattle.std.proofs.Common.{flat_map, refl, sym, ap, subst, arith, drop-cons, length-set}
use Rattle.std.specs.List.{AllByRecursion}
use Rattle.std.proofs.lemmas.List.{take_all, drop_all, drop-set-lt}
use Rattle.std.proofs.Math.Seq.{take-suc, take-suc-set}
use Rattle.slot_pool.proofs.Times.{times-append}
use Rattle.layer_mean.specs.Tree.{LayerTree}
use Rattle.slot_pool.specs.Held.{Held}
use Rattle.slot_pool.specs.References.{Moved, Covers}
use Rattle.slot_pool.proofs.References.{moved-same, moved-chain, moved-beside}
use Rattle.layer_mean.specs.State.{State}
use Rattle.layer_mean.specs.Visit.{fresh}
use Rattle.pool_message.specs.Moves.{Returned}
use Rattle.pool_message.proofs.Lists.{each_stays}
use Rattle.live_layer.specs.Layer.{place_of, tree_of, refs_of, taken_by, IsInOrder, state_in, BeginsAgain}
use Rattle.live_layer.specs.Staged.{layer_stays}
use Rattle.live_layer.specs.declared.layer.FileLayer.{FileLayer}
use Rattle.group_member.specs.Resetting.{AreAgain, IsResetting}
use Rattle.group_member.specs.Viewing.{Anew}

module _ (me count ltime : ℕ) where
  again_more : (olds news : List FileLayer) (old new : FileLayer) → AreAgain me count ltime olds news →
      BeginsAgain me count ltime old new →
      AreAgain me count ltime (olds ++ old ∷ []) (news ++ new ∷ [])
  again_more [] [] old new h one = (one, tt)
  again_more (o ∷ olds) (n ∷ news) old new h one = (h.0, again_more olds news old new h.1 one)
  again_more [] (n ∷ news) old new h one = absurd h
  again_more (o ∷ olds) [] old new h one = absurd h

  pub resetting_begins : (p : List Held) (olds : List FileLayer) → AllByRecursion (IsInOrder p) olds →
      Covers p (flat_map refs_of olds) →
      AllByRecursion (λ (s : State). count ≤ s.count) (map (state_in p) olds) →
      IsResetting me count ltime 0 p olds p olds
  resetting_begins p olds order covers room = record {
    again = tt;
    following = refl;
    size = refl;
    order = order;
    room = room;
    covers = covers;
    moved = moved-same p (flat_map refs_of olds);
  }

  -- the next layer is as it was, and so are those after it
  pub record Next (k : ℕ) (p : List Held) (olds news : List FileLayer) (x : FileLayer) : Type 0 where
    pub front : drop k olds ≡ x ∷ drop (suc k) olds
    pub old : get_or olds k x ≡ x
    pub following : drop (suc k) news ≡ drop (suc k) olds
    pub order : AllByRecursion (IsInOrder p) (x ∷ drop (suc k) olds)
    pub room : AllByRecursion (λ (s : State). count ≤ s.count) (map (state_in p) (x ∷ drop (suc k) olds))
    pub covers : Covers p (flat_map refs_of (x ∷ drop (suc k) olds))

  module _ (k : ℕ) (start : List Held) (olds : List FileLayer) (p : List Held) (news : List FileLayer) (x : FileLayer)
      (is : IsResetting me count ltime k start olds p news) (within : k < length olds) (read : x ≡ get_or news k x)
    where
      pub next_is : Next k p olds news x
      next_is =
          let size = is.size in
          let new_front : drop k news ≡ get_or news k x ∷ drop (suc k) news = drop-cons news k x (omega arith) in
          let old_front : drop k olds ≡ get_or olds k x ∷ drop (suc k) olds = drop-cons olds k x within in
          let both : ◌≡◌ {A = List FileLayer} (get_or olds k x ∷ drop (suc k) olds) (x ∷ drop (suc k) news) =
          sym old_front ∙ sym is.following ∙ new_front ∙ ap (λ (y : FileLayer). y ∷ drop (suc k) news) (sym read) in
          let same : get_or olds k x ≡ x = cc in
          let rest : drop (suc k) news ≡ drop (suc k) olds = cc in
          let front : drop k olds ≡ x ∷ drop (suc k) olds = old_front ∙
          ap (λ (y : FileLayer). y ∷ drop (suc k) olds) same in record {
            front = front;
            old = same;
            following = rest;
            order = subst (λ (xs : List FileLayer). AllByRecursion (IsInOrder p) xs) front is.order;
            room = subst (λ (xs : List FileLayer).
                AllByRecursion (λ (s : State). count ≤ s.count) (map (state_in p) xs))
                front is.room;
            covers = subst (λ (xs : List FileLayer). Covers p (flat_map refs_of xs)) front is.covers;
          }

      pub reset_one : (q : List Held) (y : FileLayer) → Returned p q (refs_of x) → BeginsAgain me count ltime x y →
          IsResetting me count ltime (suc k) start olds q (set news k y)
      reset_one q y returned again =
          let next = next_is in let size = is.size in
          let stays = each_stays refs_of (IsInOrder p) (IsInOrder q) (state_in p) (state_in q) p (refs_of x)
          (λ s. layer_stays p q (refs_of x) [] s returned.moved) (drop (suc k) olds) next.covers next.order.1 in
          let olds_are : take (suc k) olds ≡ take k olds ++ x ∷ [] =
          take-suc olds k x within ∙ ap (λ (z : FileLayer). take k olds ++ z ∷ []) next.old in
          let news_are : take (suc k) (set news k y) ≡ take k news ++ y ∷ [] = take-suc-set news k y (omega arith) in
          record {
            again = subst (λ (xs : List FileLayer). AreAgain me count ltime xs (take (suc k) (set news k y)))
                (sym olds_are)
                (subst (λ (ys : List FileLayer). AreAgain me count ltime (take k olds ++ x ∷ []) ys) (sym news_are)
                (again_more (take k olds) (take k news) x y is.again again));
            following = drop-set-lt (suc k) news k y (omega arith) ∙ next.following;
            size = length-set news k y ∙ is.size;
            order = stays.0;
            room = subst (λ (states : List State). AllByRecursion (λ (s : State). count ≤ s.count) states) (sym stays.1)
                next.room.1;
            covers = record {
              covers = λ i. let there = next.covers.covers i in let counts = returned.moved.counts i in
                  omega (arith, times-append i (refs_of x) (flat_map refs_of (drop (suc k) olds)));
            };
            moved = moved-chain start p q (flat_map refs_of olds) (refs_of x ++ flat_map refs_of (drop (suc k) olds))
                (flat_map refs_of (drop (suc
                k) olds))
                (subst (λ (xs : List FileLayer). Moved start p (flat_map refs_of olds) (flat_map refs_of xs)) next.front
                is.moved)
                (moved-beside p q (refs_of x) [] (flat_map refs_of (drop (suc k) olds)) returned.moved);
          }

  places_again : (olds news : List FileLayer) → AreAgain me count ltime olds news →
      map place_of news ≡ map place_of olds
  places_again [] [] h = refl
  places_again (o ∷ olds) (n ∷ news) h = λ i. h.0.place i ∷ places_again olds news h.1 i
  places_again [] (n ∷ news) h = absurd h
  places_again (o ∷ olds) [] h = absurd h

  trees_again : (olds news : List FileLayer) → AreAgain me count ltime olds news → map tree_of news ≡ map tree_of olds
  trees_again [] [] h = refl
  trees_again (o ∷ olds) (n ∷ news) h = λ i. h.0.tree i ∷ trees_again olds news h.1 i
  trees_again [] (n ∷ news) h = absurd h
  trees_again (o ∷ olds) [] h = absurd h

  order_again : (r : List Held) (olds news : List FileLayer) → AreAgain me count ltime olds news →
      AllByRecursion (IsInOrder r) news
  order_again r [] [] h = tt
  order_again r (o ∷ olds) (n ∷ news) h = (h.0.order r, order_again r olds news h.1)
  order_again r [] (n ∷ news) h = absurd h
  order_again r (o ∷ olds) [] h = absurd h

  refs_again : (olds news : List FileLayer) → AreAgain me count ltime olds news → flat_map refs_of news ≡ []
  refs_again [] [] h = refl
  refs_again (o ∷ olds) (n ∷ news) h = λ i. h.0.refs i ++ refs_again olds news h.1 i
  refs_again [] (n ∷ news) h = absurd h
  refs_again (o ∷ olds) [] h = absurd h

  taken_again : (olds news : List FileLayer) → AreAgain me count ltime olds news → map taken_by news ≡ map taken_by olds
  taken_again [] [] h = refl
  taken_again (o ∷ olds) (n ∷ news) h = λ i. h.0.taken i ∷ taken_again olds news h.1 i
  taken_again [] (n ∷ news) h = absurd h
  taken_again (o ∷ olds) [] h = absurd h

  states_again : (r : List Held) (olds news : List FileLayer) → AreAgain me count ltime olds news →
      map (state_in r) news ≡ map (λ (layer : LayerTree). fresh layer me count ltime) (map tree_of olds)
  states_again r [] [] h = refl
  states_again r (o ∷ olds) (n ∷ news) h = λ i. h.0.state r i ∷ states_again r olds news h.1 i
  states_again r [] (n ∷ news) h = absurd h
  states_again r (o ∷ olds) [] h = absurd h

  pub reset_all : (start : List Held) (olds : List FileLayer) (p : List Held) (news : List FileLayer) (k : ℕ) →
      length olds ≤ k →
      IsResetting me count ltime k start olds p news → Anew me count ltime start p olds news
  reset_all start olds p news k past is =
      let size = is.size in
      let again : AreAgain me count ltime olds news =
      subst (λ (xs : List FileLayer). AreAgain me count ltime xs news) (take_all k olds past)
      (subst (λ (ys : List FileLayer). AreAgain me count ltime (take k olds) ys) (take_all k news (omega arith))
      is.again) in record {
        places = places_again olds news again;
        trees = trees_again olds news again;
        order = λ r. order_again r olds news again;
        refs = refs_again olds news again;
        states = λ r. states_again r olds news again;
        taken = taken_again olds news again;
        moved = subst (λ (xs : List FileLayer). Moved start p (flat_map refs_of olds) (flat_map refs_of xs))
            (drop_all k olds past) is.moved;
      }

-- Layers are made one by one, and end one by one.
use Rattle.std.proofs.Common.{◌≡◌, ◌∙◌, ℕ, zero, suc, Some, replicate, ◌+◌, ◌<◌, ◌≤◌, List, [], ◌∷◌, ◌++◌, map, take}
use Rattle.std.proofs.Common.{length, flat_map, sym, ap, subst, arith, length-append}
use Rattle.std.specs.Prelude.{slice_index_or}
use Rattle.std.specs.List.{AllByRecursion, range_with_len}
use Rattle.std.proofs.lemmas.Grind.{flat_map-append}
use Rattle.std.proofs.lemmas.List.{length-take-le, length-replicate, map-append}
use Rattle.std.proofs.Math.Seq.{take-suc}
use Rattle.slot_pool.specs.Held.{Held, unused}
use Rattle.slot_pool.specs.References.{Exact, Covers}
use Rattle.slot_pool.specs.Times.{times}
use Rattle.slot_pool.proofs.References.{exact-fresh}
use Rattle.msg_core.specs.View.{member_count, rank}
use Rattle.msg_core.specs.declared.packet.View.{View}
use Rattle.run_mean.specs.Member.{inside}
use Rattle.stack_mean.specs.Acceptance.{rows_of, most_rows}
use Rattle.pool_laws.specs.Room.{slots_beyond}
use Rattle.slot_pool.proofs.Times.{times-append}
use Rattle.layer_mean.specs.Tree.{LayerTree, no_layer}
use Rattle.layer_mean.specs.Visit.{fresh}
use Rattle.pool_message.specs.Moves.{Returned}
use Rattle.pool_message.proofs.Lists.{each_stays}
use Rattle.chain_laws.proofs.Lists.{each_append}
use Rattle.live_layer.specs.Layer.{place_of, tree_of, refs_of, IsInOrder, state_in, IsBegun}
use Rattle.live_layer.specs.Staged.{layer_stays}
use Rattle.live_layer.specs.declared.layer.FileLayer.{FileLayer}
use Rattle.live_layer.specs.Making.{Making}
use Rattle.group_member.specs.Making.{AreFresh, AllMade, IsOpening}
use Rattle.group_member.specs.Working.{states_in, refs_in, IsQuiet}
use Rattle.group_member.specs.declared.works.Works.{Works}
use Rattle.group_member.proofs.Viewing.{opened_is, fresh_own}

-- one more

flat_append : {A : Type 0} (f : A → List ℕ) (xs : List A) (y : A) → flat_map f xs ≡ [] → f y ≡ [] →
    flat_map f (xs ++ y ∷ []) ≡ []
flat_append f xs y none one = flat_map-append f xs (y ∷ []) ∙ (λ i. none i ++ (one i ++ []))

range_more : (from n : ℕ) → range_with_len from (suc n) ≡ range_with_len from n ++ (from + n) ∷ []
range_more from zero = let same : from ≡ from + 0 = omega arith in ap (λ (n : ℕ). n ∷ []) same
range_more from (suc n) =
    let same : (from + 1) + n ≡ from + suc n = omega arith in
    ap (λ (xs : List ℕ). from ∷ xs)
    (range_more (from + 1) n ∙ ap (λ (m : ℕ). range_with_len (from + 1) n ++ m ∷ []) same)

module _ (me count ltime : ℕ) where
  pub fresh_more : (trees : List LayerTree) (layers : List FileLayer) (stack : List LayerTree) (s : FileLayer) →
      AreFresh me count ltime trees
      layers →
      IsBegun stack (length trees) me count ltime s →
      AreFresh me count ltime (trees ++ slice_index_or stack (length trees) no_layer ∷ []) (layers ++ s ∷ [])
  fresh_more trees layers stack s are one =
      let last : LayerTree = slice_index_or stack (length trees) no_layer in record {
        places =
            let more : suc (length trees) ≡ length (trees ++ last ∷ []) =
            omega (arith, length-append trees (last ∷ [])) in
            let from : length trees ≡ 0 + length trees = omega arith in
            map-append place_of layers (s ∷ [])
            ∙ (λ i. are.places i ++ one.place i ∷ [])
            ∙ ap (λ (n : ℕ). range_with_len 0 (length trees) ++ n ∷ []) from
            ∙ sym (range_more 0 (length trees))
            ∙ ap (range_with_len 0) more;
        trees_are = map-append tree_of layers (s ∷ []) ∙ (λ i. are.trees_are i ++ one.tree i ∷ []);
        order = λ p. each_append (IsInOrder p) layers (s ∷ []) (are.order p) (one.order p, tt);
        refs = flat_append refs_of layers s are.refs one.refs;
        states = λ p.
            map-append (state_in p) layers (s ∷ [])
            ∙ (λ i. are.states p i ++ one.state p i ∷ [])
            ∙ sym (map-append (λ (layer : LayerTree). fresh layer me count ltime) trees (last ∷ []));
      }

  pub fresh_at : (stack : List LayerTree) (k : ℕ) (layers : List FileLayer) (s : FileLayer) → k < length stack →
      AreFresh me count ltime (take k stack) layers → IsBegun stack k me count ltime s →
      AreFresh me count ltime (take (suc k) stack) (layers ++ s
      ∷ [])
  fresh_at stack k layers s within are one =
      let count_is : length (take k stack) ≡ k = length-take-le k stack (omega arith) in
      let begun : IsBegun stack (length (take k stack)) me count ltime s =
      subst (λ (n : ℕ). IsBegun stack n me count ltime s) (sym count_is) one in
      subst (λ (trees : List LayerTree). AreFresh me count ltime trees (layers ++ s ∷ []))
      (ap (λ (n : ℕ). take k stack ++ slice_index_or stack n no_layer ∷ []) count_is ∙
      sym (take-suc stack k no_layer within))
      (fresh_more (take k stack) layers stack s are begun)

-- the last one ends

each_last : (P : FileLayer → Type 0) (xs : List FileLayer) (s : FileLayer) → AllByRecursion P (xs ++ s ∷ []) →
    AllByRecursion P xs × P s
each_last P [] s h = (tt, h.0)
each_last P (x ∷ xs) s h = let rest = each_last P xs s h.1 in ((h.0, rest.0), rest.1)

pub record Last (p : List Held) (s : FileLayer) : Type 0 where
  pub order : IsInOrder p s
  pub covers : Covers p (refs_of s)

pub record Left (p : List Held) (layers : List FileLayer) : Type 0 where
  pub order : AllByRecursion (IsInOrder p) layers
  pub covers : Covers p (flat_map refs_of layers)

pub last_is : (p : List Held) (layers xs : List FileLayer) (s : FileLayer) → layers ≡ xs ++ s ∷ [] → Left p layers →
    Last p s
last_is p layers xs s is left =
    let order = each_last (IsInOrder p) xs s
    (subst (λ (ys : List FileLayer). AllByRecursion (IsInOrder p) ys) is left.order) in
    let all : flat_map refs_of layers ≡ flat_map refs_of xs ++ (refs_of s ++ []) = ap (flat_map refs_of) is ∙
    flat_map-append refs_of xs (s ∷ [])
    in record {
      order = order.1;
      covers = record {
        covers = λ i. let there = left.covers.covers i in
            omega (
              arith,
              ap (times i) all,
              times-append i (flat_map refs_of xs) (refs_of s ++ []),
              times-append i (refs_of s) [],
            );
      };
    }

pub left_after : (p q : List Held) (layers xs : List FileLayer) (s : FileLayer) → layers ≡ xs ++ s ∷ [] →
    Left p layers → Returned p q (refs_of
    s) → Left q xs
left_after p q layers xs s is left returned =
    let order = each_last (IsInOrder p) xs s
    (subst (λ (ys : List FileLayer). AllByRecursion (IsInOrder p) ys) is left.order) in
    let all : flat_map refs_of layers ≡ flat_map refs_of xs ++ (refs_of s ++ []) = ap (flat_map refs_of) is ∙
    flat_map-append refs_of xs (s ∷ []) in
    let both : Covers p (refs_of s ++ flat_map refs_of xs) = record {
      covers = λ i. let there = left.covers.covers i in
          omega (
            arith,
            ap (times i) all,
            times-append i (flat_map refs_of xs) (refs_of s ++ []),
            times-append i (refs_of s) [],
            times-append i (refs_of s) (flat_map refs_of xs),
          );
    } in
    let stays = each_stays refs_of (IsInOrder p) (IsInOrder q) (state_in p) (state_in q) p (refs_of s)
    (λ x. layer_stays p q (refs_of s) [] x returned.moved) xs both order.0 in record {
      order = stays.0;
      covers = record {
        covers = λ i. let there = both.covers i in let counts = returned.moved.counts i in
            omega (arith, times-append i (refs_of s) (flat_map refs_of xs));
      };
    }

-- a member opens in its first view, over a pool without a body

pub opening : (stack : List LayerTree) (view : View) (id me count rows : ℕ) (old new : Making) (w : Works) →
    rank view id ≡ Some me → count ≡
    member_count view →
    rows ≡ rows_of stack (member_count view) → rows ≤ most_rows → old.stack ≡ stack →
    w.pool ≡ replicate (rows + slots_beyond) unused →
    AllMade me count view.ltime old new w.layers.items → IsQuiet stack w → IsOpening stack view id old new w
opening stack view id me count rows old new w at same rows_are few stack_is pool all quiet =
    let fresh_is : AreFresh me (member_count view) view.ltime stack w.layers.items =
    subst (λ (n : ℕ). AreFresh me n view.ltime stack w.layers.items) same
    (subst (λ (trees : List LayerTree). AreFresh me count view.ltime trees w.layers.items) stack_is all.fresh_are) in
    let size : length w.pool ≡ rows + slots_beyond = ap (λ (p : List Held). length p) pool ∙
    length-replicate (rows + slots_beyond) unused in
    let states : states_in w ≡ map (λ (layer : LayerTree). fresh layer me (member_count view) view.ltime) stack =
    fresh_is.states w.pool in record {
      ready = record {
        stand = record { places = fresh_is.places; layers = fresh_is.trees_are; ready = fresh_is.order w.pool };
        exact = subst (λ (p : List Held). Exact p (refs_in w)) (sym pool)
            (subst (λ (xs : List ℕ). Exact (replicate (rows + slots_beyond) unused) xs) (sym fresh_is.refs)
            (exact-fresh (rows + slots_beyond)));
        quiet = quiet;
        slots = size ∙ ap (λ (n : ℕ). n + slots_beyond) rows_are;
        few = subst (λ (n : ℕ). n ≤ most_rows) rows_are few;
      };
      member = opened_is stack view id me at ∙ ap (inside view) (sym states);
      members = record {
        few = omega arith;
        own = fresh_own view id me stack (states_in w) at states;
      };
      making = record {
        same = all.making.same;
        made = all.making.made ∙ ap (λ (trees : List LayerTree). old.made + length trees) stack_is;
      };
    }

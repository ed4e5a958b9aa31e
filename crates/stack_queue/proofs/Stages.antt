-- One of the stages of a stack makes a visit.
use Rattle.std.proofs.Common.{◌≡◌, ℕ, ◌+◌, ◌*◌, ◌<◌, ◌≤◌, List, ◌++◌, map, set, get_or, length, flat_map, sym, ap, ◌∙◌}
use Rattle.std.proofs.Common.{arith}
use Rattle.std.specs.List.{AllByRecursion}
use Rattle.std.proofs.lemmas.List.{get_or-map, length-map}
use Rattle.std.proofs.lemmas.List.FromFn.{get_or-range_with_len}
use Rattle.slot_pool.specs.Held.{Held}
use Rattle.slot_pool.specs.References.{Moved, Covers}
use Rattle.slot_pool.specs.Times.{times}
use Rattle.slot_pool.proofs.Times.{times-append}
use Rattle.layer_words.specs.declared.events.Dir.{Dir}
use Rattle.layer_mean.specs.declared.run.Event.{Event}
use Rattle.layer_mean.specs.State.{State}
use Rattle.layer_mean.specs.Tree.{LayerTree, no_layer}
use Rattle.layer_mean.specs.Visit.{step, no_state}
use Rattle.msg_core.specs.Headers.{most_places}
use Rattle.layer_stage.specs.Room.{most_kept}
use Rattle.stack_queue.specs.Stages.{Stand}
use Rattle.stack_queue.proofs.Refs.{all_at, map_set_same, each_at, each_set, each_few, others_stay}

module _ {S : Type 0} (place : S → ℕ) (layer : S → LayerTree) (refs : S → List ℕ) (Ready : List Held → S → Type 0)
    (state : List Held → S → State)
    (frame : (p q : List Held) (a b : List ℕ) (s : S) → Moved p q a b → Covers p (a ++ refs s) → Ready p s →
    Ready q s × (state q s ≡ state p s))
    (few : (p : List Held) (s : S) → Ready p s → length (refs s) ≤ most_kept)
    (stack : List LayerTree) (p : List Held) (stages : List S) (stand : Stand place layer Ready stack p stages) where
  pub as_many : length stages ≡ length stack
  as_many = sym (length-map stages layer) ∙ ap length stand.layers

  pub few_refs : length stack ≤ most_places → length (flat_map refs stages) ≤ most_places * most_kept
  few_refs places = let each = each_few refs (Ready p) most_kept (few p) stages stand.ready in
      omega (arith, places, each, as_many)

  module _ (k : ℕ) (lt : k < length stack) (d : S) where
    within : k < length stages
    within = omega (arith, lt, as_many)

    pub ready_at : Ready p (get_or stages k d)
    ready_at = all_at (Ready p) stages k d within stand.ready

    pub place_at : place (get_or stages k d) ≡ k
    place_at = sym (get_or-map place stages k d 0 within) ∙ ap (λ xs. get_or xs k 0) stand.places
        ∙ get_or-range_with_len 0 (length stack) k 0 lt ∙ omega arith

    pub layer_at_place : layer (get_or stages k d) ≡ get_or stack k no_layer
    layer_at_place = sym (get_or-map layer stages k d no_layer within) ∙ ap (λ xs. get_or xs k no_layer) stand.layers

    pub state_at_place : state p (get_or stages k d) ≡ get_or (map (state p) stages) k no_state
    state_at_place = sym (get_or-map (state p) stages k d no_state within)

    pub visit_is : (dir : Dir) (e : Event) →
        step (place (get_or stages k d)) (layer (get_or stages k d)) (state p (get_or stages k d)) dir e ≡
        step k (get_or stack k no_layer) (get_or (map (state p) stages) k no_state) dir e
    visit_is dir e = λ j. step (place_at j) (layer_at_place j) (state_at_place j) dir e

    refs_within : (i : ℕ) → times i (refs (get_or stages k d)) ≤ times i (flat_map refs stages)
    refs_within i = each_at refs stages k d i within

    -- what it refers to is covered, with what it takes
    module _ (taken more : List ℕ) (covers : Covers p (flat_map refs stages ++ (taken ++ more))) where
      pub covers_at : Covers p (refs (get_or stages k d) ++ taken)
      covers_at = record {
        covers = λ i. omega (
          arith,
          covers.covers i,
          refs_within i,
          times-append i (flat_map refs stages) (taken ++ more),
          times-append i taken more,
          times-append i (refs (get_or stages k d)) taken,
        );
      }

      module _ (q : List Held) (s' : S) (sent : List ℕ)
          (moved : Moved p q (refs (get_or stages k d) ++ taken) (refs s' ++ sent)) where
        same_refs : (i : ℕ) → times i (flat_map refs (set stages k s')) + times i (refs (get_or stages k d)) ≡
            times i (flat_map refs stages) + times i (refs s')
        same_refs i = each_set refs stages k s' d i within

        -- all stages have moved as it did
        pub moved_all : Moved p q (flat_map refs stages ++ taken) (flat_map refs (set stages k s') ++ sent)
        moved_all = record {
          slots = moved.slots;
          counts = λ i. omega (
            arith,
            moved.counts i,
            same_refs i,
            times-append i (refs (get_or stages k d)) taken,
            times-append i (refs s') sent,
            times-append i (flat_map refs stages) taken,
            times-append i (flat_map refs (set stages k s')) sent,
          );
          kept = λ i less. moved.kept i (omega (
            arith,
            less,
            refs_within i,
            times-append i (refs (get_or stages k d)) taken,
            times-append i (flat_map refs stages) taken,
          ));
        }

        others : Ready q s' → AllByRecursion (Ready q) (set stages k s') ×
            (map (state q) (set stages k s') ≡ set (map (state p) stages) k (state q s'))
        others new = others_stay refs (Ready p) (Ready q) (state p) (state q) p (refs (get_or stages k d) ++ taken)
            (λ x beside ready. frame p q (refs (get_or stages k d) ++ taken) (refs s' ++ sent) x moved beside ready)
            stages k s' d within (λ i. omega (
              arith,
              covers.covers i,
              times-append i (refs (get_or stages k d)) taken,
              times-append i (flat_map refs stages) (taken ++ more),
              times-append i taken more,
            )) stand.ready new

        pub stands : Ready q s' → place s' ≡ place (get_or stages k d) → layer s' ≡ layer (get_or stages k d) →
            Stand place layer Ready stack q (set stages k s')
        stands new same_place same_layer = record {
          places = map_set_same place stages k s' d within same_place ∙ stand.places;
          layers = map_set_same layer stages k s' d within same_layer ∙ stand.layers;
          ready = (others new).0;
        }

        pub states_are : Ready q s' → map (state q) (set stages k s') ≡ set (map (state p) stages) k (state q s')
        states_are new = (others new).1

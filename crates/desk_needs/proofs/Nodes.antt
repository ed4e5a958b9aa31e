-- A node has what its visit needs.
use Rattle.std.proofs.Common.{◌≡◌, ℕ, suc, zero, ◌+◌, ◌*◌, ◌≤◌, max, add-one, Bool, true, false, ◌&&◌, if◌then◌else◌}
use Rattle.std.proofs.Common.{List, [], ◌∷◌, length, map, Option, Some, None, refl, sym, ap, ◌∙◌, subst}
use Rattle.std.proofs.Common.{mul-le-mul_left, arith}
use Rattle.std.specs.List.{sum_by, range_with_len}
use Rattle.std.specs.Option.{option_map_or}
use Rattle.std.proofs.lemmas.List.Sums.{sum_by-cons}
use Rattle.layer_words.specs.declared.events.Dir.{Dir}
use Rattle.layer_words.specs.declared.events.Dir.TheVariants.{Up, Down}
use Rattle.layer_mean.specs.Queue.{beyond, layer_at}
use Rattle.layer_mean.specs.Tree.{ContentTree, EmissionTree, HandlerTree, LayerTree}
use Rattle.layer_mean.specs.Visit.{Met, met, handler_for}
use Rattle.stack_mean.specs.Acceptance.{largest, cost_in, weight, own_joins, most_joins}
use Rattle.stack_mean.specs.Emissions.{Repeated, emissions_in, handler_joins}
use Rattle.stack_mean.specs.Graph.{Node, nodes, tags_of, keeps_headers, goes_down, content_tags, emission_tags}
use Rattle.stack_mean.specs.Graph.{emission_arrow, handler_arrows, entered_handler, arrows}
use Rattle.weight_laws.specs.Costs.{after_arrows}
use Rattle.weight_laws.specs.Nodes.{task_node}
use Rattle.weight_laws.proofs.Costs.{follows}
use Rattle.weight_laws.proofs.Visits.{largest_from, popped_is, sends_follow_arrows}
use Rattle.layer_desk.specs.Need.{Layout, visit_need}
use Rattle.layer_desk.proofs.Emissions.{block_places}
use Rattle.desk_needs.specs.Laws.{NodesCoverNeeds}

-- a node weighs at least 1
heavy_in : (steps : ℕ) (stack : List LayerTree) (node : Node) → 1 ≤ cost_in steps stack (λ n. 1) node
heavy_in zero stack node = omega arith
heavy_in (suc steps) stack node = omega arith

heavy : (stack : List LayerTree) (node : Node) → 1 ≤ weight stack node
heavy stack node = heavy_in (length (nodes stack)) stack node

-- there is a tag
abbrev Any : List ℕ → Type 0
Any [] = ⊥
Any (x ∷ xs) = Unit {0}

tags_any : (layer : LayerTree) → Any (tags_of layer)
tags_any layer = subst (λ n. Any (range_with_len 0 n)) (sym (add-one (length layer.headers))) tt

content_any : (stack : List LayerTree) (node : Node) (dir : Dir) (c : ContentTree) → Any (content_tags stack node dir c)
content_any stack node Down c = tt
content_any stack node Up c = go (goes_down node.dir node.kind && keeps_headers c.message) where
  go : (b : Bool) → Any (if b then node.tag ∷ [] else tags_of (layer_at stack (node.at + 1)))
  go true = tt
  go false = tags_any (layer_at stack (node.at + 1))

emission_any : (stack : List LayerTree) (node : Node) (e : EmissionTree) (c : Option ContentTree) →
    Any (emission_tags stack node e c)
emission_any stack node e None = tt
emission_any stack node e (Some c) = content_any stack node e.direction c

module _ (f : Node → ℕ) (worth : (n : Node) → 1 ≤ f n) where
  -- what one of some tags leads to is worth at least 1
  tags_worth : (node : ℕ → Node) (tags : List ℕ) → Any tags → 1 ≤ largest (map f (map node tags))
  tags_worth node [] any = absurd any
  tags_worth node (t ∷ ts) any =
      let first = worth (node t) in let rest = largest_from (max 0 (f (node t))) (map f (map node ts)) in
      omega (arith, first, rest)

  -- what emissions lead to is worth at least their number
  emissions_worth : (stack : List LayerTree) (node : Node) (rs : List Repeated) →
      sum_by (λ (r : Repeated). r.times) rs ≤ after_arrows f (map (emission_arrow stack node) rs)
  emissions_worth stack node [] = omega arith
  emissions_worth stack node (r ∷ rs) =
      let arrow = emission_arrow stack node r in
      let one = mul-le-mul_left r.times
      (tags_worth (λ tag. record {
        at = beyond r.emission.direction node.at;
        dir = r.emission.direction;
        kind =
            r.emission.kind;
        tag = tag;
      }) (emission_tags stack node r.emission r.emission.content)
      (emission_any stack node r.emission r.emission.content)) in
      let rest = emissions_worth stack node rs in
      let here = sum_by-cons (λ (x : Repeated). x.times) r rs in
      let there = sum_by-cons (λ a. a.times * largest (map f a.targets)) arrow (map (emission_arrow stack node) rs) in
      omega (arith, one, rest, here, there)

  places_worth : (stack : List LayerTree) (layout : Layout) (node : Node) (o : Option HandlerTree) (m : Met) →
      (visit_need layout o m).places ≤ 1 + after_arrows f (handler_arrows stack node o)
  places_worth stack layout node None m = omega arith
  places_worth stack layout node (Some h) m =
      let all = block_places 1 h.block in let worth_all = emissions_worth stack node (emissions_in 1 h.block) in
      omega (arith, all, worth_all)

slots_own : (layout : Layout) (o : Option HandlerTree) (m : Met) → (visit_need layout o m).slots ≡
    option_map_or handler_joins o 0
slots_own layout None m = refl
slots_own layout (Some h) m = refl

pub nodes_cover_needs : NodesCoverNeeds
nodes_cover_needs stack layout s t off visit =
    let node = task_node t in
    let m = met t.dir t.event.message in
    let handler = handler_for (layer_at stack t.at) t.dir t.event.kind m.tag in
    let same : handler ≡ entered_handler stack node = ap (handler_for (layer_at stack t.at) t.dir t.event.kind)
    (popped_is t.at t.dir t.event) in
    let here : arrows stack node ≡ handler_arrows stack node (entered_handler stack node) =
    ap (λ b. if b then handler_arrows stack node (entered_handler stack node) else []) visit.place in
    let own : own_joins stack node ≡ option_map_or handler_joins (entered_handler stack node) 0 =
    ap (λ b. if b then option_map_or handler_joins (entered_handler stack node) 0 else 0) visit.place in
    let slots = slots_own layout handler m ∙ ap (λ o. option_map_or handler_joins o 0) same ∙ sym own in
    let places = places_worth (weight stack) (heavy stack) stack layout node handler m in
    let through = ap (λ o. after_arrows (weight stack) (handler_arrows stack node o)) same ∙
    ap (after_arrows (weight stack)) (sym here) in
    record {
      slots = omega (
        arith,
        slots,
        follows stack visit.orderly off (own_joins stack) node visit.known,
        sends_follow_arrows stack s t (most_joins stack) visit,
      );
      places = omega (arith, places, through, follows stack visit.orderly off (λ n. 1) node visit.known);
    }

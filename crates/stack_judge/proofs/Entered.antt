-- What follows from a node that enters a handler.
use Rattle.std.proofs.Common.{◌≡◌, ℕ, true, List, [], map, Some, length, sym, ap, ◌∙◌}
use Rattle.std.specs.Prelude.{if◌then◌else◌}
use Rattle.std.specs.List.{find}
use Rattle.std.specs.Option.{option_map_or}
use Rattle.std.proofs.lemmas.Simd.{map-map}
use Rattle.layer_mean.specs.Tree.{LayerTree, HandlerTree}
use Rattle.layer_mean.specs.Visit.{is_for}
use Rattle.layer_mean.specs.Queue.{is_place, layer_at}
use Rattle.stack_mean.specs.Emissions.{handler_joins, emissions_in}
use Rattle.stack_mean.specs.Graph.{Node, popped_tag, entered_handler, handler_arrows, emission_arrow}
use Rattle.stack_mean.specs.Acceptance.{held_at_most}
use Rattle.weight_laws.specs.Tables.{Edge, edge_of, vertex_of}
use Rattle.stack_judge.specs.Edges.{emission_edge}

pub entered : (stack : List LayerTree) (n : Node) (layer : LayerTree) (h : HandlerTree) (joins : ℕ)
    (edges : List Edge) →
    is_place (length stack) n.at ≡ true → layer_at stack n.at ≡ layer →
    find (is_for n.dir n.kind (popped_tag n n.dir)) layer.handlers ≡ Some h → joins ≡ held_at_most (handler_joins h) →
    edges ≡ map (emission_edge stack n) (emissions_in 1 h.block) → record { joins = joins; edges = edges } ≡
    vertex_of stack n
entered stack n layer h joins edges place at_is found joins_are edges_are =
    let handler : entered_handler stack n ≡ Some h =
    ap (λ (l : LayerTree). find (is_for n.dir n.kind (popped_tag n n.dir)) l.handlers) at_is ∙ found in
    let own = ap (λ b. if b then option_map_or handler_joins (entered_handler stack n) 0 else 0) place
    ∙ ap (λ o. option_map_or handler_joins o 0) handler in
    let out = ap (λ b. if b then handler_arrows stack n (entered_handler stack n) else []) place ∙
    ap (handler_arrows stack n) handler in
    let all = edges_are ∙ sym (ap (map edge_of) out ∙ map-map edge_of (emission_arrow stack n) (emissions_in 1 h.block))
    in
    λ i. record { joins = (joins_are ∙ sym (ap held_at_most own)) i; edges = all i }

-- Costs in rounds over a table are those of the definition, held.
use Rattle.std.proofs.Common.{◌≡◌, ℕ, zero, suc, ◌+◌, ◌*◌, ◌<◌, ◌≤◌, min, Bool, true, false, nat_lt, List, [], ◌∷◌, map}
use Rattle.std.proofs.Common.{fold, flat_map, length, slice_index, refl, sym, ap, ◌∙◌, ◌⊎◌, inl, inr, ⊎_elim, arith}
use Rattle.std.proofs.Common.{ltb-true, ltb-false, lt-ltb, le-ltb}
use Rattle.std.proofs.lemmas.List.{get_or-map}
use Rattle.std.proofs.lemmas.List.Sums.{sum_by-cons}
use Rattle.layer_words.specs.declared.events.Dir.{Dir}
use Rattle.layer_words.specs.declared.events.Dir.TheVariants.{Up, Down}
use Rattle.layer_words.specs.declared.events.Kind.{Kind}
use Rattle.layer_words.specs.declared.events.Kind.TheVariants.{Cast, Send, Timer, Leave}
use Rattle.layer_mean.specs.Tree.{LayerTree}
use Rattle.stack_mean.specs.Graph.{Node, Arrow, tags_for, header_layer, nodes_of, arrows, nodes}
use Rattle.stack_mean.specs.Acceptance.{largest, cost_in, own_joins, entries, held_at_most}
use Rattle.weight_laws.specs.Nodes.{IsNode}
use Rattle.weight_laws.specs.Orderly.{IsOrderly}
use Rattle.weight_laws.specs.Costs.{after_arrows}
use Rattle.weight_laws.specs.Tables.{node_number, Vertex, no_vertex, edge_of, vertex_of, IsTable}
use Rattle.weight_laws.specs.Rounds.{with_edge, vertex_cost, round, rounds, one_task, joins_of_vertex, RoundsAreCosts}
use Rattle.weight_laws.specs.Rounds.{largest_entry, LargestInRounds, HeldIsJudged, RoundsSettle}
use Rattle.weight_laws.proofs.Members.{In, in_either, in_left, in_right, from_map}
use Rattle.weight_laws.proofs.Nodes.{in_had, next_node}
use Rattle.weight_laws.proofs.Runs.{messages_below, from_below, through_casts, through_sends}
use Rattle.weight_laws.proofs.Held.{one_more, largest_held}

-- the targets' costs as the table has them
same_costs : (costs : List ℕ) (f : Node → ℕ) (ts : List Node) →
    ((t : Node) → In t ts → slice_index costs (node_number t) ≡ held_at_most (f t)) →
    map (slice_index costs) (map node_number ts) ≡ map (λ t. held_at_most (f t)) ts
same_costs costs f [] h = refl
same_costs costs f (t ∷ ts) h = λ i. h t (inl refl) i ∷ same_costs costs f ts (λ x m. h x (inr m)) i

pub edges_cost : (costs : List ℕ) (f : Node → ℕ) (x : ℕ) (arrs : List Arrow) →
    ((t : Node) → In t (flat_map (λ arrow. arrow.targets) arrs) → slice_index costs (node_number t) ≡
    held_at_most (f t)) →
    fold (with_edge costs) (held_at_most x) (map edge_of arrs) ≡ held_at_most (x + after_arrows f arrs)
edges_cost costs f x [] h = ap held_at_most (omega arith)
edges_cost costs f x (a ∷ arrs) h =
    ap (λ sum. fold (with_edge costs) sum (map edge_of arrs)) here
    ∙ edges_cost costs f (x + a.times * largest (map f a.targets)) arrs (λ t m. h t (in_right t a.targets _ m))
    ∙ ap held_at_most (omega (arith, sum_by-cons (λ arrow. arrow.times * largest (map f arrow.targets)) a arrs)) where
      here : held_at_most (held_at_most x + held_at_most a.times * largest
          (map (slice_index costs) (map node_number a.targets)))
          ≡ held_at_most (x + a.times * largest (map f a.targets))
      here =
          ap (λ ns. held_at_most (held_at_most x + held_at_most a.times * largest ns))
          (same_costs costs f a.targets (λ t m. h t (in_left t a.targets _ m)))
          ∙ ap (λ l. held_at_most (held_at_most x + held_at_most a.times * l)) (largest_held 4294967295 f a.targets)
          ∙ one_more 4294967295 x a.times (largest (map f a.targets))

pub rounds_are_costs : RoundsAreCosts
rounds_are_costs stack vertices own own_cost zero n orderly table owns is =
    get_or-map own vertices (node_number n) no_vertex 0 (table.covers n is) ∙ ap own (table.tells n is) ∙ owns n
rounds_are_costs stack vertices own own_cost (suc k) n orderly table owns is =
    get_or-map (vertex_cost own (rounds own vertices k)) vertices (node_number n) no_vertex 0 (table.covers n is)
    ∙ ap (vertex_cost own (rounds own vertices k)) (table.tells n is)
    ∙ ap (λ x. fold (with_edge (rounds own vertices k)) x (map edge_of (arrows stack n))) (owns n)
    ∙ edges_cost (rounds own vertices k) (cost_in k stack own_cost) (own_cost n) (arrows stack n)
    (λ t m. rounds_are_costs stack vertices own own_cost k t orderly table owns (next_node stack orderly n t is m))

-- the entries of a stack are nodes of it
pub one_kind : (stack : List LayerTree) (at : ℕ) (dir : Dir) (kind : Kind) (n : Node) → at ≤ length stack + 1 →
    In n (nodes_of stack at dir kind) →
    IsNode stack n
one_kind stack at dir kind n low m =
    from_map (λ tag. record { at = at; dir = dir; kind = kind; tag = tag }) n
    (tags_for kind (header_layer stack dir at))
    (λ tag k same. rw same record { at = low; tag = in_had kind (header_layer stack dir at) tag k }) m

pub entry_is_node : (stack : List LayerTree) (n : Node) → In n (entries stack) → IsNode stack n
entry_is_node stack n m =
    ⊎_elim (λ through_send.
    ⊎_elim (λ through_cast.
    ⊎_elim (λ below.
    ⊎_elim (λ message.
    ⊎_elim (one_kind stack 1 Up Cast n low) (one_kind stack 1 Up Send n low)
    (in_either n (nodes_of stack 1 Up Cast) (nodes_of stack 1 Up Send) message))
    (one_kind stack 1 Up Timer n low)
    (in_either n (messages_below stack) (nodes_of stack 1 Up Timer) below))
    (one_kind stack (length stack) Down Cast n high)
    (in_either n (from_below stack) (nodes_of stack (length stack) Down Cast) through_cast))
    (one_kind stack (length stack) Down Send n high)
    (in_either n (through_casts stack) (nodes_of stack (length stack) Down Send) through_send))
    (one_kind stack (length stack) Down Leave n high)
    (in_either n (through_sends stack) (nodes_of stack (length stack) Down Leave) m) where
      low : 1 ≤ length stack + 1
      low = omega arith

      high : length stack ≤ length stack + 1
      high = omega arith

pub same_entries : (costs : List ℕ) (f : Node → ℕ) (ns : List Node) →
    ((n : Node) → In n ns → slice_index costs (node_number n) ≡ held_at_most (f n)) →
    map (λ n. slice_index costs (node_number n)) ns ≡ map (λ n. held_at_most (f n)) ns
same_entries costs f [] h = refl
same_entries costs f (n ∷ ns) h = λ i. h n (inl refl) i ∷ same_entries costs f ns (λ x m. h x (inr m)) i

largest_is : (stack : List LayerTree) (vertices : List Vertex) (own : Vertex → ℕ) (own_cost : Node → ℕ) (k : ℕ) →
    IsOrderly stack →
    IsTable stack vertices → ((m : Node) → own (vertex_of stack m) ≡ held_at_most (own_cost m)) →
    largest_entry stack (rounds own vertices k) ≡
    held_at_most (largest (map (cost_in k stack own_cost) (entries stack)))
largest_is stack vertices own own_cost k orderly table owns =
    ap largest (same_entries (rounds own vertices k) (cost_in k stack own_cost) (entries stack)
    (λ n m. rounds_are_costs stack vertices own own_cost k n orderly table owns (entry_is_node stack n m)))
    ∙ largest_held 4294967295 (cost_in k stack own_cost) (entries stack)

pub largest_in_rounds : LargestInRounds
largest_in_rounds stack vertices orderly table = (
  largest_is stack vertices one_task (λ n. 1) (length (nodes stack)) orderly table (λ m. refl),
  largest_is stack vertices joins_of_vertex (own_joins stack) (length (nodes stack)) orderly table (λ m. refl),
)

judged : (c limit n : ℕ) → limit < c → nat_lt limit (min n c) ≡ nat_lt limit n
judged c limit n below = go (nat_lt limit n) refl where
  go : (b : Bool) → nat_lt limit n ≡ b → nat_lt limit (min n c) ≡ b
  go true h = lt-ltb limit (min n c) (omega (arith, ltb-true limit n h))
  go false h = le-ltb limit (min n c) (omega (arith, ltb-false limit n h))

pub held_is_judged : HeldIsJudged
held_is_judged limit n below = judged 4294967295 limit n below

at_or_before : (k m : ℕ) → k ≤ suc m → (k ≤ m) ⊎ (k ≡ suc m)
at_or_before k m h = grind arith

pub rounds_settle : RoundsSettle
rounds_settle own vertices k zero le settled = let same : 0 ≡ k = omega arith in ap (rounds own vertices) same
rounds_settle own vertices k (suc m) le settled =
    ⊎_elim (λ before. ap (round own vertices) (rounds_settle own vertices k m before settled) ∙ settled)
    (λ now. ap (rounds own vertices) (sym now)) (at_or_before k m le)

-- Costs that a round doesn't change: where they fall along each arrow there is no cycle, and where there is none they
-- are the costs.
use Rattle.std.proofs.Common.{◌≡◌, ℕ, zero, suc, ◌+◌, ◌*◌, ◌<◌, ◌≤◌, Bool, true, false, List, [], ◌∷◌, map, fold}
use Rattle.std.proofs.Common.{flat_map, length, slice_index, nat_lt, eqb-true, ltb-true, Some, None, refl, sym, ap, ◌∙◌}
use Rattle.std.proofs.Common.{◌⊎◌, inl, inr, mul-le-mul_right, arith}
use Rattle.std.specs.Prelude.{if◌then◌else◌}
use Rattle.std.specs.List.{find, list_all}
use Rattle.std.proofs.lemmas.Bool.{and_parts}
use Rattle.std.proofs.lemmas.List.Sums.{sum_by-cons}
use Rattle.layer_mean.specs.Tree.{LayerTree}
use Rattle.stack_mean.specs.Graph.{Node, same_node, nodes, Arrow, arrows, following, is_on_cycle, first_on_cycle}
use Rattle.stack_mean.specs.Acceptance.{largest, cost, entries, held_at_most, own_joins}
use Rattle.weight_laws.specs.Nodes.{IsNode}
use Rattle.weight_laws.specs.Orderly.{IsOrderly}
use Rattle.weight_laws.specs.Costs.{after_arrows}
use Rattle.weight_laws.specs.Tables.{HasFewHeaders, node_number, Vertex, vertex_at, edge_of, vertex_of, table_of}
use Rattle.weight_laws.specs.Rounds.{with_edge, vertex_cost, one_task, joins_of_vertex, largest_entry}
use Rattle.weight_laws.proofs.Members.{In, in_either, in_map}
use Rattle.weight_laws.proofs.Reach.{reachable, rank, rank_falls, reached_has, tells, unknown_sub, unknown_by}
use Rattle.weight_laws.proofs.Nodes.{listed, next_node}
use Rattle.weight_laws.proofs.Costs.{sound, itself, cycle_is, cycle_free, follows}
use Rattle.weight_laws.proofs.Visits.{at_most_largest}
use Rattle.weight_laws.proofs.Held.{largest_held}
use Rattle.weight_laws.proofs.Rounds.{edges_cost, same_entries, entry_is_node}
use Rattle.weight_laws.proofs.Built.{nodes_are, tables_tell}
use Rattle.stack_judge.specs.Steady.{is_steady_at, falls_at, is_often}
use Rattle.stack_judge.specs.Measures.{own_of}
use Rattle.stack_judge.specs.Judged.{largest_of}
use Rattle.stack_judge.specs.declared.rounds.Measure.{Measure}
use Rattle.stack_judge.specs.declared.rounds.Measure.TheVariants.{Tasks, Joins}

none_passes : {A : Type 0} (p : A → Bool) (xs : List A) → ((x : A) → In x xs → p x ≡ false) → find p xs ≡ None
none_passes p [] h = refl
none_passes p (x ∷ xs) h = ap (λ b. if b then Some x else find p xs) (h x (inl refl)) ∙
    none_passes p xs (λ y m. h y (inr m))

-- a target's number is in the sum, where its arrow stands for one at least
weighed : (f : Node → ℕ) (arrs : List Arrow) (t : Node) → ((a : Arrow) → In a arrs → 1 ≤ a.times) →
    In t (flat_map (λ arrow. arrow.targets) arrs) → f t ≤ after_arrows f arrs
weighed f [] t often m = absurd m
weighed f (a ∷ arrs) t often m =
    go (weighed f arrs t (λ b n. often b (inr n))) (in_either t a.targets (flat_map (λ arrow. arrow.targets) arrs) m)
  where
    parts : after_arrows f (a ∷ arrs) ≡ a.times * largest (map f a.targets) + after_arrows f arrs
    parts = sum_by-cons (λ arrow. arrow.times * largest (map f arrow.targets)) a arrs

    go : (In t (flat_map (λ arrow. arrow.targets) arrs) → f t ≤ after_arrows f arrs) →
        In t a.targets ⊎ In t (flat_map (λ arrow. arrow.targets) arrs) → f t ≤ after_arrows f (a ∷ arrs)
    go later (inl k) = omega (
      arith,
      parts,
      at_most_largest (f t) (map f a.targets) (in_map f t a.targets k),
      mul-le-mul_right (largest (map f a.targets)) (often a (inl refl)),
    )
    go later (inr k) = omega (arith, parts, later k)

module _ (stack : List LayerTree) (orderly : IsOrderly stack) (costs : List ℕ) where
  module _ (steady : (n : Node) → IsNode stack n → slice_index costs (node_number n) ≡
      vertex_cost one_task costs (vertex_of stack n))
      (low : (n : Node) → IsNode stack n → slice_index costs (node_number n) < 4294967295)
      (often : (n : Node) → IsNode stack n → (a : Arrow) → In a (arrows stack n) → 1 ≤ a.times) where
    falls : (n t : Node) → IsNode stack n → In t (following stack n) →
        slice_index costs (node_number t) < slice_index costs (node_number n)
    falls n t is m =
        let f : Node → ℕ = λ x. slice_index costs (node_number x) in
        let sum = steady n is ∙
        edges_cost costs f 1 (arrows stack n) (λ x k. let under = low x (next_node stack orderly n x is k) in
        omega (arith, under)) in
        omega (arith, sum, low n is, weighed f (arrows stack n) t (often n is) m)

    off_cycle : (n : Node) → IsNode stack n → is_on_cycle stack n ≡ false
    off_cycle n is = go (is_on_cycle stack n) refl where
      below : (x : Node) → In x (following stack n) →
          IsNode stack x × (slice_index costs (node_number x) < slice_index costs (node_number n))
      below x m = (next_node stack orderly n x is m, falls n x is m)

      go : (b : Bool) → is_on_cycle stack n ≡ b → is_on_cycle stack n ≡ false
      go false e = e
      go true e =
          let there = tells same_node sound itself (following stack) n
          (reachable same_node (following stack) (nodes stack) n) (sym (cycle_is stack n) ∙ e) in
          let less = reached_has same_node sound itself (following stack)
          (λ (x : Node). IsNode stack x × (slice_index costs (node_number x) < slice_index costs (node_number n)))
          (λ x y h k. (next_node stack orderly x y h.0 k, omega (arith, h.1, falls x y h.0 k)))
          (length (nodes stack)) [] (unknown_by same_node [] (following stack n)) (λ x k. absurd k)
          (λ x k. below x (unknown_sub same_node sound itself (following stack) x [] (following stack n) k)) n there in
          absurd (omega (arith, less.1))

    pub no_cycle : first_on_cycle stack ≡ None
    no_cycle = none_passes (is_on_cycle stack) (nodes stack) (λ n m. off_cycle n (nodes_are stack n m))

  module _ (own : Vertex → ℕ) (own_cost : Node → ℕ)
      (owns : (m : Node) → own (vertex_of stack m) ≡ held_at_most (own_cost m))
      (steady : (n : Node) → IsNode stack n → slice_index costs (node_number n) ≡
      vertex_cost own costs (vertex_of stack n))
      (off : first_on_cycle stack ≡ None) where
    told_by : (k : ℕ) (n : Node) → IsNode stack n → rank same_node (following stack) (nodes stack) n < k →
        slice_index costs (node_number n) ≡ held_at_most (cost stack own_cost n)
    told_by zero n is less = absurd (omega arith)
    told_by (suc k) n is less =
        steady n is
        ∙ ap (λ x. fold (with_edge costs) x (map edge_of (arrows stack n))) (owns n)
        ∙ edges_cost costs (cost stack own_cost) (own_cost n) (arrows stack n)
        (λ t m.
        let next = next_node stack orderly n t is m in
        let falls = rank_falls same_node sound itself (following stack) (nodes stack) (IsNode stack) (listed stack)
        (next_node stack orderly) n t is m (cycle_free stack orderly off t next) in
        told_by k t next (omega arith))
        ∙ ap held_at_most (sym (follows stack orderly off own_cost n is))

    pub largest_told : largest_entry stack costs ≡ held_at_most (largest (map (cost stack own_cost) (entries stack)))
    largest_told =
        ap largest (same_entries costs (cost stack own_cost) (entries stack)
        (λ n m. told_by (suc (rank same_node (following stack) (nodes stack) n)) n (entry_is_node stack n m)
        (omega arith)))
        ∙ largest_held 4294967295 (cost stack own_cost) (entries stack)

all_tell : {A : Type 0} (p : A → Bool) (xs : List A) → list_all p xs ≡ true → (x : A) → In x xs → p x ≡ true
all_tell p [] h x m = absurd m
all_tell p (y ∷ ys) h x (inl e) = ap p e ∙ (and_parts (p y) (list_all p ys) h).0
all_tell p (y ∷ ys) h x (inr m) = all_tell p ys (and_parts (p y) (list_all p ys) h).1 x m

module _ (stack : List LayerTree) (orderly : IsOrderly stack) (few : HasFewHeaders stack) (costs : List ℕ) where
  steady_told : (own : Vertex → ℕ) → list_all (is_steady_at own (table_of stack) costs) (nodes stack) ≡ true →
      (n : Node) → IsNode stack n →
      slice_index costs (node_number n) ≡ vertex_cost own costs (vertex_of stack n)
  steady_told own h n is =
      eqb-true _ _ (all_tell (is_steady_at own (table_of stack) costs) (nodes stack) h n (listed stack n is))
      ∙ ap (vertex_cost own costs) ((tables_tell stack few).tells n is)

  fallen : list_all (falls_at (table_of stack) costs) (nodes stack) ≡ true → (n : Node) → IsNode stack n →
      (nat_lt (slice_index costs (node_number n)) 4294967295 ≡ true) ×
      (list_all is_often (vertex_of stack n).edges ≡ true)
  fallen h n is =
      let parts = and_parts (nat_lt (slice_index costs (node_number n)) 4294967295)
      (list_all is_often (vertex_at (table_of stack) (node_number n)).edges)
      (all_tell (falls_at (table_of stack) costs) (nodes stack) h n (listed stack n is)) in
      (parts.0, sym (ap (λ (v : Vertex). list_all is_often v.edges) ((tables_tell stack few).tells n is)) ∙ parts.1)

  pub free_told : list_all (is_steady_at one_task (table_of stack) costs) (nodes stack) ≡ true →
      list_all (falls_at (table_of stack) costs) (nodes stack) ≡ true → first_on_cycle stack ≡ None
  free_told steady h =
      no_cycle stack orderly costs (steady_told one_task steady)
      (λ n is. ltb-true (slice_index costs (node_number n)) 4294967295 (fallen h n is).0)
      (λ n is a m.
      let some = ltb-true 0 (held_at_most a.times)
      (all_tell is_often (map edge_of (arrows stack n)) (fallen h n is).1 (edge_of a)
      (in_map edge_of a (arrows stack n) m)) in
      omega (arith, some))

  pub settled_told : (measure : Measure) → first_on_cycle stack ≡ None →
      list_all (is_steady_at (own_of measure) (table_of stack) costs) (nodes stack) ≡ true →
      largest_entry stack costs ≡ held_at_most (largest_of measure stack)
  settled_told Tasks off steady = largest_told stack orderly costs one_task (λ n. 1) (λ m. refl)
      (steady_told one_task steady) off
  settled_told Joins off steady =
      largest_told stack orderly costs joins_of_vertex (own_joins stack) (λ m. refl)
      (steady_told joins_of_vertex steady) off

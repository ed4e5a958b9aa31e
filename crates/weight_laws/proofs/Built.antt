-- A table that is made node by node has the vertex of each node.
use Rattle.std.proofs.Common.{◌≡◌, ◌+◌, ◌<◌, ◌≤◌, Bool, true, false, List, [], ◌∷◌, fold, length, refl, sym, ap, ◌∙◌}
use Rattle.std.proofs.Common.{◌⊎◌, inl, inr, ⊎_elim, arith}
use Rattle.std.specs.List.{range_with_len}
use Rattle.std.proofs.lemmas.List.{length-replicate, length-set, get_or-set_same, get_or-set_other}
use Rattle.layer_words.specs.declared.events.Dir.TheVariants.{Up, Down}
use Rattle.layer_words.specs.Spelling.{kinds}
use Rattle.layer_mean.specs.Tree.{LayerTree}
use Rattle.stack_mean.specs.Graph.{Node, same_node, nodes, nodes_of}
use Rattle.weight_laws.specs.Nodes.{IsNode}
use Rattle.weight_laws.specs.Tables.{HasFewHeaders, node_number, numbers_for, Vertex, no_vertex, vertex_of, vertex_at}
use Rattle.weight_laws.specs.Tables.{with_node, empty_table, table_of, TablesTell}
use Rattle.weight_laws.proofs.Members.{In, in_either, from_flat_map}
use Rattle.weight_laws.proofs.Nodes.{range_in, at_kind, at_place, listed}
use Rattle.weight_laws.proofs.Costs.{sound, itself}
use Rattle.weight_laws.proofs.Tables.{numbers_fit, numbers_differ}
use Rattle.weight_laws.proofs.Rounds.{one_kind}

-- what is listed is a node of the stack
pub nodes_are : (stack : List LayerTree) (n : Node) → In n (nodes stack) → IsNode stack n
nodes_are stack n m = from_flat_map (at_place stack) n (range_with_len 0 (length stack + 2))
    (λ at placed here.
    let low : at ≤ length stack + 1 = omega (arith, range_in 0 (length stack + 2) at placed) in
    from_flat_map (at_kind stack at) n kinds
    (λ kind named one.
    ⊎_elim (one_kind stack at Up kind.1 n low) (one_kind stack at Down kind.1 n low)
    (in_either n (nodes_of stack at Up kind.1) (nodes_of stack at Down kind.1) one))
    here) m

module _ (stack : List LayerTree) (few : HasFewHeaders stack) where
  size_kept : (xs : List Node) (vertices : List Vertex) → length (fold (with_node stack) vertices xs) ≡ length vertices
  size_kept [] vertices = refl
  size_kept (x ∷ xs) vertices = size_kept xs (with_node stack vertices x) ∙
      length-set vertices (node_number x) (vertex_of stack x)

  put : (vertices : List Vertex) (n : Node) → node_number n < length vertices →
      vertex_at (with_node stack vertices n) (node_number n) ≡ vertex_of stack n
  put vertices n low = get_or-set_same vertices (node_number n) (vertex_of stack n) no_vertex low

  -- it stands there already, or is put there later
  kept : (vertices : List Vertex) (n x : Node) → IsNode stack n → IsNode stack x → node_number n < length vertices →
      vertex_at vertices (node_number n) ≡ vertex_of stack n → vertex_at (with_node stack vertices x) (node_number n) ≡
      vertex_of stack n
  kept vertices n x is_n is_x low there = go (same_node n x) refl where
    go : (b : Bool) → same_node n x ≡ b → vertex_at (with_node stack vertices x) (node_number n) ≡ vertex_of stack n
    go true e = ap (λ y. vertex_at (with_node stack vertices y) (node_number n)) (sym (sound n x e)) ∙
        put vertices n low
    go false e = get_or-set_other vertices (node_number x) (node_number n) (vertex_of stack x) no_vertex
        (λ equal. absurd (cc (ap (same_node n) (numbers_differ stack n x few is_n is_x equal), itself n, e))) ∙ there

  built : (xs : List Node) (vertices : List Vertex) (n : Node) → IsNode stack n →
      ((x : Node) → In x xs → IsNode stack x) →
      node_number n < length vertices → In n xs ⊎ (vertex_at vertices (node_number n) ≡ vertex_of stack n) →
      vertex_at (fold (with_node stack) vertices xs) (node_number n) ≡ vertex_of stack n
  built [] vertices n is are low (inl m) = absurd m
  built [] vertices n is are low (inr there) = there
  built (x ∷ xs) vertices n is are low h =
      built xs (with_node stack vertices x) n is (λ y m. are y (inr m))
      (omega (arith, length-set vertices (node_number x) (vertex_of stack x)))
      (step h) where
        step : In n (x ∷ xs) ⊎ (vertex_at vertices (node_number n) ≡ vertex_of stack n) →
            In n xs ⊎ (vertex_at (with_node stack vertices x) (node_number n) ≡ vertex_of stack n)
        step (inl (inl e)) = inr (ap (λ y. vertex_at (with_node stack vertices y) (node_number n)) (sym e) ∙
            put vertices n low)
        step (inl (inr m)) = inl m
        step (inr there) = inr (kept vertices n x is (are x (inl refl)) low there)

pub tables_tell : TablesTell
tables_tell stack few = record {
  covers = λ n is. omega (arith, numbers_fit stack n few is, size);
  tells = λ n is. built stack few (nodes stack) (empty_table (length stack)) n is (nodes_are stack)
      (omega (arith, numbers_fit stack n few is, length-replicate (numbers_for (length stack)) no_vertex))
      (inl (listed stack n is));
} where
  size : length (table_of stack) ≡ numbers_for (length stack)
  size = size_kept stack few (nodes stack) (empty_table (length stack)) ∙
      length-replicate (numbers_for (length stack)) no_vertex

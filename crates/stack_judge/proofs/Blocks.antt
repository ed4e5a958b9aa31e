-- What stands in blocks, statement by statement, and how often it is done.
use Rattle.std.proofs.Common.{◌≡◌, ℕ, ◌+◌, ◌*◌, ◌<◌, min, length, take, get_or, add-one, take-suc, List, [], ◌∷◌, ◌++◌}
use Rattle.std.proofs.Common.{map, refl, sym, ap, ◌∙◌, append_assoc, append-nil, arith}
use Rattle.std.proofs.lemmas.List.{map-append}
use Rattle.layer_mean.specs.Tree.{LayerTree, StatementTree, bind, assign, assign_square, push, take as take_row, branch}
use Rattle.layer_mean.specs.Tree.{each, emit, StatementTrees, none, more}
use Rattle.stack_mean.specs.Graph as graph
use Rattle.stack_mean.specs.Graph.{emission_arrow}
use Rattle.stack_mean.specs.Emissions.{Repeated, emissions, emissions_in, joins, joins_of}
use Rattle.stack_mean.specs.Acceptance.{held_at_most}
use Rattle.weight_laws.specs.Tables as table
use Rattle.weight_laws.specs.Tables.{node_number}
use Rattle.weight_laws.proofs.Held.{one_more}
use Rattle.typed_layer.specs.View.{trees, statement_tree}
use Rattle.typed_layer.specs.declared.tree.Statement.{Statement}
use Rattle.stack_judge.specs.Edges.{emission_edge}

pub joins_more : (xs : List StatementTree) (x : StatementTree) → joins_of (trees (xs ++ x ∷ [])) ≡
    joins_of (trees xs) + joins x
joins_more [] x = omega arith
joins_more (y ∷ xs) x = omega (arith, joins_more xs x)

pub emissions_more : (times : ℕ) (xs : List StatementTree) (x : StatementTree) →
    emissions_in times (trees (xs ++ x ∷ [])) ≡ emissions_in times (trees xs) ++ emissions times x
emissions_more times [] x = append-nil (emissions times x)
emissions_more times (y ∷ xs) x =
    ap (λ (rest : List Repeated). emissions times y ++ rest) (emissions_more times xs x)
    ∙ sym (append_assoc (emissions times y) (emissions_in times (trees xs)) (emissions times x))

-- the trees of the first of some statements, and of one more
one_more_tree : (xs : List Statement) (i : ℕ) (x : Statement) → i < length xs → x ≡ get_or xs i x →
    map statement_tree (take (i + 1) xs) ≡ map statement_tree (take i xs) ++ statement_tree x ∷ []
one_more_tree xs i x within is =
    ap (λ n. map statement_tree (take n xs)) (add-one i)
    ∙ ap (map statement_tree) (take-suc xs i x within ∙ ap (λ y. take i xs ++ y ∷ []) (sym is))
    ∙ map-append statement_tree (take i xs) (x ∷ [])

pub joins_step : (xs : List Statement) (i : ℕ) (x : Statement) (sum own next : ℕ) → i < length xs → x ≡ get_or xs i x →
    sum ≡ held_at_most (joins_of (trees (map statement_tree (take i xs)))) →
    own ≡ held_at_most (joins (statement_tree x)) →
    next ≡ held_at_most (sum + own) → next ≡ held_at_most (joins_of (trees (map statement_tree (take (i + 1) xs))))
joins_step xs i x sum own next within is so_far its more_is =
    let all = ap (λ ts. joins_of (trees ts)) (one_more_tree xs i x within is) ∙
    joins_more (map statement_tree (take i xs)) (statement_tree x) in
    omega (arith, so_far, its, more_is, all)

pub edges_step : (stack : List LayerTree) (node : graph.Node) (times : ℕ) (xs : List Statement) (i : ℕ) (x : Statement)
    (front done next : List table.Edge) → i < length xs → x ≡ get_or xs i x →
    done ≡ front ++ map (emission_edge stack node) (emissions_in times (trees (map statement_tree (take i xs)))) →
    next ≡ done ++ map (emission_edge stack node) (emissions times (statement_tree x)) →
    next ≡ front ++ map (emission_edge stack node) (emissions_in times (trees (map statement_tree (take (i + 1) xs))))
edges_step stack node times xs i x front done next within is so_far its =
    let edge = emission_edge stack node in
    let before = emissions_in times (trees (map statement_tree (take i xs))) in
    its
    ∙ ap (λ es. es ++ map edge (emissions times (statement_tree x))) so_far
    ∙ append_assoc front (map edge before) (map edge (emissions times (statement_tree x)))
    ∙ ap (λ es. front ++ es)
    (sym (map-append edge before (emissions times (statement_tree x)))
    ∙ ap (map edge) (sym (ap (λ ts. emissions_in times (trees ts)) (one_more_tree xs i x within is)
    ∙ emissions_more times (map statement_tree (take i xs)) (statement_tree x))))

-- held products of equal held numbers are equal
products : (s t m : ℕ) → held_at_most s ≡ held_at_most t → held_at_most (s * m) ≡ held_at_most (t * m)
products s t m same =
    let one = one_more 4294967295 0 s m in
    let other = one_more 4294967295 0 t m in
    let between = ap (λ k. min (min 0 4294967295 + k * min m 4294967295) 4294967295) same in
    omega (arith, one, other, between)

module _ (stack : List LayerTree) (node : graph.Node) where
  appended : (s t : ℕ) (f g : ℕ → List Repeated) → map (emission_edge stack node) (f s) ≡
      map (emission_edge stack node) (f t) →
      map (emission_edge stack node) (g s) ≡ map (emission_edge stack node) (g t) →
      map (emission_edge stack node) (f s ++ g s) ≡ map (emission_edge stack node) (f t ++ g t)
  appended s t f g one other =
      map-append (emission_edge stack node) (f s) (g s)
      ∙ (λ i. one i ++ other i)
      ∙ sym (map-append (emission_edge stack node) (f t) (g t))

  mutual
    statement_held : (s t : ℕ) (x : StatementTree) → held_at_most s ≡ held_at_most t →
        map (emission_edge stack node) (emissions s x) ≡ map (emission_edge stack node) (emissions t x)
    statement_held s t (bind k e) same = refl
    statement_held s t (assign c i e) same = refl
    statement_held s t (assign_square c row column e) same = refl
    statement_held s t (push c i capacity row otherwise) same = block_held s t otherwise same
    statement_held s t (take_row c i taken block otherwise) same =
        appended s t (λ n. emissions_in n block) (λ n. emissions_in n otherwise) (block_held s t block same)
        (block_held s t otherwise same)
    statement_held s t (branch likely e block otherwise) same =
        appended s t (λ n. emissions_in n block) (λ n. emissions_in n otherwise) (block_held s t block same)
        (block_held s t otherwise same)
    statement_held s t (each k below most block) same = block_held (s * most) (t * most) block (products s t most same)
    statement_held s t (emit e) same =
        let targets = map node_number (emission_arrow stack node (record { times = 0; emission = e })).targets in
        let edge : ℕ → table.Edge = λ n. record { times = n; targets = targets } in
        ap (λ (n : ℕ). edge n ∷ []) same

    pub block_held : (s t : ℕ) (b : StatementTrees) → held_at_most s ≡ held_at_most t →
        map (emission_edge stack node) (emissions_in s b) ≡ map (emission_edge stack node) (emissions_in t b)
    block_held s t none same = refl
    block_held s t (more x rest) same =
        appended s t (λ n. emissions n x) (λ n. emissions_in n rest) (statement_held s t x same)
        (block_held s t rest same)

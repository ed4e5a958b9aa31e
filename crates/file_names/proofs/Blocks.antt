-- The statements of a block, one statement further.
use Rattle.std.proofs.Common.{◌≡◌, ℕ, ◌+◌, ◌<◌, List, [], ◌∷◌, ◌++◌, map, flat_map, take, length, get_or, sym, ap, ◌∙◌}
use Rattle.std.proofs.Common.{subst, append_assoc, append-nil, Some}
use Rattle.std.proofs.lemmas.Grind.{flat_map-append}
use Rattle.std.proofs.lemmas.List.Sums.{fold-append}
use Rattle.layer_ast.specs.Tree as ast
use Rattle.layer_ast.specs.Tree.{StatementTree, StatementTrees}
use Rattle.layer_ast.specs.View.{statement_tree, trees}
use Rattle.layer_words.specs.declared.places.At.{At}
use Rattle.layer_ast.specs.declared.names.Name.{Name}
use Rattle.layer_words.specs.declared.sorts.Likely.{Likely}
use Rattle.layer_words.specs.declared.sorts.Sort.TheVariants.{Int}
use Rattle.layer_ast.specs.declared.syntax.Statement.{Statement}
use Rattle.fault_mean.specs.Declared.{names_in}
use Rattle.fault_mean.specs.Forms.{queue_name, row_of}
use Rattle.fault_mean.specs.Faults.{NameFault}
use Rattle.fault_mean.specs.Limits.{maximum_in}
use Rattle.fault_mean.specs.NameFaults.{size_faults, statement_name_faults, twice_among, uses_faults}
use Rattle.fault_mean.specs.Scope.{Scope, Local, declared_names, locals_as, scope_after, standing_in, standing_inside}
use Rattle.fault_mean.specs.Scope.{visible, with_locals}
use Rattle.fault_mean.specs.Uses.{statement_uses}
use Rattle.file_names.specs.Blocks.{block_faults, inner_faults, statement_faults}
use Rattle.file_scope.specs.Scope.{scope_after_all}
use Rattle.file_names.specs.Found.{Finds, name_shown}
use Rattle.file_names.specs.Scope.{Declares}
use Rattle.file_scope.specs.declared.found.Found.{Found}
use Rattle.file_scope.proofs.Finds.{finds_both, finds_row}
use Rattle.file_scope.proofs.Lists.{trees_more}
use Rattle.file_scope.proofs.Standing.{left_is, names_of_locals, standing_more}

pub block_more : (outer scope inner : Scope) (a b c : Found) (xs : List Statement) (i : ℕ) (x : Statement) →
    i < length xs → x ≡ get_or xs i x →
    Finds a (block_faults outer (trees (map statement_tree (take i xs)))) b →
    scope ≡ scope_after_all outer (map statement_tree (take i xs)) →
    Finds b (statement_faults scope (statement_tree x)) c → inner ≡ scope_after scope (statement_tree x) →
    Finds a (block_faults outer (trees (map statement_tree (take (i + 1) xs)))) c
    × (inner ≡ scope_after_all outer (map statement_tree (take (i + 1) xs)))
block_more outer scope inner a b c xs i x within is so_far scope_is now then_ =
    let before = map statement_tree (take i xs) in
    let following = scope_after_all outer before in
    let more = trees_more statement_tree xs i x within is in
    let s = statement_tree x in
    let this : List NameFault = statement_faults following s in (
      subst (λ l. Finds a (block_faults outer (trees l)) c) (sym more)
          (subst (λ l. Finds a l c)
          (sym (ap (flat_map statement_name_faults) (standing_more outer before s)
          ∙ (flat_map-append statement_name_faults (standing_in outer (trees before)) _
          ∙ ap (λ l. block_faults outer (trees before) ++
          (statement_name_faults (record { scope = following; statement = s }) ++ flat_map statement_name_faults l))
          (append-nil (standing_inside following s)))))
          (finds_both name_shown a b c (block_faults outer (trees before)) this so_far
          (subst (λ z. Finds b (statement_faults z s) c) scope_is now))),
      then_ ∙ (ap (λ z. scope_after z s) scope_is
          ∙ (sym (fold-append scope_after outer before (s ∷ [])) ∙ ap (scope_after_all outer) (sym more))),
    )

-- a statement's uses, what it declares, and what is inside it
pub statement_parts : (scope : Scope) (x : StatementTree) (a b c : Found) →
    Finds a (uses_faults scope (statement_uses x)) b → Finds b (inner_faults scope x) c →
    Finds a (statement_faults scope x) c
statement_parts scope x a b c uses inner =
    let u = uses_faults scope (statement_uses x) in
    let t = twice_among (visible scope) (declared_names x) in
    let m = flat_map size_faults (maximum_in x) in
    let rest = flat_map statement_name_faults (standing_inside scope x) in
    subst (λ l. Finds a l c)
    (sym (ap (λ l. l ++ rest) (append_assoc u t m) ∙ append_assoc u (t ++ m) rest))
    (finds_both name_shown a b c u ((t ++ m) ++ rest) uses inner)

-- a block in which further locals are visible
pub with_inner : (outer scope scope' left : Scope) (ls : List Local) (n : ℕ) (blk : StatementTrees) (a b c : Found) →
    n ≡ length outer.locals → Declares outer a ls b scope → Finds b (block_faults scope blk) c → scope' ≡ scope →
    left ≡ record scope' { locals = take n scope'.locals } →
    Finds a (twice_among (visible outer) (map (λ (l : Local). l.name) ls) ++ block_faults (with_locals outer ls) blk)
    c × (left ≡ outer)
with_inner outer scope scope' left ls n blk a b c count declares inner kept leaves = (
  finds_both name_shown a b c _ _ declares.0 (subst (λ s. Finds b (block_faults s blk) c) declares.1 inner),
  left_is outer scope' left ls n count (kept ∙ declares.1) leaves,
)

-- a loop, with its name and its limit
pub each_inner : (outer scope scope' left : Scope) (at : At) (name : Name) (below : ast.ExpressionTree)
    (most : ast.SizeTree) (blk : StatementTrees)
    (n : ℕ) (a b c d : Found) → n ≡ length outer.locals →
    Declares outer a (record { name = name; sort = Int } ∷ []) b scope →
    Finds b (size_faults (record { size = most; most = 32 })) c →
    Finds c (block_faults scope blk) d → scope' ≡ scope → left ≡ record scope' { locals = take n scope'.locals } →
    Finds a (inner_faults outer (ast.each at name below most blk)) d × (left ≡ outer)
each_inner outer scope scope' left at name below most blk n a b c d count declares limit inner kept leaves =
    let ls : List Local = record { name = name; sort = Int } ∷ [] in (
      finds_both name_shown a c d _ _
          (finds_both name_shown a b c _ _ declares.0
          (subst (λ l. Finds b l c) (sym (append-nil (size_faults (record { size = most; most = 32 })))) limit))
          (subst (λ s. Finds c (block_faults s blk) d) declares.1 inner),
      left_is outer scope' left ls n count (kept ∙ declares.1) leaves,
    )

-- a take, with the names of a row
pub take_inner : (outer scope scope' : Scope) (at : At) (q : ast.QueueTree) (ns : ast.NamesTree)
    (blk other : StatementTrees) (ls : List Local) (a b c : Found) →
    ls ≡ locals_as (map (λ (i : ast.ItemTree). i.sort) (row_of outer.layer (queue_name q).word)) (names_in (Some ns)) →
    Finds a (twice_among (visible outer) (map (λ (l : Local). l.name) ls) ++ block_faults (with_locals outer ls) blk)
    b → scope ≡ outer →
    Finds b (block_faults scope other) c → scope' ≡ scope →
    Finds a (inner_faults outer (ast.take at q ns blk other)) c × (scope' ≡ outer)
take_inner outer scope scope' at q ns blk other ls a b c is first kept second kept' =
    let sorts = map (λ (i : ast.ItemTree). i.sort) (row_of outer.layer (queue_name q).word) in
    let t = twice_among (visible outer) (names_in (Some ns)) in
    let one = block_faults (with_locals outer (locals_as sorts (names_in (Some ns)))) blk in
    let two = block_faults outer other in
    let first' : Finds a (t ++ one) b =
    subst (λ l. Finds a l b)
    (ap (λ m. twice_among (visible outer) (map (λ (l : Local). l.name) m) ++ block_faults (with_locals outer m) blk) is
    ∙ ap (λ m. twice_among (visible outer) m ++ one) (names_of_locals sorts (names_in (Some ns))))
    first in (
      subst (λ l. Finds a l c)
          (append_assoc t one two
          ∙ (ap (λ l. l ++ (one ++ two)) (sym (append-nil t))
          ∙ ap (λ l. (t ++ []) ++ l)
          (sym (flat_map-append statement_name_faults
          (standing_in (with_locals outer (locals_as sorts (names_in (Some ns)))) blk) (standing_in outer other)))))
          (finds_both name_shown a b c (t ++ one) two first'
          (subst (λ s. Finds b (block_faults s other) c) kept second)),
      kept' ∙ kept,
    )

pub choose_inner : (outer scope scope' : Scope) (at : At) (likely : Likely) (condition : ast.ExpressionTree)
    (blk other : StatementTrees) (a b c : Found) →
    Finds a (block_faults outer blk) b → scope ≡ outer → Finds b (block_faults scope other) c → scope' ≡ scope →
    Finds a (inner_faults outer (ast.choose at likely condition blk other)) c × (scope' ≡ outer)
choose_inner outer scope scope' at likely condition blk other a b c first kept second kept' = (
  finds_row name_shown statement_name_faults a b c (standing_in outer blk) (standing_in outer other) first
      (subst (λ s. Finds b (block_faults s other) c) kept second),
  kept' ∙ kept,
)

pub let_inner : (outer inner : Scope) (at : At) (name : Name) (e : ast.ExpressionTree) (a b : Found) →
    Declares outer a (record { name = name; sort = Int } ∷ []) b inner →
    Finds a (inner_faults outer (ast.bind at name e)) b × (inner ≡ scope_after outer (ast.bind at name e))
let_inner outer inner at name e a b declares = (
  subst (λ l. Finds a l b)
      (sym (append-nil (twice_among (visible outer) (name ∷ []) ++ []) ∙
      append-nil (twice_among (visible outer) (name ∷ [])))) declares.0,
  declares.1,
)

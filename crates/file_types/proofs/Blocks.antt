-- The statements of a block, one statement further.
use Rattle.std.proofs.Common.{◌≡◌, ℕ, ◌+◌, ◌<◌, List, [], ◌∷◌, map, take, length, get_or, Some, sym, ap, ◌∙◌, subst}
use Rattle.std.proofs.lemmas.List.Sums.{fold-append}
use Rattle.layer_ast.specs.Tree as ast
use Rattle.layer_ast.specs.Tree.{StatementTrees}
use Rattle.layer_ast.specs.View.{statement_tree, trees}
use Rattle.layer_words.specs.declared.places.At.{At}
use Rattle.layer_words.specs.declared.sorts.Likely.{Likely}
use Rattle.layer_ast.specs.declared.syntax.Statement.{Statement}
use Rattle.fault_mean.specs.Declared.{names_in}
use Rattle.fault_mean.specs.Forms.{queue_name, row_of}
use Rattle.fault_mean.specs.Scope.{Scope, Local, locals_as, scope_after, standing_in, with_locals}
use Rattle.file_scope.specs.declared.found.Found.{Found}
use Rattle.file_scope.proofs.Finds.{finds_both, finds_row}
use Rattle.file_scope.specs.Scope.{scope_after_all}
use Rattle.file_scope.proofs.Lists.{trees_more}
use Rattle.file_scope.proofs.Standing.{faults_more, left_is}
use Rattle.file_expressions.specs.Found.{Finds, type_shown}
use Rattle.file_types.specs.Blocks.{block_faults, inner_faults, standing_faults, statement_faults}

pub block_more : (outer scope inner : Scope) (a b c : Found) (xs : List Statement) (i : ℕ) (x : Statement) →
    i < length xs → x ≡ get_or xs i x →
    Finds a (block_faults outer (trees (map statement_tree (take i xs)))) b →
    scope ≡ scope_after_all outer (map statement_tree (take i xs)) →
    Finds b (statement_faults scope (statement_tree x)) c → inner ≡ scope_after scope (statement_tree x) →
    Finds a (block_faults outer (trees (map statement_tree (take (i + 1) xs)))) c
    × (inner ≡ scope_after_all outer (map statement_tree (take (i + 1) xs)))
block_more outer scope inner a b c xs i x within is so_far scope_is now then_ =
    let before = map statement_tree (take i xs) in
    let more = trees_more statement_tree xs i x within is in
    let s = statement_tree x in (
      subst (λ l. Finds a l c)
          (sym (ap (λ l. block_faults outer (trees l)) more ∙ faults_more standing_faults outer before s))
          (finds_both type_shown a b c (block_faults outer (trees before))
          (statement_faults (scope_after_all outer before) s) so_far
          (subst (λ z. Finds b (statement_faults z s) c) scope_is now)),
      then_ ∙ (ap (λ z. scope_after z s) scope_is
          ∙ (sym (fold-append scope_after outer before (s ∷ [])) ∙ ap (scope_after_all outer) (sym more))),
    )

-- a block in which further locals are visible
pub with_inner : (outer scope scope' left : Scope) (ls : List Local) (n : ℕ) (blk : StatementTrees) (a b : Found) →
    n ≡ length outer.locals → scope ≡ with_locals outer ls → Finds a (block_faults scope blk) b →
    scope' ≡ scope → left ≡ record scope' { locals = take n scope'.locals } →
    Finds a (block_faults (with_locals outer ls) blk) b × (left ≡ outer)
with_inner outer scope scope' left ls n blk a b count extends inner kept leaves = (
  subst (λ s. Finds a (block_faults s blk) b) extends inner,
  left_is outer scope' left ls n count (kept ∙ extends) leaves,
)

-- a take, with the names of a row
pub take_inner : (outer scope scope' : Scope) (at : At) (q : ast.QueueTree) (ns : ast.NamesTree)
    (blk other : StatementTrees) (ls : List Local) (a b c : Found) →
    ls ≡ locals_as (map (λ (i : ast.ItemTree). i.sort) (row_of outer.layer (queue_name q).word)) (names_in (Some ns)) →
    Finds a (block_faults (with_locals outer ls) blk) b → scope ≡ outer →
    Finds b (block_faults scope other) c → scope' ≡ scope →
    Finds a (inner_faults outer (ast.take at q ns blk other)) c × (scope' ≡ outer)
take_inner outer scope scope' at q ns blk other ls a b c is first kept second kept' = (
  finds_row type_shown standing_faults a b c
      (standing_in (with_locals outer
      (locals_as (map (λ (i : ast.ItemTree). i.sort) (row_of outer.layer (queue_name q).word)) (names_in (Some ns))))
      blk)
      (standing_in outer other)
      (subst (λ m. Finds a (block_faults (with_locals outer m) blk) b) is first)
      (subst (λ s. Finds b (block_faults s other) c) kept second),
  kept' ∙ kept,
)

pub choose_inner : (outer scope scope' : Scope) (at : At) (likely : Likely) (condition : ast.ExpressionTree)
    (blk other : StatementTrees) (a b c : Found) →
    Finds a (block_faults outer blk) b → scope ≡ outer → Finds b (block_faults scope other) c → scope' ≡ scope →
    Finds a (inner_faults outer (ast.choose at likely condition blk other)) c × (scope' ≡ outer)
choose_inner outer scope scope' at likely condition blk other a b c first kept second kept' = (
  finds_row type_shown standing_faults a b c (standing_in outer blk) (standing_in outer other) first
      (subst (λ s. Finds b (block_faults s other) c) kept second),
  kept' ∙ kept,
)

-- The statements of a block, one statement further.
use Rattle.std.proofs.Common.{◌≡◌, ℕ, zero, suc, ◌+◌, ◌<◌, List, [], ◌∷◌, ◌++◌, map, take, drop, length, get_or, refl}
use Rattle.std.proofs.Common.{sym, ap, ◌∙◌, arith, subst}
use Rattle.layer_ast.specs.Tree as ast
use Rattle.layer_ast.specs.View as written
use Rattle.layer_ast.specs.declared.syntax.Statement as rust
use Rattle.layer_mean.specs.Tree.{StatementTree, none, more}
use Rattle.file_mean.specs.Names.{Names}
use Rattle.file_mean.specs.Statements.{following, after_all, statement_of, statements_of}
use Rattle.typed_layer.specs.View.{statement_tree, trees}
use Rattle.typed_layer.specs.declared.tree.Statement.{Statement}
use Rattle.file_laws.specs.Bounds.{HoldsBlock, HoldsStatement}
use Rattle.file_slots.proofs.Lists.{trees_more}

trees_after : (xs : List ast.StatementTree) (x : ast.StatementTree) (names : Names) →
    after_all (written.trees (xs ++ x ∷ [])) names ≡ following x (after_all (written.trees xs) names)
trees_after [] x names = refl
trees_after (y ∷ xs) x names = trees_after xs x (following y names)

made_after : (xs : List ast.StatementTree) (x : ast.StatementTree) (names : Names) (made : List StatementTree)
    (m : StatementTree) →
    trees made ≡ statements_of names (written.trees xs) → m ≡ statement_of (after_all (written.trees xs) names) x →
    trees (made ++ m ∷ []) ≡ statements_of names (written.trees (xs ++ x ∷ []))
made_after [] x names [] m so_far is = ap (λ s. more s none) is
made_after [] x names (n ∷ made) m so_far is = absurd (cc so_far)
made_after (y ∷ xs) x names [] m so_far is = absurd (cc so_far)
made_after (y ∷ xs) x names (n ∷ made) m so_far is =
    let first : n ≡ statement_of names y = cc so_far in
    let rest : trees made ≡ statements_of (following y names) (written.trees xs) = cc so_far in
    ap (λ s. more s (trees (made ++ m ∷ []))) first
    ∙ ap (more (statement_of names y)) (made_after xs x (following y names) made m rest is)

drop_at : {X : Type 0} (xs : List X) (k : ℕ) (x : X) → k < length xs → x ≡ get_or xs k x →
    drop k xs ≡ x ∷ drop (suc k) xs
drop_at [] k x less is = absurd (omega (arith, less))
drop_at (y ∷ rest) zero x less is = ap (λ z. z ∷ rest) (sym is)
drop_at (y ∷ rest) (suc k) x less is = drop_at rest k x (omega (arith, less)) is

-- what members can keep of the statements that are left: the first, and the rest
pub holds_next : (all : List rust.Statement) (i : ℕ) (s : rust.Statement) (names : Names) → i < length all →
    s ≡ get_or all i s →
    HoldsBlock (statements_of names (written.statement_trees (drop i all))) →
    HoldsStatement (statement_of names (written.statement_tree s))
    × HoldsBlock (statements_of (following (written.statement_tree s) names)
    (written.statement_trees (drop (suc i) all)))
holds_next all i s names within is holds =
    subst (λ l. HoldsBlock (statements_of names (written.statement_trees l))) (drop_at all i s within is) holds

-- one more statement
pub statements_next : (all : List rust.Statement) (i : ℕ) (s : rust.Statement) (outer names after : Names)
    (made pushed : List Statement) (m : Statement) → i < length all → s ≡ get_or all i s →
    HoldsBlock (statements_of names (written.statement_trees (drop i all))) →
    trees (map statement_tree made) ≡ statements_of outer (written.statement_trees (take i all)) →
    names ≡ after_all (written.statement_trees (take i all)) outer →
    statement_tree m ≡ statement_of names (written.statement_tree s) →
    after ≡ following (written.statement_tree s) names →
    pushed ≡ made ++ m ∷ [] →
    HoldsBlock (statements_of after (written.statement_trees (drop (i + 1) all)))
    × (trees (map statement_tree pushed) ≡ statements_of outer (written.statement_trees (take (i + 1) all)))
    × (after ≡ after_all (written.statement_trees (take (i + 1) all)) outer)
statements_next all i s outer names after made pushed m within is holds so_far names_are made_is after_is push =
    let one : suc i ≡ i + 1 = omega arith in
    let before = map written.statement_tree (take i all) in
    let x = written.statement_tree s in
    let more_trees : map written.statement_tree (take (i + 1) all) ≡ before ++ x ∷ [] =
    trees_more written.statement_tree all i s within is in (
      subst (λ n. HoldsBlock (statements_of after (written.statement_trees (drop n all)))) one
          (subst (λ n. HoldsBlock (statements_of n (written.statement_trees (drop (suc i) all)))) (sym after_is)
          (holds_next all i s names within is holds).1),
      ap (λ l. trees (map statement_tree l)) push
          ∙ (ap trees (map_snoc made m)
          ∙ (made_after before x outer (map statement_tree made) (statement_tree m) so_far
          (made_is ∙ ap (λ n. statement_of n x) names_are)
          ∙ ap (λ l. statements_of outer (written.trees l)) (sym more_trees))),
      after_is
          ∙ (ap (following x) names_are
          ∙ (sym (trees_after before x outer) ∙ ap (λ l. after_all (written.trees l) outer) (sym more_trees))),
    )
  where
    map_snoc : (xs : List Statement) (y : Statement) → map statement_tree (xs ++ y ∷ []) ≡ map statement_tree xs ++
        statement_tree y ∷ []
    map_snoc [] y = refl
    map_snoc (z ∷ xs) y = ap (λ l. statement_tree z ∷ l) (map_snoc xs y)

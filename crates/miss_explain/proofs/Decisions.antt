-- The lines of the decisions of statements, form by form, and those of one more statement.
use Rattle.std.proofs.Common.{◌≡◌, ℕ, ◌+◌, ◌<◌, Bool, true, false, if◌then◌else◌, List, [], ◌∷◌, ◌++◌, map, take}
use Rattle.std.proofs.Common.{length, get_or, refl, sym, ap, ◌∙◌, subst, append-nil, append_assoc}
use Rattle.layer_ast.specs.Tree as ast
use Rattle.layer_ast.specs.Tree.{StatementTree, StatementTrees}
use Rattle.layer_ast.specs.View.{statement_tree, trees}
use Rattle.layer_words.specs.declared.places.At.{At}
use Rattle.layer_words.specs.declared.sorts.Likely.{Likely}
use Rattle.layer_words.specs.declared.sorts.Likely.TheVariants as likely
use Rattle.layer_ast.specs.declared.syntax.Statement.{Statement}
use Rattle.layer_mean.specs.declared.run.Case.{Case}
use Rattle.layer_mean.specs.declared.run.Case.TheVariants.{First, Second}
use Rattle.miss_mean.specs.Spots.{block_lines, statement_lines}
use Rattle.file_scope.proofs.Lists.{trees_more}
use Rattle.miss_explain.specs.Search.{Passes, is_entered}
use Rattle.miss_explain.specs.declared.search.Search.{Search}
use Rattle.miss_explain.proofs.Passing.{passes_both, passes_more, passes_none}

-- a statement that decides nothing
pub quiet : (case : Case) (s t : StatementTree) (a : Search) → s ≡ t → statement_lines First t ≡ [] →
    statement_lines Second t ≡ [] →
    Passes a (statement_lines case s) a
quiet case s t a is first second =
    subst (λ ls. Passes a ls a) (sym (ap (statement_lines case) is ∙ none case)) (passes_none a) where
      none : (case : Case) → statement_lines case t ≡ []
      none First = first
      none Second = second

-- a take
pub take_lines : (case : Case) (at : At) (q : ast.QueueTree) (names : ast.NamesTree) (block otherwise : StatementTrees)
    →
    statement_lines case (ast.take at q names block otherwise) ≡ at.line ∷ block_lines case block
take_lines First at q names block otherwise = refl
take_lines Second at q names block otherwise = refl

-- a condition without another way, and with one
when_lines : (case : Case) (l : Likely) (at : At) (condition : ast.ExpressionTree) (block : StatementTrees) →
    statement_lines case (ast.when at l condition block) ≡ at.line ∷
    (if is_entered case l then block_lines case block else [])
when_lines First likely.First at condition block = refl
when_lines First likely.Else at condition block = refl
when_lines First likely.Two at condition block = refl
when_lines Second likely.First at condition block = refl
when_lines Second likely.Else at condition block = refl
when_lines Second likely.Two at condition block = refl

choose_lines : (case : Case) (l : Likely) (at : At) (condition : ast.ExpressionTree) (block otherwise : StatementTrees)
    →
    statement_lines case (ast.choose at l condition block otherwise)
    ≡ at.line ∷ (if is_entered case l then block_lines case block else block_lines case otherwise)
choose_lines First likely.First at condition block otherwise = refl
choose_lines First likely.Else at condition block otherwise = refl
choose_lines First likely.Two at condition block otherwise = refl
choose_lines Second likely.First at condition block otherwise = refl
choose_lines Second likely.Else at condition block otherwise = refl
choose_lines Second likely.Two at condition block otherwise = refl

-- a statement with a line of its own, and those of a block after it
pub with_block : (case : Case) (s t : StatementTree) (line : ℕ) (block : List ℕ) (a b c : Search) → s ≡ t →
    statement_lines case t ≡ line ∷ block →
    Passes a (line ∷ []) b → Passes b block c → Passes a (statement_lines case s) c
with_block case s t line block a b c is lines one two =
    subst (λ ls. Passes a ls c) (sym (ap (statement_lines case) is ∙ lines)) (passes_more a b c line block one two)

-- a condition that is predicted to go into its first block, and one that is predicted to go into the other
module _ (case : Case) (s : StatementTree) (l : Likely) (at : At) (condition : ast.ExpressionTree)
    (block otherwise : StatementTrees)
    (a b c : Search) (goes : Bool) (is : goes ≡ is_entered case l) (one : Passes a (at.line ∷ []) b) where
  pub when_entered : s ≡ ast.when at l condition block → goes ≡ true → Passes b (block_lines case block) c →
      Passes a (statement_lines case s) c
  when_entered same true_is two = with_block case s _ at.line _ a b c same (when_lines case l at condition block
      ∙ ap (λ x. at.line ∷ (if x then block_lines case block else [])) (sym is ∙ true_is)) one two

  pub choose_entered : s ≡ ast.choose at l condition block otherwise → goes ≡ true →
      Passes b (block_lines case block) c →
      Passes a (statement_lines case s) c
  choose_entered same true_is two =
      with_block case s _ at.line _ a b c same (choose_lines case l at condition block otherwise
      ∙ ap (λ x. at.line ∷ (if x then block_lines case block else block_lines case otherwise)) (sym is ∙ true_is)) one
      two

  pub choose_passed : s ≡ ast.choose at l condition block otherwise → goes ≡ false →
      Passes b (block_lines case otherwise) c →
      Passes a (statement_lines case s) c
  choose_passed same false_is two =
      with_block case s _ at.line _ a b c same (choose_lines case l at condition block otherwise
      ∙ ap (λ x. at.line ∷ (if x then block_lines case block else block_lines case otherwise)) (sym is ∙ false_is)) one
      two

-- one more statement
block_append : (case : Case) (xs : List StatementTree) (s : StatementTree) →
    block_lines case (trees (xs ++ s ∷ [])) ≡ block_lines case (trees xs) ++ statement_lines case s
block_append case [] s = append-nil (statement_lines case s)
block_append case (x ∷ xs) s =
    ap (λ ls. statement_lines case x ++ ls) (block_append case xs s)
    ∙ sym (append_assoc (statement_lines case x) (block_lines case (trees xs)) (statement_lines case s))

pub block_more : (case : Case) (xs : List Statement) (i : ℕ) (x : Statement) (a b c : Search) → i < length xs →
    x ≡ get_or xs i x →
    Passes a (block_lines case (trees (map statement_tree (take i xs)))) b →
    Passes b (statement_lines case (statement_tree x)) c →
    Passes a (block_lines case (trees (map statement_tree (take (i + 1) xs)))) c
block_more case xs i x a b c within is before one =
    let more = trees_more statement_tree xs i x within is in
    subst (λ ls. Passes a ls c)
    (sym (ap (λ ts. block_lines case (trees ts)) more ∙
    block_append case (map statement_tree (take i xs)) (statement_tree x)))
    (passes_both a b c _ _ before one)

-- What statements declare, one statement further.
use Rattle.std.proofs.Common.{◌≡◌, ℕ, ◌+◌, ◌<◌, List, [], ◌∷◌, ◌++◌, map, flat_map, fold, take, length, get_or, refl}
use Rattle.std.proofs.Common.{sym, ap, ◌∙◌, subst, append_assoc, append-nil, ap₂}
use Rattle.std.proofs.lemmas.List.{map-append}
use Rattle.std.proofs.lemmas.Grind.{flat_map-append}
use Rattle.std.proofs.lemmas.List.Sums.{fold-append}
use Rattle.layer_ast.specs.Tree as ast
use Rattle.layer_ast.specs.Tree.{StatementTree, StatementTrees}
use Rattle.layer_ast.specs.View.{statement_tree, trees}
use Rattle.layer_ast.specs.declared.names.Name.{Name}
use Rattle.layer_ast.specs.declared.syntax.Statement.{Statement}
use Rattle.fault_mean.specs.Scope.{Standing, Scope, declared_names, scope_after, standing_in, standing_inside}
use Rattle.fault_mean.specs.Scope.{taken_scope}
use Rattle.fault_mean.specs.Scope.{with_locals, locals_as}
use Rattle.file_names.specs.Gathered.{Gathers, maximum_words, noted_words, statements_in, statements_inside}
use Rattle.file_scope.proofs.Layers.{mapped}
use Rattle.file_scope.proofs.Lists.{trees_more}

pub gathers_none : (names : List Name) (maxima : List (List ℕ)) → Gathers names maxima [] names maxima
unfolding Gathers
gathers_none names maxima = (sym (append-nil names), refl)

pub gathers_both : (a b c : List Name) (l m n : List (List ℕ)) (xs ys : List StatementTree) →
    Gathers a l xs b m → Gathers b m ys c n → Gathers a l (xs ++ ys) c n
unfolding Gathers
gathers_both a b c l m n xs ys left right = (
  right.0 ∙ (ap (λ z. z ++ flat_map declared_names ys) left.0
      ∙ (append_assoc a (flat_map declared_names xs) (flat_map declared_names ys) ∙
      ap (λ z. a ++ z) (sym (flat_map-append declared_names xs ys)))),
  right.1 ∙ (ap (λ z. fold noted_words z (flat_map maximum_words ys)) left.1
      ∙ (sym (fold-append noted_words l (flat_map maximum_words xs) (flat_map maximum_words ys))
      ∙ ap (fold noted_words l) (sym (flat_map-append maximum_words xs ys)))),
)

statements_more : (xs : List StatementTree) (x : StatementTree) →
    statements_in (trees (xs ++ x ∷ [])) ≡ statements_in (trees xs) ++ (x ∷ [] ++ statements_inside x)
statements_more [] x = ap (λ l. x ∷ l) (append-nil (statements_inside x))
statements_more (y ∷ xs) x =
    ap (λ l. y ∷ (statements_inside y ++ l)) (statements_more xs x)
    ∙ ap (λ l. y ∷ l) (sym (append_assoc (statements_inside y) (statements_in (trees xs)) (x ∷ statements_inside x)))

-- one more statement, with those inside it
pub gathers_more : (a b c d : List Name) (l m n o : List (List ℕ)) (xs : List Statement) (i : ℕ) (x : Statement) →
    i < length xs → x ≡ get_or xs i x →
    Gathers a l (statements_in (trees (map statement_tree (take i xs)))) b m →
    Gathers b m (statement_tree x ∷ []) c n → Gathers c n (statements_inside (statement_tree x)) d o →
    Gathers a l (statements_in (trees (map statement_tree (take (i + 1) xs)))) d o
gathers_more a b c d l m n o xs i x within is so_far own inner =
    let before = map statement_tree (take i xs) in
    subst (λ s. Gathers a l s d o)
    (sym (ap (λ s. statements_in (trees s)) (trees_more statement_tree xs i x within is) ∙
    statements_more before (statement_tree x)))
    (gathers_both a b d l m o (statements_in (trees before))
    (statement_tree x ∷ [] ++ statements_inside (statement_tree x)) so_far
    (gathers_both b c d m n o (statement_tree x ∷ []) (statements_inside (statement_tree x)) own inner))

-- words of one more thing
pub words_more : {X A : Type 0} (tree : X → A) (f : A → List (List ℕ)) (start before after : List (List ℕ))
    (xs : List X) (i : ℕ) (x : X) →
    i < length xs → x ≡ get_or xs i x → before ≡ fold noted_words start (flat_map f (map tree (take i xs))) →
    after ≡ fold noted_words before (f (tree x)) →
    after ≡ fold noted_words start (flat_map f (map tree (take (i + 1) xs)))
words_more tree f start before after xs i x within is so_far now =
    now ∙ (ap (λ z. fold noted_words z (f (tree x))) so_far
    ∙ (sym (fold-append noted_words start (flat_map f (map tree (take i xs))) (f (tree x)))
    ∙ ap (fold noted_words start)
    (sym (ap (flat_map f) (trees_more tree xs i x within is)
    ∙ (flat_map-append f (map tree (take i xs)) (tree x ∷ [])
    ∙ ap (λ l. flat_map f (map tree (take i xs)) ++ l) (append-nil (f (tree x))))))))

-- the statements of a block, without their scopes
mutual
  same_inside : (scope : Scope) (s : StatementTree) → map (λ (x : Standing). x.statement) (standing_inside scope s) ≡
      statements_inside s
  same_inside scope (ast.bind at name value) = refl
  same_inside scope (ast.set at name index value) = refl
  same_inside scope (ast.set_square at name row column value) = refl
  same_inside scope (ast.push at q items otherwise) = same_in scope otherwise
  same_inside scope (ast.take at q names block otherwise) =
      map-append (λ (x : Standing). x.statement) (standing_in (taken_scope scope q names) block)
      (standing_in scope otherwise)
      ∙ ap₂ (λ a b. a ++ b) (same_in (taken_scope scope q names) block) (same_in scope otherwise)
  same_inside scope (ast.when at likely condition block) = same_in scope block
  same_inside scope (ast.choose at likely condition block otherwise) =
      map-append (λ (x : Standing). x.statement) (standing_in scope block) (standing_in scope otherwise)
      ∙ ap₂ (λ a b. a ++ b) (same_in scope block) (same_in scope otherwise)
  same_inside scope (ast.each at name below most block) = same_in (with_locals scope (locals_as [] (name ∷ []))) block
  same_inside scope (ast.emit at direction kind arguments pushed) = refl

  pub same_in : (scope : Scope) (b : StatementTrees) → map (λ (x : Standing). x.statement) (standing_in scope b) ≡
      statements_in b
  same_in scope ast.none = refl
  same_in scope (ast.more s rest) =
      ap (λ l. s ∷ l)
      (map-append (λ (x : Standing). x.statement) (standing_inside scope s) (standing_in (scope_after scope s) rest)
      ∙ ap₂ (λ a b. a ++ b) (same_inside scope s) (same_in (scope_after scope s) rest))

-- what the statements of a block say, with their scopes or without
pub said_in : {A : Type 0} (f : StatementTree → List A) (scope : Scope) (b : StatementTrees) →
    flat_map f (statements_in b) ≡ flat_map (λ (x : Standing). f x.statement) (standing_in scope b)
said_in f scope b =
    ap (flat_map f) (sym (same_in scope b)) ∙ mapped f (λ (x : Standing). x.statement) (standing_in scope b)

-- The statements of a block and the scopes that they stand in.
use Rattle.std.proofs.Common.{◌≡◌, ℕ, ◌+◌, ◌<◌, List, [], ◌∷◌, ◌++◌, map, flat_map, take, length, get_or, refl, sym, ap}
use Rattle.std.proofs.Common.{◌∙◌, append_assoc, append-nil}
use Rattle.std.proofs.lemmas.Grind.{flat_map-append}
use Rattle.layer_ast.specs.Tree as ast
use Rattle.layer_ast.specs.Tree.{StatementTree}
use Rattle.layer_ast.specs.View.{trees}
use Rattle.layer_ast.specs.declared.names.Name.{Name}
use Rattle.layer_words.specs.declared.sorts.Sort.{Sort}
use Rattle.fault_mean.specs.Scope.{Scope, Standing, Local, locals_as, scope_after, standing_in, standing_inside}
use Rattle.fault_mean.specs.Scope.{with_locals}
use Rattle.file_scope.specs.declared.scope.Local as rust
use Rattle.file_scope.specs.Scope.{local_of, locals_of, scope_after_all}
use Rattle.file_scope.proofs.Lists.{trees_more}

-- one statement further
pub standing_more : (scope : Scope) (xs : List StatementTree) (x : StatementTree) →
    standing_in scope (trees (xs ++ x ∷ [])) ≡
    standing_in scope (trees xs)
    ++ record { scope = scope_after_all scope xs; statement = x } ∷
    (standing_inside (scope_after_all scope xs) x ++ [])
standing_more scope [] x = refl
standing_more scope (y ∷ xs) x =
    ap (λ l. record { scope = scope; statement = y } ∷ (standing_inside scope y ++ l))
    (standing_more (scope_after scope y) xs x)
    ∙ ap (λ l. record { scope = scope; statement = y } ∷ l)
    (sym (append_assoc (standing_inside scope y) (standing_in (scope_after scope y) (trees xs)) _))

unchanged : (scope : Scope) → scope ≡ with_locals scope []
unchanged scope = ap (λ (m : List Local). record { layer = scope.layer; locals = m }) (sym (append-nil scope.locals))

-- the scope after statements is the one before them with further locals
following-more : (scope : Scope) (x : StatementTree) →
    (more : List Local) × (scope_after scope x ≡ with_locals scope more)
following-more scope (ast.bind at name value) = (locals_as [] (name ∷ []), refl)
following-more scope (ast.set at name index value) = ([], unchanged scope)
following-more scope (ast.set_square at name row column value) = ([], unchanged scope)
following-more scope (ast.push at q items otherwise) = ([], unchanged scope)
following-more scope (ast.take at q names block otherwise) = ([], unchanged scope)
following-more scope (ast.when at likely condition block) = ([], unchanged scope)
following-more scope (ast.choose at likely condition block otherwise) = ([], unchanged scope)
following-more scope (ast.each at name below most block) = ([], unchanged scope)
following-more scope (ast.emit at direction kind arguments pushed) = ([], unchanged scope)

all-more : (scope : Scope) (xs : List StatementTree) →
    (more : List Local) × (scope_after_all scope xs ≡ with_locals scope more)
all-more scope [] = ([], unchanged scope)
all-more scope (x ∷ xs) =
    let one = following-more scope x in
    let rest = all-more (scope_after scope x) xs in (
      one.0 ++ rest.0,
      rest.1 ∙ (ap (λ s. with_locals s rest.0) one.1
          ∙ ap (λ (m : List Local). record { layer = scope.layer; locals = m })
          (append_assoc scope.locals one.0 rest.0)),
    )

take-first : {A : Type 0} (xs ys : List A) → take (length xs) (xs ++ ys) ≡ xs
take-first [] ys = refl
take-first (x ∷ xs) ys = ap (λ l. x ∷ l) (take-first xs ys)

-- a scope that is left again
pub left_is : (outer scope left : Scope) (more : List Local) (n : ℕ) → n ≡ length outer.locals →
    scope ≡ with_locals outer more → left ≡ record scope { locals = take n scope.locals } → left ≡ outer
left_is outer scope left more n count is leaves =
    leaves
    ∙ (ap (λ (s : Scope). record { layer = s.layer; locals = take n s.locals }) is
    ∙ (ap (λ k. record { layer = outer.layer; locals = take k (outer.locals ++ more) }) count
    ∙ ap (λ (m : List Local). record { layer = outer.layer; locals = m }) (take-first outer.locals more)))

pub block_left : (outer scope left : Scope) (xs : List StatementTree) (n : ℕ) → n ≡ length outer.locals →
    scope ≡ scope_after_all outer xs → left ≡ record scope { locals = take n scope.locals } → left ≡ outer
block_left outer scope left xs n count is leaves =
    let more = all-more outer xs in left_is outer scope left more.0 n count (is ∙ more.1) leaves

pub names_of_locals : (sorts : List Sort) (xs : List Name) → map (λ (l : Local). l.name) (locals_as sorts xs) ≡ xs
names_of_locals sorts [] = refl
names_of_locals [] (x ∷ xs) = ap (λ l. x ∷ l) (names_of_locals [] xs)
names_of_locals (s ∷ sorts) (x ∷ xs) = ap (λ l. x ∷ l) (names_of_locals sorts xs)

-- what statements have, one statement further
pub faults_more : {F : Type 0} (f : Standing → List F) (outer : Scope) (xs : List StatementTree) (x : StatementTree) →
    flat_map f (standing_in outer (trees (xs ++ x ∷ []))) ≡
    flat_map f (standing_in outer (trees xs))
    ++ (f (record { scope = scope_after_all outer xs; statement = x }) ++
    flat_map f (standing_inside (scope_after_all outer xs) x))
faults_more f outer xs x =
    let following = scope_after_all outer xs in
    ap (flat_map f) (standing_more outer xs x)
    ∙ (flat_map-append f (standing_in outer (trees xs)) _
    ∙ ap (λ l. flat_map f (standing_in outer (trees xs)) ++
    (f (record { scope = following; statement = x }) ++ flat_map f l))
    (append-nil (standing_inside following x)))

-- no local, and one local more
pub no_locals : (scope : Scope) → scope ≡ with_locals scope []
no_locals scope = unchanged scope

pub local_more : (outer scope inner : Scope) (locals : List rust.Local) (i : ℕ) (l : rust.Local) →
    i < length locals → l ≡ get_or locals i l → scope ≡ with_locals outer (locals_of (take i locals)) →
    inner ≡ with_locals scope (local_of l ∷ []) → inner ≡ with_locals outer (locals_of (take (i + 1) locals))
local_more outer scope inner locals i l within is so_far then_ =
    then_
    ∙ (ap (λ s. with_locals s (local_of l ∷ [])) so_far
    ∙ (ap (λ (m : List Local). record { layer = outer.layer; locals = m })
    (append_assoc outer.locals (locals_of (take i locals)) (local_of l ∷ []))
    ∙ ap (with_locals outer) (sym (trees_more local_of locals i l within is))))

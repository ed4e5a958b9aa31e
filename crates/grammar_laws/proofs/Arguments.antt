-- Names, arguments and what stands in parentheses after a header's name: where the tokens go together, they are the
-- same, and what follows them goes together too.
use Rattle.std.proofs.Common.{◌≡◌, List, [], ◌∷◌, Option, Some, None, refl, ap}
use Rattle.layer_ast.specs.declared.names.Name.{Name}
use Rattle.layer_words.specs.declared.signs.Sign.TheVariants as sign
use Rattle.layer_ast.specs.Print as print
use Rattle.layer_ast.specs.Printed.{Printed, plain}
use Rattle.layer_ast.specs.Tree.{ExpressionTree, BuiltTree, ArgumentTree, value, content, NamesTree, ArgumentsTree}
use Rattle.layer_ast.specs.Tree.{PushedTree, SizeTree, fixed, sized}
use Rattle.grammar_laws.proofs.Begins.{another, begins, begins_together, Ends, expression_begins, built_begins}
use Rattle.grammar_laws.proofs.Expressions.{expression_once, built_once}
use Rattle.grammar_laws.proofs.Together.{Together, BothAt, name_once}

-- names, each after a comma, before the bracket that ends them
more_names_once : (a b : List Name) (k l : List Printed) →
    Together (print.more_names a (plain sign.RightParen ∷ k)) (print.more_names b (plain sign.RightParen ∷ l)) →
    (a ≡ b) × Together k l
more_names_once [] [] k l (_, _, h) = (refl, h)
more_names_once (n ∷ a) (m ∷ b) k l (_, _, (e, s, h)) =
    let name = name_once n m e s in
    let r = more_names_once a b k l h in
    (λ x. name x ∷ r.0 x, r.1)
more_names_once _ _ k l h = absurd (cc h.0)

pub names_once : (a b : NamesTree) (k l : List Printed) →
    Together (print.names a (plain sign.RightParen ∷ k)) (print.names b (plain sign.RightParen ∷ l)) →
    (a ≡ b) × Together k l
names_once a b k l (e, s, h) =
    let name = name_once a.first b.first e s in
    let r = more_names_once a.rest b.rest k l h in
    (λ x. record { first = name x; rest = r.0 x }, r.1)

pub some_names_once : (a b : Option NamesTree) (k l : List Printed) →
    Together (print.some_names a (plain sign.RightParen ∷ k)) (print.some_names b (plain sign.RightParen ∷ l)) →
    (a ≡ b) × Together k l
some_names_once None None k l (_, _, h) = (refl, h)
some_names_once (Some a) (Some b) k l h = let r = names_once a b k l h in (ap Some r.0, r.1)
some_names_once _ _ k l h = absurd (cc h.0)

-- an expression isn't a message that is no bare name
expression_no_built : (e : ExpressionTree) (b : BuiltTree) (k l : List Printed) →
    Together (print.expression e k) (print.built b l) → ⊥
expression_no_built e b k l h =
    cc (begins_together (print.expression e k) (print.built b l) h, expression_begins e k, built_begins b l)

built_no_expression : (e : ExpressionTree) (b : BuiltTree) (k l : List Printed) →
    Together (print.built b k) (print.expression e l) → ⊥
built_no_expression e b k l h =
    cc (begins_together (print.built b k) (print.expression e l) h, expression_begins e l, built_begins b k)

argument_once : (a b : ArgumentTree) (k l : List Printed) → Ends k → Ends l →
    Together (print.argument a k) (print.argument b l) → (a ≡ b) × Together k l
argument_once (value a) (value b) k l p q h = let r = expression_once a b k l p q h in (ap value r.0, r.1)
argument_once (content a) (content b) k l p q h = let r = built_once a b k l h in (ap content r.0, r.1)
argument_once (value a) (content b) k l p q h = absurd (expression_no_built a b k l h)
argument_once (content a) (value b) k l p q h = absurd (built_no_expression b a k l h)

more_end : (es : List ArgumentTree) (k : List Printed) → Ends (print.more_arguments es (plain sign.RightParen ∷ k))
more_end [] k = tt
more_end (e ∷ es) k = tt

more_arguments_once : (a b : List ArgumentTree) (k l : List Printed) →
    Together (print.more_arguments a (plain sign.RightParen ∷ k)) (print.more_arguments b (plain sign.RightParen ∷ l)) →
    (a ≡ b) × Together k l
more_arguments_once [] [] k l (_, _, h) = (refl, h)
more_arguments_once (e ∷ a) (f ∷ b) k l (_, _, h) =
    let q = argument_once e f (print.more_arguments a (plain sign.RightParen ∷ k))
    (print.more_arguments b (plain sign.RightParen ∷ l)) (more_end a k) (more_end b l) h in
    let r = more_arguments_once a b k l q.1 in
    (λ x. q.0 x ∷ r.0 x, r.1)
more_arguments_once _ _ k l h = absurd (cc h.0)

pub arguments_once : (a b : ArgumentsTree) (k l : List Printed) →
    Together (print.arguments a (plain sign.RightParen ∷ k)) (print.arguments b (plain sign.RightParen ∷ l)) →
    (a ≡ b) × Together k l
arguments_once a b k l h =
    let q = argument_once a.first b.first (print.more_arguments a.rest (plain sign.RightParen ∷ k))
    (print.more_arguments b.rest (plain sign.RightParen ∷ l)) (more_end a.rest k) (more_end b.rest l) h in
    let r = more_arguments_once a.rest b.rest k l q.1 in
    (λ x. record { first = q.0 x; rest = r.0 x }, r.1)

-- an argument doesn't begin with the bracket that ends the arguments
not_closed : (a : ArgumentTree) (k l : List Printed) → begins l ≡ another → Together (print.argument a k) l → ⊥
not_closed (value e) k l p h = cc (begins_together (print.expression e k) l h, expression_begins e k, p)
not_closed (content b) k l p h = cc (begins_together (print.built b k) l h, built_begins b k, p)

closed_not : (a : ArgumentTree) (k l : List Printed) → begins k ≡ another → Together k (print.argument a l) → ⊥
closed_not (value e) k l p h = cc (begins_together k (print.expression e l) h, expression_begins e l, p)
closed_not (content b) k l p h = cc (begins_together k (print.built b l) h, built_begins b l, p)

some_arguments_once : (a b : Option ArgumentsTree) (k l : List Printed) →
    Together (print.some_arguments a (plain sign.RightParen ∷ k)) (print.some_arguments b (plain sign.RightParen ∷ l)) →
    (a ≡ b) × Together k l
some_arguments_once None None k l (_, _, h) = (refl, h)
some_arguments_once (Some a) (Some b) k l h = let r = arguments_once a b k l h in (ap Some r.0, r.1)
some_arguments_once None (Some b) k l h =
    absurd (closed_not b.first (plain sign.RightParen ∷ k) (print.more_arguments b.rest (plain sign.RightParen ∷ l))
    refl h)
some_arguments_once (Some a) None k l h =
    absurd (not_closed a.first (print.more_arguments a.rest (plain sign.RightParen ∷ k)) (plain sign.RightParen ∷ l)
    refl h)

pub pushed_once : (a b : Option PushedTree) (k l : List Printed) →
    Together (print.pushed a (plain sign.Semicolon ∷ k)) (print.pushed b (plain sign.Semicolon ∷ l)) →
    (a ≡ b) × Together k l
pushed_once None None k l (_, _, h) = (refl, h)
pushed_once (Some a) (Some b) k l (_, _, (e, s, (_, _, h))) =
    let r = some_arguments_once a.fields b.fields (plain sign.Semicolon ∷ k) (plain sign.Semicolon ∷ l) h in
    let name = name_once a.name b.name e s in
    (λ x. Some record { name = name x; fields = r.0 x }, r.1.2)
pushed_once _ _ k l h = absurd (cc h.0)

pub size_once : (a b : SizeTree) → (print.size a).token ≡ (print.size b).token →
    BothAt (print.size a).at (print.size b).at → a ≡ b
size_once (fixed at v) (fixed bt w) e s = cc
size_once (sized n) (sized m) e s = ap sized (name_once n m e s)
size_once _ _ e s = cc e

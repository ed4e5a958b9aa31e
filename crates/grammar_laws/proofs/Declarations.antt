-- Declarations and handlers whose tokens go together are the same, and what follows them goes together too.
use Rattle.std.proofs.Common.{◌≡◌, List, [], ◌∷◌, Option, Some, None, refl, ap}
use Rattle.layer_words.specs.declared.sorts.Shape.{Shape}
use Rattle.layer_words.specs.declared.sorts.Shape.TheVariants.{One, Array, Square}
use Rattle.layer_words.specs.declared.signs.Sign.TheVariants as sign
use Rattle.layer_ast.specs.Print as print
use Rattle.layer_ast.specs.Printed.{Printed, plain, ending_sign}
use Rattle.layer_ast.specs.Tree.{ExpressionTree, PoppedTree, Expected, always, common, rare, HandlerTree, SizeTree}
use Rattle.layer_ast.specs.Tree.{fixed, sized, ItemTree, ItemsTree, DeclarationTree, param, int, rows_cell, rows_array}
use Rattle.layer_ast.specs.Tree.{header}
use Rattle.grammar_laws.proofs.Arguments.{names_once, some_names_once, size_once}
use Rattle.grammar_laws.proofs.Begins.{begins_together, declaration_begins, direction_begins}
use Rattle.grammar_laws.proofs.Expressions.{expression_once}
use Rattle.grammar_laws.proofs.Signs.{direction_once, ending_once, sort_once}
use Rattle.grammar_laws.proofs.Statements.{statements_once}
use Rattle.grammar_laws.proofs.Together.{Together, name_once}

expected_once : (a b : Expected) (k l : List Printed) →
    Together (print.expected a (plain sign.LeftBrace ∷ k)) (print.expected b (plain sign.LeftBrace ∷ l)) →
    (a ≡ b) × Together k l
expected_once always always k l (_, _, h) = (refl, h)
expected_once (common a) (common b) k l (_, _, h) =
    let r = expression_once a b (plain sign.LeftBrace ∷ k) (plain sign.LeftBrace ∷ l) tt tt h in
    (ap common r.0, r.1.2)
expected_once rare rare k l (_, _, (_, _, h)) = (refl, h)
expected_once _ _ k l h = absurd (cc h.0)

popped_once : (a b : Option PoppedTree) (c d : Expected) (k l : List Printed) →
    Together (print.popped a (print.expected c (plain sign.LeftBrace ∷ k)))
    (print.popped b (print.expected d (plain sign.LeftBrace ∷ l))) →
    (a ≡ b) × Together (print.expected c (plain sign.LeftBrace ∷ k)) (print.expected d (plain sign.LeftBrace ∷ l))
popped_once None None c d k l h = (refl, h)
popped_once (Some a) (Some b) c d k l (_, _, (e, s, (_, _, h))) =
    let r = some_names_once a.fields b.fields (print.expected c (plain sign.LeftBrace ∷ k))
    (print.expected d (plain sign.LeftBrace ∷ l)) h in
    let name = name_once a.name b.name e s in
    (λ x. Some record { name = name x; fields = r.0 x }, r.1)
popped_once None (Some b) always d k l h = absurd (cc h.0)
popped_once None (Some b) (common e) d k l h = absurd (cc h.0)
popped_once None (Some b) rare d k l h = absurd (cc)
popped_once (Some a) None c always k l h = absurd (cc h.0)
popped_once (Some a) None c (common e) k l h = absurd (cc h.0)
popped_once (Some a) None c rare k l h = absurd (cc)

handler_once : (a b : HandlerTree) (k l : List Printed) →
    Together (print.handler a k) (print.handler b l) → (a ≡ b) × Together k l
handler_once a b k l (direction_same, at, (kind_same, _, (_, _, h))) =
    let direction = direction_once a.direction b.direction direction_same in
    let what : a.kind ≡ b.kind = cc kind_same in
    let n = names_once a.names b.names (print.popped a.popped (print.expected a.expected (print.block a.block k)))
    (print.popped b.popped (print.expected b.expected (print.block b.block l))) h in
    let inside = print.statements a.block (plain sign.RightBrace ∷ k) in
    let below = print.statements b.block (plain sign.RightBrace ∷ l) in
    let p = popped_once a.popped b.popped a.expected b.expected inside below n.1 in
    let c = expected_once a.expected b.expected inside below p.1 in
    let r = statements_once a.block b.block k l c.1 in (
      λ x. record {
        at = at x;
        direction = direction x;
        kind = what x;
        names = n.0 x;
        popped = p.0 x;
        expected = c.0 x;
        block = r.0 x;
      },
      r.1,
    )

-- handlers and the brace that ends their layer
abbrev pub inside : List HandlerTree → List Printed → List Printed
inside hs k = print.handlers hs (plain sign.RightBrace ∷ k)

pub handlers_once : (a b : List HandlerTree) (k l : List Printed) →
    Together (inside a k) (inside b l) → (a ≡ b) × Together k l
handlers_once [] [] k l (_, _, h) = (refl, h)
handlers_once (x ∷ a) (y ∷ b) k l h =
    let q = handler_once x y (inside a k) (inside b l) h in
    let r = handlers_once a b k l q.1 in
    (λ x. q.0 x ∷ r.0 x, r.1)
handlers_once [] (y ∷ b) k l h =
    absurd (cc (begins_together (inside [] k) (inside (y ∷ b) l) h, direction_begins y.direction))
handlers_once (x ∷ a) [] k l h =
    absurd (cc (begins_together (inside (x ∷ a) k) (inside [] l) h, direction_begins x.direction))

initial_once : (a b : Option ExpressionTree) (k l : List Printed) →
    Together (print.initial a (plain sign.Semicolon ∷ k)) (print.initial b (plain sign.Semicolon ∷ l)) →
    (a ≡ b) × Together k l
initial_once None None k l (_, _, h) = (refl, h)
initial_once (Some a) (Some b) k l (_, _, h) =
    let r = expression_once a b (plain sign.Semicolon ∷ k) (plain sign.Semicolon ∷ l) tt tt h in
    (ap Some r.0, r.1.2)
initial_once _ _ k l h = absurd (cc h.0)

-- an initial value, where there is one, and the end of the declaration
abbrev ended : Option ExpressionTree → List Printed → List Printed
ended v k = print.initial v (plain sign.Semicolon ∷ k)

shape_once : (a b : Shape) (v w : Option ExpressionTree) (k l : List Printed) →
    Together (print.shape a (ended v k)) (print.shape b (ended w l)) → (a ≡ b) × Together (ended v k) (ended w l)
shape_once One One v w k l h = (refl, h)
shape_once Array Array v w k l (_, _, (_, _, (_, _, h))) = (refl, h)
shape_once Square Square v w k l (_, _, (_, _, (_, _, (_, _, (_, _, h))))) = (refl, h)
shape_once Array Square v w k l (_, _, (_, _, (e, _, h))) = absurd (cc e)
shape_once Square Array v w k l (_, _, (_, _, (e, _, h))) = absurd (cc e)
shape_once One Array None w k l h = absurd (cc h.0)
shape_once One Array (Some v) w k l h = absurd (cc h.0)
shape_once One Square None w k l h = absurd (cc h.0)
shape_once One Square (Some v) w k l h = absurd (cc h.0)
shape_once Array One v None k l h = absurd (cc h.0)
shape_once Array One v (Some w) k l h = absurd (cc h.0)
shape_once Square One v None k l h = absurd (cc h.0)
shape_once Square One v (Some w) k l h = absurd (cc h.0)

item_once : (a b : ItemTree) (k l : List Printed) →
    Together (print.item a k) (print.item b l) → (a ≡ b) × Together k l
item_once a b k l (e, s, (_, _, (sort_same, _, h))) =
    let name = name_once a.name b.name e s in
    let sort = sort_once a.sort b.sort sort_same in
    (λ x. record { name = name x; sort = sort x }, h)

more_items_once : (a b : List ItemTree) (k l : List Printed) →
    Together (print.more_items a (plain sign.RightParen ∷ k)) (print.more_items b (plain sign.RightParen ∷ l)) →
    (a ≡ b) × Together k l
more_items_once [] [] k l (_, _, h) = (refl, h)
more_items_once (i ∷ a) (j ∷ b) k l (_, _, h) =
    let q = item_once i j (print.more_items a (plain sign.RightParen ∷ k))
    (print.more_items b (plain sign.RightParen ∷ l)) h in
    let r = more_items_once a b k l q.1 in
    (λ x. q.0 x ∷ r.0 x, r.1)
more_items_once _ _ k l h = absurd (cc h.0)

rows_once : (a b : SizeTree) (is js : ItemsTree) (k l : List Printed) →
    Together (print.rows a is k) (print.rows b js l) → (a ≡ b) × (is ≡ js) × Together k l
rows_once a b is js k l (_, _, (e, s, (_, _, (_, _, (_, _, h))))) =
    let size = size_once a b e s in
    let q = item_once is.first js.first (print.more_items is.rest (plain sign.RightParen ∷ plain sign.Semicolon ∷ k))
    (print.more_items js.rest (plain sign.RightParen ∷ plain sign.Semicolon ∷ l)) h in
    let r = more_items_once is.rest js.rest (plain sign.Semicolon ∷ k) (plain sign.Semicolon ∷ l) q.1 in
    (size, λ x. record { first = q.0 x; rest = r.0 x }, r.1.2)

declaration_once : (a b : DeclarationTree) (k l : List Printed) →
    Together (print.declaration a k) (print.declaration b l) → (a ≡ b) × Together k l
declaration_once (param at n v) (param bt m w) k l (_, at_same, (e, s, (_, _, (number, _, (_, _, h))))) =
    let name = name_once n m e s in
    let value : v ≡ w = cc number in
    (λ x. param (at_same x) (name x) (value x), h)
declaration_once (int at n s v) (int bt m t w) k l (_, at_same, (_, _, (e, p, h))) =
    let name = name_once n m e p in
    let q = shape_once s t v w k l h in
    let r = initial_once v w k l q.1 in
    (λ x. int (at_same x) (name x) (q.0 x) (r.0 x), r.1)
declaration_once (rows_cell at n c is) (rows_cell bt m d js) k l (_, at_same, (_, _, (e, p, h))) =
    let name = name_once n m e p in
    let r = rows_once c d is js k l h in
    (λ x. rows_cell (at_same x) (name x) (r.0 x) (r.1 x), r.2)
declaration_once (rows_array at n c is) (rows_array bt m d js) k l
    (_, at_same, (_, _, (e, p, (_, _, (_, _, (_, _, h)))))) =
    let name = name_once n m e p in
    let r = rows_once c d is js k l h in
    (λ x. rows_array (at_same x) (name x) (r.0 x) (r.1 x), r.2)
declaration_once (header at n a ea) (header bt m b eb) k l (_, at_same, (e, p, (_, _, h))) =
    let name = name_once n m e p in
    let r = some_names_once a b (plain (ending_sign ea) ∷ plain sign.Semicolon ∷ k)
    (plain (ending_sign eb) ∷ plain sign.Semicolon ∷ l) h in
    let ending = ending_once ea eb r.1.0 in
    (λ x. header (at_same x) (name x) (r.0 x) (ending x), r.1.2.2)
declaration_once (rows_cell at n (fixed c v) is) (rows_array bt m d js) k l (_, _, (_, _, (_, _, (_, _, (e, _, h))))) =
    absurd (cc e)
declaration_once (rows_cell at n (sized c) is) (rows_array bt m d js) k l (_, _, (_, _, (_, _, (_, _, (e, _, h))))) =
    absurd (cc e)
declaration_once (rows_array at n c is) (rows_cell bt m (fixed d v) js) k l (_, _, (_, _, (_, _, (_, _, (e, _, h))))) =
    absurd (cc e)
declaration_once (rows_array at n c is) (rows_cell bt m (sized d) js) k l (_, _, (_, _, (_, _, (_, _, (e, _, h))))) =
    absurd (cc e)
declaration_once (int at n s v) (rows_cell bt m d js) k l (_, _, (e, _, h)) = absurd (cc e)
declaration_once (int at n s v) (rows_array bt m d js) k l (_, _, (e, _, h)) = absurd (cc e)
declaration_once (rows_cell at n c is) (int bt m t w) k l (_, _, (e, _, h)) = absurd (cc e)
declaration_once (rows_array at n c is) (int bt m t w) k l (_, _, (e, _, h)) = absurd (cc e)
declaration_once _ _ k l h = absurd (cc)

-- a declaration doesn't begin as a handler does, nor with the brace that ends the layer
not_declared : (hs : List HandlerTree) (d : DeclarationTree) (k l : List Printed) →
    Together (print.declaration d k) (inside hs l) → ⊥
not_declared [] d k l h =
    cc (begins_together (print.declaration d k) (inside [] l) h, declaration_begins d k)
not_declared (x ∷ hs) d k l h =
    cc (
      begins_together (print.declaration d k) (inside (x ∷ hs) l) h,
      declaration_begins d k,
      direction_begins x.direction,
    )

declared_not : (hs : List HandlerTree) (d : DeclarationTree) (k l : List Printed) →
    Together (inside hs k) (print.declaration d l) → ⊥
declared_not [] d k l h =
    cc (begins_together (inside [] k) (print.declaration d l) h, declaration_begins d l)
declared_not (x ∷ hs) d k l h =
    cc (
      begins_together (inside (x ∷ hs) k) (print.declaration d l) h,
      declaration_begins d l,
      direction_begins x.direction,
    )

pub declarations_once : (a b : List DeclarationTree) (f g : List HandlerTree) (k l : List Printed) →
    Together (print.declarations a (inside f k)) (print.declarations b (inside g l)) →
    (a ≡ b) × Together (inside f k) (inside g l)
declarations_once [] [] f g k l h = (refl, h)
declarations_once (x ∷ a) (y ∷ b) f g k l h =
    let q = declaration_once x y (print.declarations a (inside f k)) (print.declarations b (inside g l)) h in
    let r = declarations_once a b f g k l q.1 in
    (λ x. q.0 x ∷ r.0 x, r.1)
declarations_once [] (y ∷ b) f g k l h = absurd (declared_not f y k (print.declarations b (inside g l)) h)
declarations_once (x ∷ a) [] f g k l h = absurd (not_declared g x (print.declarations a (inside f k)) l h)

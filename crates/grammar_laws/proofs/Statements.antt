-- Statements whose tokens go together are the same, and what follows them goes together too.
use Rattle.std.proofs.Common.{◌≡◌, List, ◌∷◌, Option, Some, None, refl, sym, ap, subst}
use Rattle.layer_words.specs.declared.sorts.Likely.{Likely}
use Rattle.layer_words.specs.declared.sorts.Likely.TheVariants.{First, Else, Two}
use Rattle.layer_words.specs.declared.signs.Sign.TheVariants as sign
use Rattle.layer_ast.specs.Print as print
use Rattle.layer_ast.specs.Printed.{Printed, plain}
use Rattle.layer_ast.specs.Tree.{ExpressionTree, StatementTree, bind, set, set_square, push, take, when, choose, each}
use Rattle.layer_ast.specs.Tree.{emit, StatementTrees, none, more}
use Rattle.grammar_laws.proofs.Begins.{begins_together, Over, NoOtherwise, expression_begins, statement_begins}
use Rattle.grammar_laws.proofs.Arguments.{names_once, arguments_once, pushed_once, size_once}
use Rattle.grammar_laws.proofs.Expressions.{expression_once, queue_once}
use Rattle.grammar_laws.proofs.Signs.{direction_once, no_direction}
use Rattle.grammar_laws.proofs.Together.{Together, name_once}

-- an assignment to a cell or to an element of an array, which isn't one to an element of a square array
abbrev ends : List Printed → List Printed
ends k = plain sign.Semicolon ∷ k

abbrev assign : ExpressionTree → List Printed → List Printed
assign v k = plain sign.Assign ∷ print.expression v (ends k)

abbrev column : ExpressionTree → ExpressionTree → List Printed → List Printed
column j v k =
    plain sign.RightBracket ∷ plain sign.LeftBracket ∷ print.expression j (plain sign.RightBracket ∷ assign v k)

index_once : (a b : Option ExpressionTree) (v w : ExpressionTree) (k l : List Printed) →
    Together (print.index a (assign v k)) (print.index b (assign w l)) → (a ≡ b) × Together (assign v k) (assign w l)
index_once None None v w k l h = (refl, h)
index_once (Some a) (Some b) v w k l (_, _, h) =
    let r = expression_once a b (plain sign.RightBracket ∷ assign v k) (plain sign.RightBracket ∷ assign w l) tt tt h in
    (ap Some r.0, r.1.2)
index_once _ _ v w k l h = absurd (cc h.0)

index_no_square : (a : Option ExpressionTree) (v i j w : ExpressionTree) (k l : List Printed) →
    Together (print.index a (assign v k)) (plain sign.LeftBracket ∷ print.expression i (column j w l)) → ⊥
index_no_square None v i j w k l h = cc h.0
index_no_square (Some a) v i j w k l (_, _, h) =
    let r = expression_once a i (plain sign.RightBracket ∷ assign v k) (column j w l) tt tt h in cc r.1.2.0

square_no_index : (a : Option ExpressionTree) (v i j w : ExpressionTree) (k l : List Printed) →
    Together (plain sign.LeftBracket ∷ print.expression i (column j w k)) (print.index a (assign v l)) → ⊥
square_no_index None v i j w k l h = cc h.0
square_no_index (Some a) v i j w k l (_, _, h) =
    let r = expression_once i a (column j w k) (plain sign.RightBracket ∷ assign v l) tt tt h in cc r.1.2.0

-- conditions that are predicted otherwise are other conditions
likely_once : (a b : Likely) (c d : ExpressionTree) (k l : List Printed) →
    Together (print.likely a (print.expression c (plain sign.LeftBrace ∷ k)))
    (print.likely b (print.expression d (plain sign.LeftBrace ∷ l))) →
    (a ≡ b) × (c ≡ d) × Together k l
likely_once First First c d k l h =
    let r = expression_once c d (plain sign.LeftBrace ∷ k) (plain sign.LeftBrace ∷ l) tt tt h in (refl, r.0, r.1.2)
likely_once Else Else c d k l (_, _, h) =
    let r = expression_once c d (plain sign.LeftBrace ∷ k) (plain sign.LeftBrace ∷ l) tt tt h in (refl, r.0, r.1.2)
likely_once Two Two c d k l (_, _, h) =
    let r = expression_once c d (plain sign.LeftBrace ∷ k) (plain sign.LeftBrace ∷ l) tt tt h in (refl, r.0, r.1.2)
likely_once First Else c d k l h =
    let below = print.expression d (plain sign.LeftBrace ∷ l) in
    let above = print.expression c (plain sign.LeftBrace ∷ k) in
    absurd (cc (begins_together above (plain sign.Rare ∷ below) h, expression_begins c (plain sign.LeftBrace ∷ k)))
likely_once First Two c d k l h =
    let below = print.expression d (plain sign.LeftBrace ∷ l) in
    let above = print.expression c (plain sign.LeftBrace ∷ k) in
    absurd (cc (begins_together above (plain sign.Two ∷ below) h, expression_begins c (plain sign.LeftBrace ∷ k)))
likely_once Else First c d k l h =
    let below = print.expression d (plain sign.LeftBrace ∷ l) in
    let above = print.expression c (plain sign.LeftBrace ∷ k) in
    absurd (cc (begins_together (plain sign.Rare ∷ above) below h, expression_begins d (plain sign.LeftBrace ∷ l)))
likely_once Two First c d k l h =
    let below = print.expression d (plain sign.LeftBrace ∷ l) in
    let above = print.expression c (plain sign.LeftBrace ∷ k) in
    absurd (cc (begins_together (plain sign.Two ∷ above) below h, expression_begins d (plain sign.LeftBrace ∷ l)))
likely_once Else Two c d k l h = absurd (cc h.0)
likely_once Two Else c d k l h = absurd (cc h.0)

-- a statement, or the brace after the last one, isn't another way of the condition before it
over : (s : StatementTrees) (k : List Printed) → Over (print.statements s (plain sign.RightBrace ∷ k))
over none k = tt
over (more s rest) k =
    subst NoOtherwise (sym (statement_begins s (print.statements rest (plain sign.RightBrace ∷ k)))) tt

-- what follows a statement isn't another way
no_otherwise : (k l : List Printed) → Over k → Together k (plain sign.Else ∷ l) → ⊥
no_otherwise k l ok h = subst NoOtherwise (begins_together k (plain sign.Else ∷ l) h) ok

otherwise_no : (k l : List Printed) → Over l → Together (plain sign.Else ∷ k) l → ⊥
otherwise_no k l ok h = subst NoOtherwise (sym (begins_together (plain sign.Else ∷ k) l h)) ok

-- a statement doesn't begin with the brace that ends the statements
not_over : (s : StatementTree) (k l : List Printed) → Together (print.statement s k) (plain sign.RightBrace ∷ l) → ⊥
not_over s k l h = cc (begins_together (print.statement s k) (plain sign.RightBrace ∷ l) h, statement_begins s k)

over_not : (s : StatementTree) (k l : List Printed) → Together (plain sign.RightBrace ∷ k) (print.statement s l) → ⊥
over_not s k l h = cc (begins_together (plain sign.RightBrace ∷ k) (print.statement s l) h, statement_begins s l)

-- statements and the brace after them
abbrev inside : StatementTrees → List Printed → List Printed
inside b k = print.statements b (plain sign.RightBrace ∷ k)

-- the other way of a condition, with the brace after it
abbrev otherwise : StatementTrees → List Printed → List Printed
otherwise b k = plain sign.Else ∷ plain sign.LeftBrace ∷ inside b k

mutual
  statement_once : (a b : StatementTree) (k l : List Printed) → Over k → Over l →
      Together (print.statement a k) (print.statement b l) → (a ≡ b) × Together k l
  statement_once (bind at n v) (bind bt m w) k l _ _ (_, at_same, (e, s, (_, _, h))) =
      let name = name_once n m e s in
      let r = expression_once v w (ends k) (ends l) tt tt h in
      (λ x. bind (at_same x) (name x) (r.0 x), r.1.2)
  statement_once (set at n i v) (set bt m j w) k l _ _ (_, at_same, (e, s, h)) =
      let name = name_once n m e s in
      let q = index_once i j v w k l h in
      let r = expression_once v w (ends k) (ends l) tt tt q.1.2 in
      (λ x. set (at_same x) (name x) (q.0 x) (r.0 x), r.1.2)
  statement_once (set_square at n i j v) (set_square bt m f g w) k l _ _ (_, at_same, (e, s, (_, _, h))) =
      let name = name_once n m e s in
      let p = expression_once i f (column j v k) (column g w l) tt tt h in
      let q = expression_once j g (plain sign.RightBracket ∷ assign v k) (plain sign.RightBracket ∷ assign w l) tt tt
      p.1.2.2 in
      let r = expression_once v w (ends k) (ends l) tt tt q.1.2.2 in
      (λ x. set_square (at_same x) (name x) (p.0 x) (q.0 x) (r.0 x), r.1.2)
  statement_once (push at q es o) (push bt p fs u) k l _ _ (_, at_same, h) =
      let c = queue_once q p (plain sign.LeftParen ∷ print.arguments es (plain sign.RightParen ∷ otherwise o k))
      (plain sign.LeftParen ∷ print.arguments fs (plain sign.RightParen ∷ otherwise u l)) tt tt h in
      let d = arguments_once es fs (otherwise o k) (otherwise u l) c.1.2 in
      let r = statements_once o u k l d.1.2.2 in
      (λ x. push (at_same x) (c.0 x) (d.0 x) (r.0 x), r.1)
  statement_once (take at q ns b o) (take bt p ms c u) k l _ _ (_, at_same, h) =
      let d = queue_once q p
      (plain sign.LeftParen ∷ print.names ns (plain sign.RightParen ∷ plain sign.LeftBrace ∷ inside b (otherwise o k)))
      (plain sign.LeftParen ∷ print.names ms (plain sign.RightParen ∷ plain sign.LeftBrace ∷ inside c (otherwise u l)))
      tt tt h in
      let f = names_once ns ms (plain sign.LeftBrace ∷ inside b (otherwise o k))
      (plain sign.LeftBrace ∷ inside c (otherwise u l)) d.1.2 in
      let g = statements_once b c (otherwise o k) (otherwise u l) f.1.2 in
      let r = statements_once o u k l g.1.2.2 in
      (λ x. take (at_same x) (d.0 x) (f.0 x) (g.0 x) (r.0 x), r.1)
  statement_once (when at a c b) (when bt d e f) k l _ _ (_, at_same, h) =
      let p = likely_once a d c e (inside b k) (inside f l) h in
      let r = statements_once b f k l p.2 in
      (λ x. when (at_same x) (p.0 x) (p.1 x) (r.0 x), r.1)
  statement_once (choose at a c b o) (choose bt d e f u) k l _ _ (_, at_same, h) =
      let p = likely_once a d c e (inside b (otherwise o k)) (inside f (otherwise u l)) h in
      let q = statements_once b f (otherwise o k) (otherwise u l) p.2 in
      let r = statements_once o u k l q.1.2.2 in
      (λ x. choose (at_same x) (p.0 x) (p.1 x) (q.0 x) (r.0 x), r.1)
  statement_once (each at n e c b) (each bt m f d g) k l _ _ (_, at_same, (i, s, (_, _, h))) =
      let name = name_once n m i s in
      let p = expression_once e f (plain sign.Max ∷ print.size c ∷ plain sign.LeftBrace ∷ inside b k)
      (plain sign.Max ∷ print.size d ∷ plain sign.LeftBrace ∷ inside g l) tt tt h in
      let size = size_once c d p.1.2.0 p.1.2.1 in
      let r = statements_once b g k l p.1.2.2.2 in
      (λ x. each (at_same x) (name x) (p.0 x) (size x) (r.0 x), r.1)
  statement_once (emit at d c es p) (emit bt f g fs q) k l _ _ (direction_same, at_same, (kind_same, _, (_, _, h))) =
      let a = arguments_once es fs (print.pushed p (ends k)) (print.pushed q (ends l)) h in
      let b = pushed_once p q k l a.1 in
      let direction = direction_once d f direction_same in
      let what : c ≡ g = cc kind_same in
      (λ x. emit (at_same x) (direction x) (what x) (a.0 x) (b.0 x), b.1)
  statement_once (set at n i v) (set_square bt m f g w) k l _ _ (_, _, (_, _, h)) =
      absurd (index_no_square i v f g w k l h)
  statement_once (set_square at n i j v) (set bt m f w) k l _ _ (_, _, (_, _, h)) =
      absurd (square_no_index f w i j v k l h)
  statement_once (when at a c b) (choose bt d e f u) k l ok _ (_, _, h) =
      let p = likely_once a d c e (inside b k) (inside f (otherwise u l)) h in
      let r = statements_once b f k (otherwise u l) p.2 in
      absurd (no_otherwise k (plain sign.LeftBrace ∷ inside u l) ok r.1)
  statement_once (choose at a c b o) (when bt d e f) k l _ ok (_, _, h) =
      let p = likely_once a d c e (inside b (otherwise o k)) (inside f l) h in
      let r = statements_once b f (otherwise o k) l p.2 in
      absurd (otherwise_no (plain sign.LeftBrace ∷ inside o k) l ok r.1)
  statement_once (emit at d c es p) _ k l _ _ h = absurd (no_direction d _ tt h.0)
  statement_once _ (emit at d c es p) k l _ _ h = absurd (no_direction d _ tt (sym h.0))
  statement_once _ _ k l _ _ h = absurd (cc h.0)

  pub statements_once : (a b : StatementTrees) (k l : List Printed) →
      Together (print.statements a (plain sign.RightBrace ∷ k)) (print.statements b (plain sign.RightBrace ∷ l)) →
      (a ≡ b) × Together k l
  statements_once none none k l (_, _, h) = (refl, h)
  statements_once (more s a) (more t b) k l h =
      let q = statement_once s t (inside a k) (inside b l) (over a k) (over b l) h in
      let r = statements_once a b k l q.1 in
      (λ x. more (q.0 x) (r.0 x), r.1)
  statements_once none (more t b) k l h = absurd (over_not t k (inside b l) h)
  statements_once (more s a) none k l h = absurd (not_over s (inside a k) l h)

-- Expressions, queues and messages whose tokens go together are the same, and what follows them goes together too.
use Rattle.std.proofs.Common.{◌≡◌, List, ◌∷◌, sym, ap, subst}
use Rattle.layer_ast.specs.declared.names.Name.{Name}
use Rattle.layer_words.specs.declared.signs.Sign.TheVariants as sign
use Rattle.layer_ast.specs.Print as print
use Rattle.layer_ast.specs.Printed.{Printed, plain, name}
use Rattle.layer_words.specs.Signs.{operator_sign}
use Rattle.layer_ast.specs.Tree.{ExpressionTree, number, me, members, ltime, named, element, square, rows, item, size}
use Rattle.layer_ast.specs.Tree.{binary, apply, pick, QueueTree, queue, queue_at, MessageTree, bare, built, BuiltTree}
use Rattle.layer_ast.specs.Tree.{nothing, held, cut, tail, join}
use Rattle.grammar_laws.proofs.Begins.{begins_together, NoIndex, Ends, built_begins}
use Rattle.grammar_laws.proofs.Signs.{function_once, no_function, operator_once, operator_ends}
use Rattle.grammar_laws.proofs.Together.{Together, name_once}

-- what follows an expression isn't an index
pub no_index : (k l : List Printed) → Ends k → Together k (plain sign.LeftBracket ∷ l) → ⊥
no_index k l ok h = subst NoIndex (begins_together k (plain sign.LeftBracket ∷ l) h) ok

-- nor in the other of the two
pub index_no : (k l : List Printed) → Ends l → Together (plain sign.LeftBracket ∷ k) l → ⊥
index_no k l ok h = subst NoIndex (sym (begins_together (plain sign.LeftBracket ∷ k) l h)) ok

-- a name isn't a message of another form
no_built : (n : Name) (b : BuiltTree) (k l : List Printed) → Together (name n ∷ k) (print.built b l) → ⊥
no_built n b k l h = cc (begins_together (name n ∷ k) (print.built b l) h, built_begins b l)

built_no : (n : Name) (b : BuiltTree) (k l : List Printed) → Together (print.built b k) (name n ∷ l) → ⊥
built_no n b k l h = cc (begins_together (print.built b k) (name n ∷ l) h, built_begins b k)

-- a bracket or a comma before what follows
abbrev close : List Printed → List Printed
close k = plain sign.RightParen ∷ k

abbrev shut : List Printed → List Printed
shut k = plain sign.RightBracket ∷ k

abbrev comma : List Printed → List Printed
comma k = plain sign.Comma ∷ k

mutual
  pub expression_once : (a b : ExpressionTree) (k l : List Printed) → Ends k → Ends l →
      Together (print.expression a k) (print.expression b l) → (a ≡ b) × Together k l
  expression_once (number at v) (number bt w) k l _ _ (e, s, h) = (cc, h)
  expression_once (me at) (me bt) k l _ _ (e, s, h) = (ap me s, h)
  expression_once (members at) (members bt) k l _ _ (e, s, h) = (ap members s, h)
  expression_once (ltime at) (ltime bt) k l _ _ (e, s, h) = (ap ltime s, h)
  expression_once (named n) (named m) k l _ _ (e, s, h) = (ap named (name_once n m e s), h)
  expression_once (element n i) (element m j) k l _ _ (e, s, (_, _, h)) =
      let n_same = name_once n m e s in
      let r = expression_once i j (shut k) (shut l) tt tt h in
      (λ x. element (n_same x) (r.0 x), r.1.2)
  expression_once (square n a b) (square m c d) k l _ _ (e, s, (_, _, h)) =
      let n_same = name_once n m e s in
      let r = expression_once a c (shut (plain sign.LeftBracket ∷ print.expression b (shut k)))
      (shut (plain sign.LeftBracket ∷ print.expression d (shut l))) tt tt h in
      let q = expression_once b d (shut k) (shut l) tt tt r.1.2.2 in
      (λ x. square (n_same x) (r.0 x) (q.0 x), q.1.2)
  expression_once (rows at q) (rows bt p) k l _ _ (_, at_same, (_, _, h)) =
      let r = queue_once q p (close k) (close l) tt tt h in
      (λ x. rows (at_same x) (r.0 x), r.1.2)
  expression_once (item at q i n) (item bt p j m) k l _ _ (_, at_same, (_, _, h)) =
      let r = queue_once q p (comma (print.expression i (close (plain sign.Dot ∷ name n ∷ k))))
      (comma (print.expression j (close (plain sign.Dot ∷ name m ∷ l)))) tt tt h in
      let t = expression_once i j (close (plain sign.Dot ∷ name n ∷ k)) (close (plain sign.Dot ∷ name m ∷ l)) tt tt
      r.1.2 in
      let n_same = name_once n m t.1.2.2.0 t.1.2.2.1 in
      (λ x. item (at_same x) (r.0 x) (t.0 x) (n_same x), t.1.2.2.2)
  expression_once (size at m) (size bt n) k l _ _ (_, at_same, (_, _, h)) =
      let r = message_once m n (close k) (close l) h in
      (λ x. size (at_same x) (r.0 x), r.1.2)
  expression_once (binary at a o b) (binary bt c p d) k l _ _ (_, at_same, h) =
      let r = expression_once a c (plain (operator_sign o) ∷ print.expression b (close k))
      (plain (operator_sign p) ∷ print.expression d (close l)) (operator_ends o) (operator_ends p) h in
      let q = expression_once b d (close k) (close l) tt tt r.1.2 in
      let operator = operator_once o p r.1.0 in
      (λ x. binary (at_same x) (r.0 x) (operator x) (q.0 x), q.1.2)
  expression_once (apply at f a) (apply bt g b) k l _ _ (f_same, at_same, (_, _, h)) =
      let function = function_once f g f_same in
      let r = expression_once a b (close k) (close l) tt tt h in
      (λ x. apply (at_same x) (function x) (r.0 x), r.1.2)
  expression_once (pick at a b c) (pick bt d e f) k l _ _ (_, at_same, (_, _, h)) =
      let r = expression_once a d (comma (print.expression b (comma (print.expression c (close k)))))
      (comma (print.expression e (comma (print.expression f (close l))))) tt tt h in
      let q = expression_once b e (comma (print.expression c (close k))) (comma (print.expression f (close l))) tt tt
      r.1.2 in
      let t = expression_once c f (close k) (close l) tt tt q.1.2 in
      (λ x. pick (at_same x) (r.0 x) (q.0 x) (t.0 x), t.1.2)
  expression_once (named n) (element m j) k l ok _ (_, _, h) = absurd (no_index k _ ok h)
  expression_once (named n) (square m i j) k l ok _ (_, _, h) = absurd (no_index k _ ok h)
  expression_once (element n i) (named m) k l _ ok (_, _, h) = absurd (index_no _ l ok h)
  expression_once (square n i j) (named m) k l _ ok (_, _, h) = absurd (index_no _ l ok h)
  expression_once (element n a) (square m c d) k l ok _ (_, _, (_, _, h)) =
      let r = expression_once a c (shut k) (shut (plain sign.LeftBracket ∷ print.expression d (shut l))) tt tt h in
      absurd (no_index k _ ok r.1.2)
  expression_once (square n a b) (element m c) k l _ ok (_, _, (_, _, h)) =
      let r = expression_once a c (shut (plain sign.LeftBracket ∷ print.expression b (shut k))) (shut l) tt tt h in
      absurd (index_no _ l ok r.1.2)
  expression_once (apply at f a) _ k l _ _ h = absurd (no_function f _ tt h.0)
  expression_once _ (apply at f a) k l _ _ h = absurd (no_function f _ tt (sym h.0))
  expression_once _ _ k l _ _ h = absurd (cc h.0)

  pub queue_once : (a b : QueueTree) (k l : List Printed) → Ends k → Ends l →
      Together (print.queue a k) (print.queue b l) → (a ≡ b) × Together k l
  queue_once (queue n) (queue m) k l _ _ (e, s, h) = (ap queue (name_once n m e s), h)
  queue_once (queue_at n i) (queue_at m j) k l _ _ (e, s, (_, _, h)) =
      let n_same = name_once n m e s in
      let r = expression_once i j (shut k) (shut l) tt tt h in
      (λ x. queue_at (n_same x) (r.0 x), r.1.2)
  queue_once (queue n) (queue_at m j) k l ok _ (_, _, h) = absurd (no_index k _ ok h)
  queue_once (queue_at n i) (queue m) k l _ ok (_, _, h) = absurd (index_no _ l ok h)

  pub message_once : (a b : MessageTree) (k l : List Printed) →
      Together (print.message a k) (print.message b l) → (a ≡ b) × Together k l
  message_once (bare n) (bare m) k l (e, s, h) = (ap bare (name_once n m e s), h)
  message_once (built a) (built b) k l h = let r = built_once a b k l h in (ap built r.0, r.1)
  message_once (bare n) (built b) k l h = absurd (no_built n b k l h)
  message_once (built a) (bare m) k l h = absurd (built_no m a k l h)

  pub built_once : (a b : BuiltTree) (k l : List Printed) →
      Together (print.built a k) (print.built b l) → (a ≡ b) × Together k l
  built_once (nothing at) (nothing bt) k l (e, s, h) = (ap nothing s, h)
  built_once (held at q i) (held bt p j) k l (_, at_same, (_, _, h)) =
      let r = queue_once q p (comma (print.expression i (close k))) (comma (print.expression j (close l))) tt tt h in
      let t = expression_once i j (close k) (close l) tt tt r.1.2 in
      (λ x. held (at_same x) (r.0 x) (t.0 x), t.1.2)
  built_once (cut at m a b) (cut bt n c d) k l (_, at_same, (_, _, h)) =
      let r = message_once m n (comma (print.expression a (comma (print.expression b (close k)))))
      (comma (print.expression c (comma (print.expression d (close l))))) h in
      let q = expression_once a c (comma (print.expression b (close k))) (comma (print.expression d (close l))) tt tt
      r.1.2 in
      let t = expression_once b d (close k) (close l) tt tt q.1.2 in
      (λ x. cut (at_same x) (r.0 x) (q.0 x) (t.0 x), t.1.2)
  built_once (tail at m a) (tail bt n c) k l (_, at_same, (_, _, h)) =
      let r = message_once m n (comma (print.expression a (close k))) (comma (print.expression c (close l))) h in
      let t = expression_once a c (close k) (close l) tt tt r.1.2 in
      (λ x. tail (at_same x) (r.0 x) (t.0 x), t.1.2)
  built_once (join at a b) (join bt c d) k l (_, at_same, (_, _, h)) =
      let r = message_once a c (comma (print.message b (close k))) (comma (print.message d (close l))) h in
      let t = message_once b d (close k) (close l) r.1.2 in
      (λ x. join (at_same x) (r.0 x) (t.0 x), t.1.2)
  built_once _ _ k l h = absurd (cc h.0)

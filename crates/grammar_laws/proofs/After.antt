-- Where printed tokens k go on to l, a part of a layer before k goes on to it before l.
use Rattle.std.proofs.Common.{◌≡◌, ℕ, zero, suc, List, [], ◌∷◌, ◌++◌, Option, Some, None, refl, sym, subst}
use Rattle.layer_ast.specs.declared.names.Name.{Name}
use Rattle.layer_words.specs.declared.events.Dir.{Dir}
use Rattle.layer_words.specs.declared.events.Dir.TheVariants.{Up, Down}
use Rattle.layer_ast.specs.declared.tokens.Lexed.{Lexed}
use Rattle.layer_words.specs.declared.signs.Sign.TheVariants as sign
use Rattle.layer_ast.specs.declared.tokens.Token.TheVariants as token
use Rattle.layer_ast.specs.declared.syntax.Ending.{Ending}
use Rattle.layer_ast.specs.declared.syntax.Ending.TheVariants.{Passes, Ends}
use Rattle.layer_words.specs.declared.operators.Function.{Function}
use Rattle.layer_words.specs.declared.operators.Function.TheVariants.{Not, Bit, Count, Lowest}
use Rattle.layer_words.specs.declared.sorts.Likely.{Likely}
use Rattle.layer_words.specs.declared.sorts.Likely.TheVariants as likely_word
use Rattle.layer_words.specs.declared.operators.Operator.{Operator}
use Rattle.layer_words.specs.declared.operators.Operator.TheVariants.{Add, Subtract, Multiply, Equal, NotEqual, Less}
use Rattle.layer_words.specs.declared.operators.Operator.TheVariants.{LessOrEqual, Greater, GreaterOrEqual, And, Or}
use Rattle.layer_words.specs.declared.operators.Operator.TheVariants.{BitAnd}
use Rattle.layer_words.specs.declared.operators.Operator.TheVariants.{BitOr, BitXor}
use Rattle.layer_words.specs.declared.sorts.Shape.{Shape}
use Rattle.layer_words.specs.declared.sorts.Shape.TheVariants.{One, Array, Square}
use Rattle.layer_words.specs.declared.sorts.Sort.{Sort}
use Rattle.layer_words.specs.declared.sorts.Sort.TheVariants.{Int, Msg, Part}
use Rattle.layer_ast.specs.Depth.{room_inside, room_after, WithRoom, IsWithin}
use Rattle.layer_ast.specs.Print as print
use Rattle.layer_ast.specs.Printed.{Printed, plain, name, kind, ending_sign}
use Rattle.layer_words.specs.Signs.{direction_sign, sort_sign, function_sign}
use Rattle.layer_words.specs.Signs.{operator_sign}
use Rattle.layer_ast.specs.Spells.{Fits}
use Rattle.layer_ast.specs.Tree.{ExpressionTree, number, me, members, ltime, named, element, square, rows, item, size}
use Rattle.layer_ast.specs.Tree.{binary, apply, pick, QueueTree, queue, queue_at, MessageTree, bare, built, BuiltTree}
use Rattle.layer_ast.specs.Tree.{nothing, held, cut, tail, join, ArgumentTree, value, content, NamesTree, ArgumentsTree}
use Rattle.layer_ast.specs.Tree.{PoppedTree, PushedTree, SizeTree, fixed, sized, StatementTree, bind, set, set_square}
use Rattle.layer_ast.specs.Tree.{push, take, when, choose, each, emit, StatementTrees, none, more, Expected, always}
use Rattle.layer_ast.specs.Tree.{common, rare, HandlerTree, ItemTree, ItemsTree, DeclarationTree, param, int, rows_cell}
use Rattle.layer_ast.specs.Tree.{rows_array, header, LayerTree}
use Rattle.grammar_laws.specs.After.{tokens_in, Stands, GoesOn}

-- a fact of the room that is left, if there is some
abbrev IfRoom : Option ℕ → (ℕ → Type 0) → Type 0
IfRoom None P = Unit {0}
IfRoom (Some room) P = P room

operator_flat : (o : Operator) (room : ℕ) → room_after (token.Sign (operator_sign o)) room ≡ Some room
operator_flat Add room = refl
operator_flat Subtract room = refl
operator_flat Multiply room = refl
operator_flat Equal room = refl
operator_flat NotEqual room = refl
operator_flat Less room = refl
operator_flat LessOrEqual room = refl
operator_flat Greater room = refl
operator_flat GreaterOrEqual room = refl
operator_flat And room = refl
operator_flat Or room = refl
operator_flat BitAnd room = refl
operator_flat BitOr room = refl
operator_flat BitXor room = refl

function_flat : (f : Function) (room : ℕ) → room_after (token.Sign (function_sign f)) room ≡ Some room
function_flat Not room = refl
function_flat Bit room = refl
function_flat Count room = refl
function_flat Lowest room = refl

direction_flat : (d : Dir) (room : ℕ) → room_after (token.Sign (direction_sign d)) room ≡ Some room
direction_flat Up room = refl
direction_flat Down room = refl

ending_flat : (e : Ending) (room : ℕ) → room_after (token.Sign (ending_sign e)) room ≡ Some room
ending_flat Passes room = refl
ending_flat Ends room = refl

sort_flat : (s : Sort) (room : ℕ) → room_after (token.Sign (sort_sign s)) room ≡ Some room
sort_flat Int room = refl
sort_flat Msg room = refl
sort_flat Part room = refl

size_flat : (s : SizeTree) (room : ℕ) → room_after (print.size s).token room ≡ Some room
size_flat (fixed at n) room = refl
size_flat (sized n) room = refl

module _ (following : List Lexed) where
  -- what goes on, goes on in the room that a token before it leaves
  past : (k l : List Printed) (tokens : List Lexed) (left : Option ℕ) →
      IfRoom left (λ room. GoesOn following room k l) →
      Fits k tokens → WithRoom left (λ room. IsWithin room (tokens_in tokens)) →
      Fits l (tokens ++ following) × WithRoom left (λ room. IsWithin room (tokens_in (tokens ++ following)))
  past k l tokens None go fits within = absurd within
  past k l tokens (Some room) go fits within =
      let s = go.goes tokens record { fits = fits; within = within } in (s.fits, s.within)

  one_on : (p : Printed) (room : ℕ) (k l : List Printed) (tokens : List Lexed) →
      IfRoom (room_after p.token room) (λ left. GoesOn following left k l) → Fits (p ∷ k) tokens →
      IsWithin room (tokens_in tokens) → Fits (p ∷ l) (tokens ++ following) × IsWithin
      room (tokens_in (tokens ++ following))
  unfolding Fits
  one_on p room k l [] go fits within = absurd fits
  one_on p room k l (t ∷ tokens) go fits within =
      let here : IfRoom (room_after t.token room) (λ left. GoesOn following left k l) =
      subst (λ u. IfRoom (room_after u room) (λ left. GoesOn following left k l)) (sym fits.0) go in
      let rest = past k l tokens (room_after t.token room) here fits.2 within in ((fits.0, fits.1, rest.0), rest.1)

  one : (p : Printed) (room : ℕ) (k l : List Printed) →
      IfRoom (room_after p.token room) (λ left. GoesOn following left k l) →
      GoesOn following room (p ∷ k) (p ∷ l)
  one p room k l go = record {
    goes = λ tokens s. let r = one_on p room k l tokens go s.fits s.within in record { fits = r.0; within = r.1 };
  }

  -- a token that is no bracket
  flat : (p : Printed) (room : ℕ) (k l : List Printed) → room_after p.token room ≡ Some room →
      GoesOn following room k l →
      GoesOn following room (p ∷ k) (p ∷ l)
  flat p room k l is h = one p room k l (subst (λ o. IfRoom o (λ left. GoesOn following left k l)) (sym is) h)

  -- a bracket that closes
  shut : (p : Printed) (room : ℕ) (k l : List Printed) → room_after p.token room ≡ Some (suc room) →
      GoesOn following (suc room) k l → GoesOn following room (p ∷ k) (p ∷ l)
  shut p room k l is h = one p room k l (subst (λ o. IfRoom o (λ left. GoesOn following left k l)) (sym is) h)

  -- a bracket that opens, where what is inside goes on if what follows the closing one does
  inside : (room : ℕ) (k l x y : List Printed) → GoesOn following room k l →
      ((left : ℕ) → GoesOn following (suc left) k l → GoesOn following left x y) →
      IfRoom (room_inside room) (λ left. GoesOn following left x y)
  inside zero k l x y h go = tt
  inside (suc left) k l x y h go = go left h

  opens : (p : Printed) (room : ℕ) (k l x y : List Printed) → room_after p.token room ≡ room_inside room →
      GoesOn following room k l → ((left : ℕ) → GoesOn following (suc left) k l → GoesOn following left x y) →
      GoesOn following room (p ∷ x) (p ∷ y)
  opens p room k l x y is h go =
      one p room x y (subst (λ o. IfRoom o (λ left. GoesOn following left x y)) (sym is) (inside room k l x y h go))

  -- what goes on by itself goes on in brackets too
  bracketed : (f : List Printed → List Printed) (room : ℕ) (k l : List Printed) →
      ((left : ℕ) (x y : List Printed) → GoesOn following left x y → GoesOn following left (f x) (f y)) →
      GoesOn following room k l →
      GoesOn following room (plain sign.LeftBracket ∷ f (plain sign.RightBracket ∷ k))
      (plain sign.LeftBracket ∷ f (plain sign.RightBracket ∷ l))
  bracketed f room k l go h = opens _ room k l _ _ refl h (λ left g. go left _ _ (shut _ left k l refl g))

  braced : (f : List Printed → List Printed) (room : ℕ) (k l : List Printed) →
      ((left : ℕ) (x y : List Printed) → GoesOn following left x y → GoesOn following left (f x) (f y)) →
      GoesOn following room k l →
      GoesOn following room (plain sign.LeftBrace ∷ f (plain sign.RightBrace ∷ k))
      (plain sign.LeftBrace ∷ f (plain sign.RightBrace ∷ l))
  braced f room k l go h = opens _ room k l _ _ refl h (λ left g. go left _ _ (shut _ left k l refl g))

  mutual
    expression_on : (e : ExpressionTree) (room : ℕ) (k l : List Printed) → GoesOn following room k l →
        GoesOn following room (print.expression e k) (print.expression e l)
    expression_on (number at n) room k l h = flat _ room k l refl h
    expression_on (me at) room k l h = flat _ room k l refl h
    expression_on (members at) room k l h = flat _ room k l refl h
    expression_on (ltime at) room k l h = flat _ room k l refl h
    expression_on (named n) room k l h = flat _ room k l refl h
    expression_on (element n i) room k l h =
        flat _ room _ _ refl (bracketed (print.expression i) room k l (expression_on i) h)
    expression_on (square n i j) room k l h =
        flat _ room _ _ refl (bracketed (print.expression i) room _ _ (expression_on i)
        (bracketed (print.expression j) room k l (expression_on j) h))
    expression_on (rows at q) room k l h =
        flat _ room _ _ refl (opens _ room k l _ _ refl h (λ left g. queue_on q left _ _ (shut _ left k l refl g)))
    expression_on (item at q row label) room k l h =
        flat _ room _ _ refl (
        opens _ room _ _ _ _ refl (flat (plain sign.Dot) room _ _ refl (flat (name label) room k l refl h)) (λ left g.
        queue_on q left _ _ (flat _ left _ _ refl (expression_on row left _ _ (shut _ left _ _ refl g))))
        )
    expression_on (size at m) room k l h =
        flat _ room _ _ refl (opens _ room k l _ _ refl h (λ left g. message_on m left _ _ (shut _ left k l refl g)))
    expression_on (binary at x operator y) room k l h =
        opens _ room k l _ _ refl h (λ left g.
        expression_on x left _ _ (
        flat _ left _ _ (operator_flat operator left) (expression_on y left _ _ (shut _ left k l refl g))
        ))
    expression_on (apply at function x) room k l h =
        flat _ room _ _ (function_flat function room) (
        opens _ room k l _ _ refl h (λ left g. expression_on x left _ _ (shut _ left k l refl g))
        )
    expression_on (pick at condition x y) room k l h =
        flat _ room _ _ refl (opens _ room k l _ _ refl h (λ left g.
        expression_on condition left _ _ (
        flat _ left _ _ refl (
        expression_on x left _ _ (flat _ left _ _ refl (expression_on y left _ _ (shut _ left k l refl g)))
        )
        )))

    queue_on : (q : QueueTree) (room : ℕ) (k l : List Printed) → GoesOn following room k l →
        GoesOn following room (print.queue q k) (print.queue q l)
    queue_on (queue n) room k l h = flat _ room k l refl h
    queue_on (queue_at n i) room k l h =
        flat _ room _ _ refl (bracketed (print.expression i) room k l (expression_on i) h)

    message_on : (m : MessageTree) (room : ℕ) (k l : List Printed) → GoesOn following room k l →
        GoesOn following room (print.message m k) (print.message m l)
    message_on (bare n) room k l h = flat _ room k l refl h
    message_on (built b) room k l h = built_on b room k l h

    built_on : (b : BuiltTree) (room : ℕ) (k l : List Printed) → GoesOn following room k l →
        GoesOn following room (print.built b k) (print.built b l)
    built_on (nothing at) room k l h = flat _ room k l refl h
    built_on (held at q row) room k l h =
        flat _ room _ _ refl (opens _ room k l _ _ refl h (λ left g.
        queue_on q left _ _ (flat _ left _ _ refl (expression_on row left _ _ (shut _ left k l refl g)))))
    built_on (cut at m x y) room k l h =
        flat _ room _ _ refl (opens _ room k l _ _ refl h (λ left g.
        message_on m left _ _ (
        flat _ left _ _ refl (
        expression_on x left _ _ (flat _ left _ _ refl (expression_on y left _ _ (shut _ left k l refl g)))
        )
        )))
    built_on (tail at m x) room k l h =
        flat _ room _ _ refl (opens _ room k l _ _ refl h (λ left g.
        message_on m left _ _ (flat _ left _ _ refl (expression_on x left _ _ (shut _ left k l refl g)))))
    built_on (join at x y) room k l h =
        flat _ room _ _ refl (opens _ room k l _ _ refl h (λ left g.
        message_on x left _ _ (flat _ left _ _ refl (message_on y left _ _ (shut _ left k l refl g)))))

  index_on : (i : ExpressionTree) (room : ℕ) (k l : List Printed) → GoesOn following room k l →
      GoesOn following room (plain sign.LeftBracket ∷ print.expression i (plain sign.RightBracket ∷ k))
      (plain sign.LeftBracket ∷ print.expression i (plain sign.RightBracket ∷ l))
  index_on i room k l h = bracketed (print.expression i) room k l (expression_on i) h

  more_names_on : (ns : List Name) (room : ℕ) (k l : List Printed) → GoesOn following room k l →
      GoesOn following room (print.more_names ns k) (print.more_names ns l)
  more_names_on [] room k l h = h
  more_names_on (n ∷ ns) room k l h = flat _ room _ _ refl (flat (name n) room _ _ refl (more_names_on ns room k l h))

  names_on : (ns : NamesTree) (room : ℕ) (k l : List Printed) → GoesOn following room k l →
      GoesOn following room (print.names ns k) (print.names ns l)
  names_on ns room k l h = flat _ room _ _ refl (more_names_on ns.rest room k l h)

  some_names_on : (ns : Option NamesTree) (room : ℕ) (k l : List Printed) → GoesOn following room k l →
      GoesOn following room (print.some_names ns k) (print.some_names ns l)
  some_names_on None room k l h = h
  some_names_on (Some ns) room k l h = names_on ns room k l h

  argument_on : (a : ArgumentTree) (room : ℕ) (k l : List Printed) → GoesOn following room k l →
      GoesOn following room (print.argument a k) (print.argument a l)
  argument_on (value e) room k l h = expression_on e room k l h
  argument_on (content b) room k l h = built_on b room k l h

  more_arguments_on : (es : List ArgumentTree) (room : ℕ) (k l : List Printed) → GoesOn following room k l →
      GoesOn following room (print.more_arguments es k) (print.more_arguments es l)
  more_arguments_on [] room k l h = h
  more_arguments_on (a ∷ es) room k l h =
      flat _ room _ _ refl (argument_on a room _ _ (more_arguments_on es room k l h))

  arguments_on : (es : ArgumentsTree) (room : ℕ) (k l : List Printed) → GoesOn following room k l →
      GoesOn following room (print.arguments es k) (print.arguments es l)
  arguments_on es room k l h = argument_on es.first room _ _ (more_arguments_on es.rest room k l h)

  some_arguments_on : (es : Option ArgumentsTree) (room : ℕ) (k l : List Printed) → GoesOn following room k l →
      GoesOn following room (print.some_arguments es k) (print.some_arguments es l)
  some_arguments_on None room k l h = h
  some_arguments_on (Some es) room k l h = arguments_on es room k l h

  pushed_on : (p : Option PushedTree) (room : ℕ) (k l : List Printed) → GoesOn following room k l →
      GoesOn following room (print.pushed p k) (print.pushed p l)
  pushed_on None room k l h = h
  pushed_on (Some p) room k l h =
      flat _ room _ _ refl (
      flat (name p.name) room _ _ refl (
      opens _ room k l _ _ refl h (λ left g. some_arguments_on p.fields left _ _ (shut _ left k l refl g))
      )
      )

  set_index_on : (i : Option ExpressionTree) (room : ℕ) (k l : List Printed) → GoesOn following room k l →
      GoesOn following room (print.index i k) (print.index i l)
  set_index_on None room k l h = h
  set_index_on (Some i) room k l h = index_on i room k l h

  likely_on : (w : Likely) (room : ℕ) (k l : List Printed) → GoesOn following room k l →
      GoesOn following room (print.likely w k) (print.likely w l)
  likely_on likely_word.First room k l h = h
  likely_on likely_word.Else room k l h = flat _ room k l refl h
  likely_on likely_word.Two room k l h = flat _ room k l refl h

  mutual
    statement_on : (s : StatementTree) (room : ℕ) (k l : List Printed) → GoesOn following room k l →
        GoesOn following room (print.statement s k) (print.statement s l)
    statement_on (bind at n e) room k l h =
        flat _ room _ _ refl (
        flat (name n) room _ _ refl (
        flat (plain sign.Assign) room _ _ refl (expression_on e room _ _ (flat _ room k l refl h))
        )
        )
    statement_on (set at n i e) room k l h =
        flat _ room _ _ refl (
        flat (name n) room _ _ refl (
        set_index_on i room _ _ (
        flat (plain sign.Assign) room _ _ refl (expression_on e room _ _ (flat _ room k l refl h))
        )
        )
        )
    statement_on (set_square at n i j e) room k l h =
        flat _ room _ _ refl (
        flat (name n) room _ _ refl (
        index_on i room _ _ (
        index_on j room _ _ (
        flat (plain sign.Assign) room _ _ refl (expression_on e room _ _ (flat _ room k l refl h))
        )
        )
        )
        )
    statement_on (push at q es o) room k l h =
        flat _ room _ _ refl (
        queue_on q room _ _ (
        opens _ room _ _ _ _ refl
        (flat (plain sign.Else) room _ _ refl (braced (print.statements o) room k l (statements_on o) h)) (λ left g.
        arguments_on es left _ _ (shut _ left _ _ refl g))
        )
        )
    statement_on (take at q ns b o) room k l h =
        flat _ room _ _ refl (
        queue_on q room _ _ (
        opens _ room _ _ _ _ refl (
        braced (print.statements b) room _ _ (statements_on b)
        (flat (plain sign.Else) room _ _ refl (braced (print.statements o) room k l (statements_on o) h))
        ) (λ left g. names_on ns left _ _ (shut _ left _ _ refl g))
        )
        )
    statement_on (when at w c b) room k l h =
        flat _ room _ _ refl (likely_on w room _ _
        (expression_on c room _ _ (braced (print.statements b) room k l (statements_on b) h)))
    statement_on (choose at w c b o) room k l h =
        flat _ room _ _ refl (
        likely_on w room _ _ (
        expression_on c room _ _
        (braced (print.statements b) room _ _ (statements_on b)
        (flat (plain sign.Else) room _ _ refl (braced (print.statements o) room k l (statements_on o) h)))
        )
        )
    statement_on (each at n e m b) room k l h =
        flat _ room _ _ refl (
        flat (name n) room _ _ refl (
        flat (plain sign.Below) room _ _ refl (
        expression_on e room _ _ (
        flat (plain sign.Max) room _ _ refl
        (flat (print.size m) room _ _ (size_flat m room) (braced (print.statements b) room k l (statements_on b) h))
        )
        )
        )
        )
    statement_on (emit at direction what es p) room k l h =
        flat _ room _ _ (direction_flat direction room) (
        flat (kind what) room _ _ refl (
        opens _ room _ _ _ _ refl (pushed_on p room _ _ (flat (plain sign.Semicolon) room k l refl h)) (λ left g.
        arguments_on es left _ _ (shut _ left _ _ refl g))
        )
        )

    statements_on : (b : StatementTrees) (room : ℕ) (k l : List Printed) → GoesOn following room k l →
        GoesOn following room (print.statements b k) (print.statements b l)
    statements_on none room k l h = h
    statements_on (more s b) room k l h = statement_on s room _ _ (statements_on b room k l h)

  block_on : (b : StatementTrees) (room : ℕ) (k l : List Printed) → GoesOn following room k l →
      GoesOn following room (print.block b k) (print.block b l)
  block_on b room k l h = braced (print.statements b) room k l (statements_on b) h

  popped_on : (p : Option PoppedTree) (room : ℕ) (k l : List Printed) → GoesOn following room k l →
      GoesOn following room (print.popped p k) (print.popped p l)
  popped_on None room k l h = h
  popped_on (Some p) room k l h =
      flat _ room _ _ refl (
      flat (name p.name) room _ _ refl (
      opens _ room k l _ _ refl h (λ left g. some_names_on p.fields left _ _ (shut _ left k l refl g))
      )
      )

  expected_on : (e : Expected) (room : ℕ) (k l : List Printed) → GoesOn following room k l →
      GoesOn following room (print.expected e k) (print.expected e l)
  expected_on always room k l h = h
  expected_on (common condition) room k l h = flat _ room _ _ refl (expression_on condition room k l h)
  expected_on rare room k l h = flat _ room k l refl h

  handler_on : (t : HandlerTree) (room : ℕ) (k l : List Printed) → GoesOn following room k l →
      GoesOn following room (print.handler t k) (print.handler t l)
  handler_on t room k l h =
      flat _ room _ _ (direction_flat t.direction room) (
      flat (kind t.kind) room _ _ refl (
      opens _ room _ _ _ _ refl (
      popped_on t.popped room _ _ (expected_on t.expected room _ _ (block_on t.block room k l h))
      ) (λ left g. names_on t.names left _ _ (shut _ left _ _ refl g))
      )
      )

  handlers_on : (ts : List HandlerTree) (room : ℕ) (k l : List Printed) → GoesOn following room k l →
      GoesOn following room (print.handlers ts k) (print.handlers ts l)
  handlers_on [] room k l h = h
  handlers_on (t ∷ ts) room k l h = handler_on t room _ _ (handlers_on ts room k l h)

  shape_on : (s : Shape) (room : ℕ) (k l : List Printed) → GoesOn following room k l →
      GoesOn following room (print.shape s k) (print.shape s l)
  shape_on One room k l h = h
  shape_on Array room k l h =
      opens _ room k l _ _ refl h (λ left g. flat (plain sign.N) left _ _ refl (shut _ left k l refl g))
  shape_on Square room k l h =
      opens _ room k l _ _ refl h (λ left g.
      flat (plain sign.N) left _ _ refl (
      flat (plain sign.Star) left _ _ refl (flat (plain sign.N) left _ _ refl (shut _ left k l refl g))
      ))

  initial_on : (e : Option ExpressionTree) (room : ℕ) (k l : List Printed) → GoesOn following room k l →
      GoesOn following room (print.initial e k) (print.initial e l)
  initial_on None room k l h = h
  initial_on (Some e) room k l h = flat _ room _ _ refl (expression_on e room k l h)

  item_on : (i : ItemTree) (room : ℕ) (k l : List Printed) → GoesOn following room k l →
      GoesOn following room (print.item i k) (print.item i l)
  item_on i room k l h =
      flat (name i.name) room _ _ refl
      (flat (plain sign.Colon) room _ _ refl (flat _ room k l (sort_flat i.sort room) h))

  more_items_on : (is : List ItemTree) (room : ℕ) (k l : List Printed) → GoesOn following room k l →
      GoesOn following room (print.more_items is k) (print.more_items is l)
  more_items_on [] room k l h = h
  more_items_on (i ∷ is) room k l h = flat _ room _ _ refl (item_on i room _ _ (more_items_on is room k l h))

  rows_on : (c : SizeTree) (is : ItemsTree) (room : ℕ) (k l : List Printed) → GoesOn following room k l →
      GoesOn following room (print.rows c is k) (print.rows c is l)
  rows_on c is room k l h =
      opens _ room _ _ _ _ refl (
      flat (plain sign.Of) room _ _ refl (
      opens _ room _ _ _ _ refl (flat (plain sign.Semicolon) room k l refl h) (λ left g.
      item_on is.first left _ _ (more_items_on is.rest left _ _ (shut _ left _ _ refl g)))
      )
      ) (λ left g. flat (print.size c) left _ _ (size_flat c left) (shut _ left _ _ refl g))

  declaration_on : (d : DeclarationTree) (room : ℕ) (k l : List Printed) → GoesOn following room k l →
      GoesOn following room (print.declaration d k) (print.declaration d l)
  declaration_on (param at n v) room k l h =
      flat _ room _ _ refl (
      flat (name n) room _ _ refl (
      flat (plain sign.Assign) room _ _ refl (flat _ room _ _ refl (flat (plain sign.Semicolon) room k l refl h))
      )
      )
  declaration_on (int at n s v) room k l h =
      flat _ room _ _ refl (
      flat (plain sign.Int) room _ _ refl (
      flat (name n) room _ _ refl (
      shape_on s room _ _ (initial_on v room _ _ (flat (plain sign.Semicolon) room k l refl h))
      )
      )
      )
  declaration_on (rows_cell at n c is) room k l h =
      flat _ room _ _ refl (flat (plain sign.Queue) room _ _ refl
      (flat (name n) room _ _ refl (rows_on c is room k l h)))
  declaration_on (rows_array at n c is) room k l h =
      flat _ room _ _ refl (
      flat (plain sign.Queue) room _ _ refl
      (flat (name n) room _ _ refl (shape_on Array room _ _ (rows_on c is room k l h)))
      )
  declaration_on (header at n fields e) room k l h =
      flat _ room _ _ refl (
      flat (name n) room _ _ refl (
      opens _ room _ _ _ _ refl (
      flat (plain (ending_sign e)) room _ _ (ending_flat e room) (flat (plain sign.Semicolon) room k l refl h)
      ) (λ left g. some_names_on fields left _ _ (shut _ left _ _ refl g))
      )
      )

  declarations_on : (ds : List DeclarationTree) (room : ℕ) (k l : List Printed) → GoesOn following room k l →
      GoesOn following room (print.declarations ds k) (print.declarations ds l)
  declarations_on [] room k l h = h
  declarations_on (d ∷ ds) room k l h = declaration_on d room _ _ (declarations_on ds room k l h)

  layer_on : (t : LayerTree) (room : ℕ) (k l : List Printed) → GoesOn following room k l →
      GoesOn following room (print.layer t k) (print.layer t l)
  layer_on t room k l h =
      flat _ room _ _ refl (
      flat (name t.name) room _ _ refl (
      opens _ room k l _ _ refl h (λ left g.
      declarations_on t.declarations left _ _ (handlers_on t.handlers left _ _ (shut _ left k l refl g)))
      )
      )

  pub layers_on : (ts : List LayerTree) (room : ℕ) (k l : List Printed) → GoesOn following room k l →
      GoesOn following room (print.layers ts k) (print.layers ts l)
  layers_on [] room k l h = h
  layers_on (t ∷ ts) room k l h = layer_on t room _ _ (layers_on ts room k l h)

  -- after no tokens stand the following ones alone
  none_on : (room : ℕ) (l : List Printed) (tokens : List Lexed) → Stands room l following → Fits [] tokens →
      Stands room l (tokens ++ following)
  unfolding Fits
  none_on room l [] h fits = h
  none_on room l (t ∷ tokens) h fits = absurd fits

  -- where tokens are these layers and those after them are what else is printed, together they are both
  pub layers_then : (ts : List LayerTree) (room : ℕ) (l : List Printed) (tokens : List Lexed) →
      Stands room (print.layers ts []) tokens → Stands room l following →
      Stands room (print.layers ts l) (tokens ++ following)
  layers_then ts room l tokens s h =
      (layers_on ts room [] l record { goes = λ none_left t. none_on room l none_left h t.fits }).goes tokens s

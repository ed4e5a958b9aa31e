-- One step back over a token: before what the machine expects after it stands what it expected.
use Rattle.std.proofs.Common.{◌≡◌, Bool, true, false, if◌then◌else◌, List, [], ◌∷◌, Option, Some, None, IfSome, refl}
use Rattle.std.proofs.Common.{sym, ap}
use denote.Enum.Bare.{same_true}
use Rattle.layer_words.specs.contracts.signs.Sign.{the_type}
use Rattle.layer_words.specs.declared.places.At.{At}
use Rattle.layer_ast.specs.declared.names.Name.{Name}
use Rattle.layer_words.specs.declared.events.Dir.{Dir}
use Rattle.layer_words.specs.declared.events.Dir.TheVariants.{Up, Down}
use Rattle.layer_words.specs.declared.signs.Sign.{Sign}
use Rattle.layer_words.specs.declared.signs.Sign.TheVariants as sign
use Rattle.layer_ast.specs.declared.tokens.Token.{Token}
use Rattle.layer_ast.specs.declared.tokens.Token.TheVariants as token
use Rattle.layer_ast.specs.declared.syntax.Ending.TheVariants as ending
use Rattle.layer_words.specs.declared.operators.Function.{Function}
use Rattle.layer_words.specs.declared.operators.Function.TheVariants as function
use Rattle.layer_words.specs.declared.sorts.Likely.{Likely}
use Rattle.layer_words.specs.declared.sorts.Likely.TheVariants as likely_word
use Rattle.layer_words.specs.declared.operators.Operator.TheVariants as operator
use Rattle.layer_words.specs.declared.sorts.Shape.{Shape}
use Rattle.layer_words.specs.declared.sorts.Shape.TheVariants as shape_of
use Rattle.layer_words.specs.declared.sorts.Sort.TheVariants as sort
use Rattle.layer_ast.specs.Tree.{ExpressionTree, number, me, members, ltime, named, element, square, rows, item, size}
use Rattle.layer_ast.specs.Tree.{binary, apply, pick, QueueTree, queue, queue_at, bare, built, nothing, held, cut, tail}
use Rattle.layer_ast.specs.Tree.{join, value, content, SizeTree, fixed, sized, StatementTree, bind, set, set_square}
use Rattle.layer_ast.specs.Tree.{push, take, when, choose, each, emit, StatementTrees, none, more, always, common, rare}
use Rattle.layer_ast.specs.Tree.{ItemsTree, DeclarationTree, param, int, rows_cell, rows_array, header}
use Rattle.layer_ast.specs.Print as print
use Rattle.layer_ast.specs.Printed.{Printed, plain, placed_sign, numeral, plain_numeral, name, kind}
use Rattle.layer_words.specs.Signs.{direction_sign}
use Rattle.layer_words.specs.Signs.{function_sign}
use Rattle.grammar_laws.specs.Machine.{Symbol, one, a_name, a_number, a_kind, a_size, a_sort, an_ending, an_operator}
use Rattle.grammar_laws.specs.Machine.{an_expression, an_index, a_message, a_built, an_argument, more_arguments}
use Rattle.grammar_laws.specs.Machine.{some_arguments, a_pushed, a_likely, an_otherwise, a_statement, statements}
use Rattle.grammar_laws.specs.Machine.{more_names, some_names, a_popped, an_expected, a_handler, handlers, a_square}
use Rattle.grammar_laws.specs.Machine.{a_shape, an_initial, a_capacity, more_items, a_cell, a_declaration, declarations}
use Rattle.grammar_laws.specs.Machine.{a_layer, layers, more_given, some_given, a_place, places, Move, eats, skips}
use Rattle.grammar_laws.specs.Machine.{refuses, is_sign, begun, or_else, operand, emission, handling, name_move}
use Rattle.grammar_laws.specs.Machine.{number_move, kind_move, size_move, sort_move, ending_move, operator_move}
use Rattle.grammar_laws.specs.Machine.{expression_move, index_move, built_move, message_move, argument_move}
use Rattle.grammar_laws.specs.Machine.{more_arguments_move, pushed_move, likely_move, otherwise_move, statement_move}
use Rattle.grammar_laws.specs.Machine.{more_names_move, popped_move, expected_move, handler_move, square_move}
use Rattle.grammar_laws.specs.Machine.{shape_move, initial_move, capacity_move, more_items_move, cell_move}
use Rattle.grammar_laws.specs.Machine.{declaration_move, layer_move, more_given_move, some_given_move, place_move, move}
use Rattle.grammar_laws.specs.Parts.{otherwise, capacity}
use Rattle.grammar_laws.specs.Parts.{square as with_square}
use Rattle.grammar_laws.proofs.Phrases.{Phrase, Chain, chain_split}

-- a printed token that is this one at this place, with which the tokens are what a symbol stands for
abbrev pub Front : Symbol → Token → At → List Printed → List Printed → Type 0
Front s t at p k = (q : Printed) × (t ≡ q.token) × IfSome q.at (λ a. at ≡ a) × Phrase s (q ∷ p) k

-- what a move of a symbol at a token says of what stood there
abbrev pub Back : Symbol → Token → At → Move → Type 0
Back s t at (eats new) = (p k : List Printed) → Chain new p k → Front s t at p k
Back s t at skips = (k : List Printed) → Phrase s k k
Back s t at refuses = Unit {0}

pub sign_is : (want : Sign) (t : Token) → is_sign want t ≡ true → t ≡ token.Sign want
sign_is want (token.Sign s) is = ap token.Sign (same_true the_type tt s want is)
sign_is want (token.Name w) is = cc
sign_is want (token.Number n) is = cc
sign_is want (token.Kind k) is = cc

back_one : (s : Sign) (t : Token) (at : At) (is : Bool) → is_sign s t ≡ is →
    Back (one s) t at (if is then eats [] else refuses)
back_one s t at true is = λ p k e. (plain s, sign_is s t is, tt, ap (λ r. plain s ∷ r) e)
back_one s t at false is = tt

back_name : (t : Token) (at : At) → Back a_name t at (name_move t)
back_name (token.Name w) at = λ p k e.
    (name (record { at = at; word = w }), refl, refl, (record { at = at; word = w }, rw e))
back_name _ at = tt

back_number : (t : Token) (at : At) → Back a_number t at (number_move t)
back_number (token.Number v) at = λ p k e. (plain_numeral v, refl, tt, (v, rw e))
back_number _ at = tt

back_kind : (t : Token) (at : At) → Back a_kind t at (kind_move t)
back_kind (token.Kind x) at = λ p k e. (kind x, refl, tt, (x, rw e))
back_kind _ at = tt

back_size : (t : Token) (at : At) → Back a_size t at (size_move t)
back_size (token.Number v) at = λ p k e. (numeral v at, refl, refl, (fixed at v, rw e))
back_size (token.Name w) at =
    λ p k e. (name (record { at = at; word = w }), refl, refl, (sized (record { at = at; word = w }), rw e))
back_size _ at = tt

back_sort : (t : Token) (at : At) → Back a_sort t at (sort_move t)
back_sort (token.Sign sign.Int) at = λ p k e. (plain sign.Int, refl, tt, (sort.Int, rw e))
back_sort (token.Sign sign.Msg) at = λ p k e. (plain sign.Msg, refl, tt, (sort.Msg, rw e))
back_sort (token.Sign sign.Part) at = λ p k e. (plain sign.Part, refl, tt, (sort.Part, rw e))
back_sort _ at = tt

back_ending : (t : Token) (at : At) → Back an_ending t at (ending_move t)
back_ending (token.Sign sign.Passes) at = λ p k e. (plain sign.Passes, refl, tt, (ending.Passes, rw e))
back_ending (token.Sign sign.Ends) at = λ p k e. (plain sign.Ends, refl, tt, (ending.Ends, rw e))
back_ending _ at = tt

back_operator : (t : Token) (at : At) → Back an_operator t at (operator_move t)
back_operator (token.Sign sign.Plus) at = λ p k e. (plain sign.Plus, refl, tt, (operator.Add, rw e))
back_operator (token.Sign sign.Minus) at = λ p k e. (plain sign.Minus, refl, tt, (operator.Subtract, rw e))
back_operator (token.Sign sign.Star) at = λ p k e. (plain sign.Star, refl, tt, (operator.Multiply, rw e))
back_operator (token.Sign sign.Equal) at = λ p k e. (plain sign.Equal, refl, tt, (operator.Equal, rw e))
back_operator (token.Sign sign.NotEqual) at = λ p k e. (plain sign.NotEqual, refl, tt, (operator.NotEqual, rw e))
back_operator (token.Sign sign.Less) at = λ p k e. (plain sign.Less, refl, tt, (operator.Less, rw e))
back_operator (token.Sign sign.LessEqual) at = λ p k e. (plain sign.LessEqual, refl, tt, (operator.LessOrEqual, rw e))
back_operator (token.Sign sign.Greater) at = λ p k e. (plain sign.Greater, refl, tt, (operator.Greater, rw e))
back_operator (token.Sign sign.GreaterEqual) at =
    λ p k e. (plain sign.GreaterEqual, refl, tt, (operator.GreaterOrEqual, rw e))
back_operator (token.Sign sign.And) at = λ p k e. (plain sign.And, refl, tt, (operator.And, rw e))
back_operator (token.Sign sign.Or) at = λ p k e. (plain sign.Or, refl, tt, (operator.Or, rw e))
back_operator (token.Sign sign.Ampersand) at = λ p k e. (plain sign.Ampersand, refl, tt, (operator.BitAnd, rw e))
back_operator (token.Sign sign.Bar) at = λ p k e. (plain sign.Bar, refl, tt, (operator.BitOr, rw e))
back_operator (token.Sign sign.Caret) at = λ p k e. (plain sign.Caret, refl, tt, (operator.BitXor, rw e))
back_operator _ at = tt

-- a name with up to two indices
abbrev indexed : Name → Option ExpressionTree → Option ExpressionTree → ExpressionTree
indexed n None None = named n
indexed n (Some i) None = element n i
indexed n None (Some j) = element n j
indexed n (Some i) (Some j) = square n i j

indexed_prints : (n : Name) (i j : Option ExpressionTree) (k : List Printed) →
    name n ∷ print.index i (print.index j k) ≡ print.expression (indexed n i j) k
indexed_prints n None None k = refl
indexed_prints n (Some i) None k = refl
indexed_prints n None (Some j) k = refl
indexed_prints n (Some i) (Some j) k = refl

-- a queue's name with up to one index
abbrev queue_of : Name → Option ExpressionTree → QueueTree
queue_of n None = queue n
queue_of n (Some i) = queue_at n i

queue_prints : (n : Name) (i : Option ExpressionTree) (k : List Printed) →
    name n ∷ print.index i k ≡ print.queue (queue_of n i) k
queue_prints n None k = refl
queue_prints n (Some i) k = refl

back_function : (f : Function) (at : At) (p k : List Printed) → Chain operand p k →
    Front an_expression (token.Sign (function_sign f)) at p k
back_function f at p k (l1, e1, (l2, (x, e2), (l3, e3, e4))) =
    (placed_sign (function_sign f) at, refl, refl, (apply at f x, rw (e1, e2, e3, e4)))

back_expression : (t : Token) (at : At) → Back an_expression t at (expression_move t)
back_expression (token.Number v) at = λ p k e. (numeral v at, refl, refl, (number at v, rw e))
back_expression (token.Name w) at =
    λ p k (l1, (i, e1), (l2, (j, e2), e3)).
    let n : Name = record { at = at; word = w } in
    (name n, refl, refl, (indexed n i j, rw (e1, e2, e3) (indexed_prints n i j k)))
back_expression (token.Sign sign.Me) at = λ p k e. (placed_sign sign.Me at, refl, refl, (me at, rw e))
back_expression (token.Sign sign.N) at = λ p k e. (placed_sign sign.N at, refl, refl, (members at, rw e))
back_expression (token.Sign sign.Ltime) at = λ p k e. (placed_sign sign.Ltime at, refl, refl, (ltime at, rw e))
back_expression (token.Sign sign.Len) at =
    λ p k (l1, e1, (l2, (n, e2), (l3, (i, e3), (l4, e4, e5)))). (
      placed_sign sign.Len at,
      refl,
      refl,
      (
        rows at (queue_of n i),
        rw (e1, e2, e3, e4, e5)
            (ap (λ r. placed_sign sign.Len at ∷ plain sign.LeftParen ∷ r)
            (queue_prints n i (plain sign.RightParen ∷ k))),
      ),
    )
back_expression (token.Sign sign.AtRow) at =
    λ p k (l1, e1, (l2, (n, e2), (l3, (i, e3), (l4, e4, (l5, (x, e5), (l6, e6, (l7, e7, (l8, (m, e8), e9)))))))). (
      placed_sign sign.AtRow at,
      refl,
      refl,
      (
        item at (queue_of n i) x m,
        rw (e1, e2, e3, e4, e5, e6, e7, e8, e9)
            (ap (λ r. placed_sign sign.AtRow at ∷ plain sign.LeftParen ∷ r) (queue_prints n i _)),
      ),
    )
back_expression (token.Sign sign.Size) at =
    λ p k (l1, e1, (l2, (m, e2), (l3, e3, e4))).
    (placed_sign sign.Size at, refl, refl, (size at m, rw (e1, e2, e3, e4)))
back_expression (token.Sign sign.LeftParen) at =
    λ p k (l1, (a, e1), (l2, (o, e2), (l3, (b, e3), (l4, e4, e5)))).
    (placed_sign sign.LeftParen at, refl, refl, (binary at a o b, rw (e1, e2, e3, e4, e5)))
back_expression (token.Sign sign.Not) at = back_function function.Not at
back_expression (token.Sign sign.Bit) at = back_function function.Bit at
back_expression (token.Sign sign.Count) at = back_function function.Count at
back_expression (token.Sign sign.Lowest) at = back_function function.Lowest at
back_expression (token.Sign sign.Pick) at =
    λ p k (l1, e1, (l2, (a, e2), (l3, e3, (l4, (b, e4), (l5, e5, (l6, (c, e6), (l7, e7, e8))))))).
    (placed_sign sign.Pick at, refl, refl, (pick at a b c, rw (e1, e2, e3, e4, e5, e6, e7, e8)))
back_expression _ at = tt

back_index : (t : Token) (at : At) → Back an_index t at (index_move t)
back_index (token.Sign sign.LeftBracket) at =
    λ p k (l1, (i, e1), (l2, e2, e3)). (plain sign.LeftBracket, refl, tt, (Some i, rw (e1, e2, e3)))
back_index _ at = λ k. (None, refl)

back_built : (t : Token) (at : At) → Back a_built t at (built_move t)
back_built (token.Sign sign.Nothing) at = λ p k e. (placed_sign sign.Nothing at, refl, refl, (nothing at, rw e))
back_built (token.Sign sign.Held) at =
    λ p k (l1, e1, (l2, (n, e2), (l3, (i, e3), (l4, e4, (l5, (x, e5), (l6, e6, e7)))))). (
      placed_sign sign.Held at,
      refl,
      refl,
      (
        held at (queue_of n i) x,
        rw (e1, e2, e3, e4, e5, e6, e7)
            (ap (λ r. placed_sign sign.Held at ∷ plain sign.LeftParen ∷ r) (queue_prints n i _)),
      ),
    )
back_built (token.Sign sign.Cut) at =
    λ p k (l1, e1, (l2, (m, e2), (l3, e3, (l4, (a, e4), (l5, e5, (l6, (b, e6), (l7, e7, e8))))))).
    (placed_sign sign.Cut at, refl, refl, (cut at m a b, rw (e1, e2, e3, e4, e5, e6, e7, e8)))
back_built (token.Sign sign.Tail) at =
    λ p k (l1, e1, (l2, (m, e2), (l3, e3, (l4, (a, e4), (l5, e5, e6))))).
    (placed_sign sign.Tail at, refl, refl, (tail at m a, rw (e1, e2, e3, e4, e5, e6)))
back_built (token.Sign sign.Join) at =
    λ p k (l1, e1, (l2, (m, e2), (l3, e3, (l4, (n, e4), (l5, e5, e6))))).
    (placed_sign sign.Join at, refl, refl, (join at m n, rw (e1, e2, e3, e4, e5, e6)))
back_built _ at = tt

-- what is a part of one kind is a part of another
back_as : (part whole : Symbol) (t : Token) (at : At) (m : Move) →
    ((p k : List Printed) → Phrase part p k → Phrase whole p k) → Back part t at m → Back whole t at m
back_as part whole t at (eats new) into b = λ p k chain. let (q, e, place, here) = b p k chain in
    (q, e, place, into _ _ here)
back_as part whole t at skips into b = λ k. into k k (b k)
back_as part whole t at refuses into b = tt

back_or : (first second whole : Symbol) (t : Token) (at : At) (m n : Move) →
    ((p k : List Printed) → Phrase first p k → Phrase whole p k) →
    ((p k : List Printed) → Phrase second p k → Phrase whole p k) →
    Back first t at m → Back second t at n → Back whole t at (or_else m n)
back_or first second whole t at (eats new) n into onto b c = back_as first whole t at (eats new) into b
back_or first second whole t at skips n into onto b c = back_as second whole t at n onto c
back_or first second whole t at refuses n into onto b c = back_as second whole t at n onto c

-- an optional part that begins as another
back_begun : (part whole : Symbol) (following : List Symbol) (t : Token) (at : At) (m : Move) →
    ((p l k : List Printed) → Phrase part p l → Chain following l k → Phrase whole p k) →
    ((k : List Printed) → Phrase whole k k) →
    Back part t at m → Back whole t at (begun following m)
back_begun part whole following t at (eats new) joined skip b =
    λ p k chain.
    let (l, first, rest) = chain_split new following p k chain in
    let (q, e, place, here) = b p l first in (q, e, place, joined _ _ _ here rest)
back_begun part whole following t at skips joined skip b = skip
back_begun part whole following t at refuses joined skip b = skip

back_message : (t : Token) (at : At) → Back a_message t at (message_move t)
back_message t at =
    back_or a_built a_name a_message t at (built_move t) (name_move t) (λ p k (b, e). (built b, e))
    (λ p k (n, e). (bare n, e))
    (back_built t at) (back_name t at)

back_argument : (t : Token) (at : At) → Back an_argument t at (argument_move t)
back_argument t at =
    back_or a_built an_expression an_argument t at (built_move t) (expression_move t) (λ p k (b, e). (content b, e))
    (λ p k (x, e). (value x, e)) (back_built t at) (back_expression t at)

back_more_arguments : (t : Token) (at : At) → Back more_arguments t at (more_arguments_move t)
back_more_arguments (token.Sign sign.Comma) at =
    λ p k (l1, (a, e1), (l2, (rest, e2), e3)). (plain sign.Comma, refl, tt, (a ∷ rest, rw (e1, e2, e3)))
back_more_arguments _ at = λ k. ([], refl)

back_some_arguments : (t : Token) (at : At) → Back some_arguments t at (begun (more_arguments ∷ []) (argument_move t))
back_some_arguments t at =
    back_begun an_argument some_arguments (more_arguments ∷ []) t at (argument_move t)
    (λ p l k (a, e) (l1, (rest, e1), e2). (Some (record { first = a; rest = rest }), rw (e, e1, e2)))
    (λ k. (None, refl))
    (back_argument t at)

back_pushed : (t : Token) (at : At) → Back a_pushed t at (pushed_move t)
back_pushed (token.Sign sign.With) at =
    λ p k (l1, (n, e1), (l2, e2, (l3, (fields, e3), (l4, e4, e5)))).
    (plain sign.With, refl, tt, (Some (record { name = n; fields = fields }), rw (e1, e2, e3, e4, e5)))
back_pushed _ at = λ k. (None, refl)

back_likely : (t : Token) (at : At) → Back a_likely t at (likely_move t)
back_likely (token.Sign sign.Rare) at = λ p k e. (plain sign.Rare, refl, tt, (likely_word.Else, rw e))
back_likely (token.Sign sign.Two) at = λ p k e. (plain sign.Two, refl, tt, (likely_word.Two, rw e))
back_likely _ at = λ k. (likely_word.First, refl)

back_otherwise : (t : Token) (at : At) → Back an_otherwise t at (otherwise_move t)
back_otherwise (token.Sign sign.Else) at =
    λ p k (l1, e1, (l2, (b, e2), (l3, e3, e4))). (plain sign.Else, refl, tt, (Some b, rw (e1, e2, e3, e4)))
back_otherwise _ at = λ k. (None, refl)

-- an assignment with up to two indices
abbrev assign : At → Name → Option ExpressionTree → Option ExpressionTree → ExpressionTree → StatementTree
assign at n (Some i) (Some j) v = set_square at n i j v
assign at n (Some i) None v = set at n (Some i) v
assign at n None j v = set at n j v

assign_prints : (at : At) (n : Name) (i j : Option ExpressionTree) (v : ExpressionTree) (k : List Printed) →
    placed_sign sign.Set at ∷ name n
    ∷ print.index i (print.index j (plain sign.Assign ∷ print.expression v (plain sign.Semicolon ∷ k)))
    ≡ print.statement (assign at n i j v) k
assign_prints at n (Some i) (Some j) v k = refl
assign_prints at n (Some i) None v k = refl
assign_prints at n None (Some j) v k = refl
assign_prints at n None None v k = refl

-- a condition with another way or without
abbrev conditional : At → Likely → ExpressionTree → StatementTrees → Option StatementTrees → StatementTree
conditional at l c b None = when at l c b
conditional at l c b (Some o) = choose at l c b o

conditional_prints : (at : At) (l : Likely) (c : ExpressionTree) (b : StatementTrees) (o : Option StatementTrees)
    (k : List Printed) →
    placed_sign sign.If at
    ∷ print.likely l (print.expression c
    (plain sign.LeftBrace ∷ print.statements b (plain sign.RightBrace ∷ otherwise o k)))
    ≡ print.statement (conditional at l c b o) k
conditional_prints at l c b None k = refl
conditional_prints at l c b (Some o) k = refl

back_emission : (d : Dir) (at : At) (p k : List Printed) → Chain emission p k →
    Front a_statement (token.Sign (direction_sign d)) at p k
back_emission d at p k
    (l1, (what, e1), (l2, e2, (l3, (a, e3), (l4, (rest, e4), (l5, e5, (l6, (pushed, e6), (l7, e7, e8))))))) = (
      placed_sign (direction_sign d) at,
      refl,
      refl,
      (emit at d what (record { first = a; rest = rest }) pushed, rw (e1, e2, e3, e4, e5, e6, e7, e8)),
    )

back_statement : (t : Token) (at : At) → Back a_statement t at (statement_move t)
back_statement (token.Sign sign.Let) at =
    λ p k (l1, (n, e1), (l2, e2, (l3, (v, e3), (l4, e4, e5)))).
    (placed_sign sign.Let at, refl, refl, (bind at n v, rw (e1, e2, e3, e4, e5)))
back_statement (token.Sign sign.Set) at =
    λ p k (l1, (n, e1), (l2, (i, e2), (l3, (j, e3), (l4, e4, (l5, (v, e5), (l6, e6, e7)))))). (
      placed_sign sign.Set at,
      refl,
      refl,
      (assign at n i j v, rw (e1, e2, e3, e4, e5, e6, e7) (assign_prints at n i j v k)),
    )
back_statement (token.Sign sign.Push) at =
    λ p k (
      l1,
      (n, e1),
      (
        l2,
        (i, e2),
        (l3, e3, (l4, (a, e4), (l5, (rest, e5), (l6, e6, (l7, e7, (l8, e8, (l9, (o, e9), (l10, e10, e11)))))))),
      ),
    ). (
      placed_sign sign.Push at,
      refl,
      refl,
      (
        push at (queue_of n i) (record { first = a; rest = rest }) o,
        rw (e1, e2, e3, e4, e5, e6, e7, e8, e9, e10, e11) (ap (λ r. placed_sign sign.Push at ∷ r) (queue_prints n i _)),
      ),
    )
back_statement (token.Sign sign.Take) at =
    λ p k (
      l1,
      (n, e1),
      (
        l2,
        (i, e2),
        (
          l3,
          e3,
          (
            l4,
            (m, e4),
            (
              l5,
              (ms, e5),
              (
                l6,
                e6,
                (l7, e7, (l8, (b, e8), (l9, e9, (l10, e10, (l11, e11, (l12, (o, e12), (l13, e13, e14))))))),
              ),
            ),
          ),
        ),
      ),
    ). (
      placed_sign sign.Take at,
      refl,
      refl,
      (
        take at (queue_of n i) (record { first = m; rest = ms }) b o,
        rw (e1, e2, e3, e4, e5, e6, e7, e8, e9, e10, e11, e12, e13, e14)
            (ap (λ r. placed_sign sign.Take at ∷ r) (queue_prints n i _)),
      ),
    )
back_statement (token.Sign sign.If) at =
    λ p k (l1, (l, e1), (l2, (c, e2), (l3, e3, (l4, (b, e4), (l5, e5, (l6, (o, e6), e7)))))). (
      placed_sign sign.If at,
      refl,
      refl,
      (
        conditional at l c b o,
        rw (e1, e2, e3, e4, e5, e6, e7)
            (conditional_prints at l c b o k),
      ),
    )
back_statement (token.Sign sign.Each) at =
    λ p k (l1, (n, e1), (l2, e2, (l3, (x, e3), (l4, e4, (l5, (m, e5), (l6, e6, (l7, (b, e7), (l8, e8, e9)))))))).
    (placed_sign sign.Each at, refl, refl, (each at n x m b, rw (e1, e2, e3, e4, e5, e6, e7, e8, e9)))
back_statement (token.Sign sign.Up) at = back_emission Up at
back_statement (token.Sign sign.Down) at = back_emission Down at
back_statement _ at = tt

back_statements : (t : Token) (at : At) → Back statements t at (begun (statements ∷ []) (statement_move t))
back_statements t at =
    back_begun a_statement statements (statements ∷ []) t at (statement_move t)
    (λ p l k (s, e) (l1, (rest, e1), e2). (more s rest, rw (e, e1, e2))) (λ k. (none, refl)) (back_statement t at)

back_more_names : (t : Token) (at : At) → Back more_names t at (more_names_move t)
back_more_names (token.Sign sign.Comma) at =
    λ p k (l1, (n, e1), (l2, (rest, e2), e3)). (plain sign.Comma, refl, tt, (n ∷ rest, rw (e1, e2, e3)))
back_more_names _ at = λ k. ([], refl)

back_some_names : (t : Token) (at : At) → Back some_names t at (begun (more_names ∷ []) (name_move t))
back_some_names t at =
    back_begun a_name some_names (more_names ∷ []) t at (name_move t)
    (λ p l k (n, e) (l1, (rest, e1), e2). (Some (record { first = n; rest = rest }), rw (e, e1, e2)))
    (λ k. (None, refl))
    (back_name t at)

back_popped : (t : Token) (at : At) → Back a_popped t at (popped_move t)
back_popped (token.Sign sign.With) at =
    λ p k (l1, (n, e1), (l2, e2, (l3, (fields, e3), (l4, e4, e5)))).
    (plain sign.With, refl, tt, (Some (record { name = n; fields = fields }), rw (e1, e2, e3, e4, e5)))
back_popped _ at = λ k. (None, refl)

back_expected : (t : Token) (at : At) → Back an_expected t at (expected_move t)
back_expected (token.Sign sign.Common) at =
    λ p k (l1, (x, e1), e2). (plain sign.Common, refl, tt, (common x, rw (e1, e2)))
back_expected (token.Sign sign.Rare) at = λ p k e. (plain sign.Rare, refl, tt, (rare, rw e))
back_expected _ at = λ k. (always, refl)

back_handling : (d : Dir) (at : At) (p k : List Printed) → Chain handling p k →
    Front a_handler (token.Sign (direction_sign d)) at p k
back_handling d at p k (
  l1,
  (what, e1),
  (
    l2,
    e2,
    (
      l3,
      (n, e3),
      (
        l4,
        (ns, e4),
        (l5, e5, (l6, (popped, e6), (l7, (expected, e7), (l8, e8, (l9, (b, e9), (l10, e10, e11)))))),
      ),
    ),
  ),
) = (
  placed_sign (direction_sign d) at,
  refl,
  refl,
  (
    (record {
      at = at;
      direction = d;
      kind = what;
      names = record { first = n; rest = ns };
      popped = popped;
      expected = expected;
      block = b;
    }),
    rw (e1, e2, e3, e4, e5, e6, e7, e8, e9, e10, e11),
  ),
)

back_handler : (t : Token) (at : At) → Back a_handler t at (handler_move t)
back_handler (token.Sign sign.Up) at = back_handling Up at
back_handler (token.Sign sign.Down) at = back_handling Down at
back_handler _ at = tt

back_handlers : (t : Token) (at : At) → Back handlers t at (begun (handlers ∷ []) (handler_move t))
back_handlers t at =
    back_begun a_handler handlers (handlers ∷ []) t at (handler_move t)
    (λ p l k (h, e) (l1, (rest, e1), e2). (h ∷ rest, rw (e, e1, e2))) (λ k. ([], refl)) (back_handler t at)

back_square : (t : Token) (at : At) → Back a_square t at (square_move t)
back_square (token.Sign sign.Star) at = λ p k (l1, e1, e2). (plain sign.Star, refl, tt, (true, rw (e1, e2)))
back_square _ at = λ k. (false, refl)

abbrev array_of : Bool → Shape
array_of false = shape_of.Array
array_of true = shape_of.Square

array_prints : (s : Bool) (k : List Printed) →
    plain sign.LeftBracket ∷ plain sign.N ∷ with_square s (plain sign.RightBracket ∷ k) ≡ print.shape (array_of s) k
array_prints false k = refl
array_prints true k = refl

back_shape : (t : Token) (at : At) → Back a_shape t at (shape_move t)
back_shape (token.Sign sign.LeftBracket) at =
    λ p k (l1, e1, (l2, (s, e2), (l3, e3, e4))).
    (plain sign.LeftBracket, refl, tt, (array_of s, rw (e1, e2, e3, e4) (array_prints s k)))
back_shape _ at = λ k. (shape_of.One, refl)

back_initial : (t : Token) (at : At) → Back an_initial t at (initial_move t)
back_initial (token.Sign sign.Assign) at =
    λ p k (l1, (x, e1), e2). (plain sign.Assign, refl, tt, (Some x, rw (e1, e2)))
back_initial _ at = λ k. (None, refl)

back_capacity : (t : Token) (at : At) → Back a_capacity t at (capacity_move t)
back_capacity (token.Sign sign.N) at =
    λ p k (l1, e1, (l2, e2, (l3, (s, e3), e4))). (plain sign.N, refl, tt, ((true, s), rw (e1, e2, e3, e4)))
back_capacity (token.Number v) at = λ p k e. (numeral v at, refl, refl, ((false, fixed at v), rw e))
back_capacity (token.Name w) at =
    λ p k e. (name (record { at = at; word = w }), refl, refl, ((false, sized (record { at = at; word = w })), rw e))
back_capacity _ at = tt

back_more_items : (t : Token) (at : At) → Back more_items t at (more_items_move t)
back_more_items (token.Sign sign.Comma) at =
    λ p k (l1, (n, e1), (l2, e2, (l3, (s, e3), (l4, (rest, e4), e5)))).
    (plain sign.Comma, refl, tt, (record { name = n; sort = s } ∷ rest, rw (e1, e2, e3, e4, e5)))
back_more_items _ at = λ k. ([], refl)

-- a queue or an array of queues
abbrev rows_of : At → Name → Bool × SizeTree → ItemsTree → DeclarationTree
rows_of at n (false, s) is = rows_cell at n s is
rows_of at n (true, s) is = rows_array at n s is

rows_print : (at : At) (n : Name) (c : Bool × SizeTree) (is : ItemsTree) (k : List Printed) →
    placed_sign sign.State at ∷ plain sign.Queue ∷ name n ∷ plain sign.LeftBracket
    ∷ capacity c (plain sign.RightBracket ∷ plain sign.Of ∷ plain sign.LeftParen
    ∷ print.item is.first (print.more_items is.rest (plain sign.RightParen ∷ plain sign.Semicolon ∷ k)))
    ≡ print.declaration (rows_of at n c is) k
rows_print at n (false, s) is k = refl
rows_print at n (true, s) is k = refl

back_cell : (t : Token) (at : At) → Back a_cell t at (cell_move t)
back_cell (token.Sign sign.Int) at =
    λ p k (l1, (n, e1), (l2, (s, e2), (l3, (v, e3), (l4, e4, e5)))).
    (plain sign.Int, refl, tt, λ on. (int on n s v, rw (e1, e2, e3, e4, e5)))
back_cell (token.Sign sign.Queue) at =
    λ p k (
      l1,
      (n, e1),
      (
        l2,
        e2,
        (
          l3,
          (c, e3),
          (
            l4,
            e4,
            (l5, e5, (l6, e6, (l7, (m, e7), (l8, e8, (l9, (s, e9), (l10, (rest, e10), (l11, e11, (l12, e12, e13)))))))),
          ),
        ),
      ),
    ). (
      plain sign.Queue,
      refl,
      tt,
      λ on.
          let is : ItemsTree = record { first = record { name = m; sort = s }; rest = rest } in
          (rows_of on n c is, rw (e1, e2, e3, e4, e5, e6, e7, e8, e9, e10, e11, e12, e13) (rows_print on n c is k)),
    )
back_cell _ at = tt

back_declaration : (t : Token) (at : At) → Back a_declaration t at (declaration_move t)
back_declaration (token.Sign sign.Param) at =
    λ p k (l1, (n, e1), (l2, e2, (l3, (v, e3), (l4, e4, e5)))).
    (placed_sign sign.Param at, refl, refl, (param at n v, rw (e1, e2, e3, e4, e5)))
back_declaration (token.Sign sign.State) at =
    λ p k (l1, cell, e1). (placed_sign sign.State at, refl, refl, rw (sym e1) (cell at))
back_declaration (token.Sign sign.Header) at =
    λ p k (l1, (n, e1), (l2, e2, (l3, (fields, e3), (l4, e4, (l5, (ending, e5), (l6, e6, e7)))))).
    (placed_sign sign.Header at, refl, refl, (header at n fields ending, rw (e1, e2, e3, e4, e5, e6, e7)))
back_declaration _ at = tt

back_declarations : (t : Token) (at : At) → Back declarations t at (begun (declarations ∷ []) (declaration_move t))
back_declarations t at =
    back_begun a_declaration declarations (declarations ∷ []) t at (declaration_move t)
    (λ p l k (d, e) (l1, (rest, e1), e2). (d ∷ rest, rw (e, e1, e2))) (λ k. ([], refl)) (back_declaration t at)

back_layer : (t : Token) (at : At) → Back a_layer t at (layer_move t)
back_layer (token.Sign sign.Layer) at =
    λ p k (l1, (n, e1), (l2, e2, (l3, (ds, e3), (l4, (hs, e4), (l5, e5, e6))))). (
      placed_sign sign.Layer at,
      refl,
      refl,
      (record { at = at; name = n; declarations = ds; handlers = hs }, rw (e1, e2, e3, e4, e5, e6)),
    )
back_layer _ at = tt

back_layers : (t : Token) (at : At) → Back layers t at (begun (layers ∷ []) (layer_move t))
back_layers t at =
    back_begun a_layer layers (layers ∷ []) t at (layer_move t)
    (λ p l k (x, e) (l1, (rest, e1), e2). (x ∷ rest, rw (e, e1, e2))) (λ k. ([], refl)) (back_layer t at)

back_more_given : (t : Token) (at : At) → Back more_given t at (more_given_move t)
back_more_given (token.Sign sign.Comma) at =
    λ p k (l1, (n, e1), (l2, e2, (l3, (v, e3), (l4, (rest, e4), e5)))).
    (plain sign.Comma, refl, tt, (record { name = n; value = v } ∷ rest, rw (e1, e2, e3, e4, e5)))
back_more_given _ at = λ k. ([], refl)

back_some_given : (t : Token) (at : At) → Back some_given t at (some_given_move t)
back_some_given (token.Sign sign.LeftParen) at =
    λ p k (l1, (n, e1), (l2, e2, (l3, (v, e3), (l4, (rest, e4), (l5, e5, e6))))).
    (plain sign.LeftParen, refl, tt, (record { name = n; value = v } ∷ rest, rw (e1, e2, e3, e4, e5, e6)))
back_some_given _ at = λ k. ([], refl)

back_place : (t : Token) (at : At) → Back a_place t at (place_move t)
back_place (token.Name w) at =
    λ p k (l1, (given, e1), (l2, e2, e3)). (
      name (record { at = at; word = w }),
      refl,
      refl,
      (record { name = record { at = at; word = w }; given = given }, rw (e1, e2, e3)),
    )
back_place _ at = tt

back_places : (t : Token) (at : At) → Back places t at (begun (places ∷ []) (place_move t))
back_places t at =
    back_begun a_place places (places ∷ []) t at (place_move t)
    (λ p l k (x, e) (l1, (rest, e1), e2). (x ∷ rest, rw (e, e1, e2))) (λ k. ([], refl)) (back_place t at)

-- one step back, whatever is expected and whatever the token is
pub back : (s : Symbol) (t : Token) (at : At) → Back s t at (move s t)
back (one s) t at = back_one s t at (is_sign s t) refl
back a_name t at = back_name t at
back a_number t at = back_number t at
back a_kind t at = back_kind t at
back a_size t at = back_size t at
back a_sort t at = back_sort t at
back an_ending t at = back_ending t at
back an_operator t at = back_operator t at
back an_expression t at = back_expression t at
back an_index t at = back_index t at
back a_message t at = back_message t at
back a_built t at = back_built t at
back an_argument t at = back_argument t at
back more_arguments t at = back_more_arguments t at
back some_arguments t at = back_some_arguments t at
back a_pushed t at = back_pushed t at
back a_likely t at = back_likely t at
back an_otherwise t at = back_otherwise t at
back a_statement t at = back_statement t at
back statements t at = back_statements t at
back more_names t at = back_more_names t at
back some_names t at = back_some_names t at
back a_popped t at = back_popped t at
back an_expected t at = back_expected t at
back a_handler t at = back_handler t at
back handlers t at = back_handlers t at
back a_square t at = back_square t at
back a_shape t at = back_shape t at
back an_initial t at = back_initial t at
back a_capacity t at = back_capacity t at
back more_items t at = back_more_items t at
back a_cell t at = back_cell t at
back a_declaration t at = back_declaration t at
back declarations t at = back_declarations t at
back a_layer t at = back_layer t at
back layers t at = back_layers t at
back more_given t at = back_more_given t at
back some_given t at = back_some_given t at
back a_place t at = back_place t at
back places t at = back_places t at

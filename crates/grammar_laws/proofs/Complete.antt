-- The machine takes what the printer writes.
use Rattle.std.proofs.Common.{◌≡◌, ◌≢◌, Bool, true, false, List, [], ◌∷◌, ◌++◌, map, Option, Some, None, refl, ap, ◌∙◌}
use Rattle.layer_ast.specs.declared.names.Name.{Name}
use Rattle.layer_words.specs.declared.events.Dir.{Dir}
use Rattle.layer_words.specs.declared.events.Dir.TheVariants.{Up, Down}
use Rattle.layer_words.specs.declared.signs.Sign.TheVariants as sign
use Rattle.layer_ast.specs.declared.tokens.Token.{Token}
use Rattle.layer_ast.specs.declared.tokens.Token.TheVariants as token
use Rattle.layer_ast.specs.declared.syntax.Ending.{Ending}
use Rattle.layer_ast.specs.declared.syntax.Ending.TheVariants.{Passes, Ends}
use Rattle.layer_words.specs.declared.operators.Function.{Function}
use Rattle.layer_words.specs.declared.operators.Function.TheVariants.{Not, Bit, Count, Lowest}
use Rattle.layer_words.specs.declared.sorts.Likely.{Likely}
use Rattle.layer_words.specs.declared.sorts.Likely.TheVariants as likely_word
use Rattle.layer_words.specs.declared.operators.Operator.{Operator}
use Rattle.layer_words.specs.declared.operators.Operator.TheVariants.{Add, Subtract, Multiply, Equal, NotEqual, Less}
use Rattle.layer_words.specs.declared.operators.Operator.TheVariants.{LessOrEqual, Greater, GreaterOrEqual, And, Or}
use Rattle.layer_words.specs.declared.operators.Operator.TheVariants.{BitAnd}
use Rattle.layer_words.specs.declared.operators.Operator.TheVariants.{BitOr, BitXor}
use Rattle.layer_words.specs.declared.sorts.Shape.{Shape}
use Rattle.layer_words.specs.declared.sorts.Shape.TheVariants.{One, Array, Square}
use Rattle.layer_words.specs.declared.sorts.Sort.{Sort}
use Rattle.layer_words.specs.declared.sorts.Sort.TheVariants.{Int, Msg, Part}
use Rattle.layer_ast.specs.Tree.{ExpressionTree, number, me, members, ltime, named, element, square, rows, item, size}
use Rattle.layer_ast.specs.Tree.{binary, apply, pick, QueueTree, queue, queue_at, MessageTree, bare, built, BuiltTree}
use Rattle.layer_ast.specs.Tree.{nothing, held, cut, tail, join, ArgumentTree, value, content, NamesTree, ArgumentsTree}
use Rattle.layer_ast.specs.Tree.{PoppedTree, PushedTree, SizeTree, fixed, sized, StatementTree, bind, set, set_square}
use Rattle.layer_ast.specs.Tree.{push, take, when, choose, each, emit, StatementTrees, none, more, Expected, always}
use Rattle.layer_ast.specs.Tree.{common, rare, HandlerTree, ItemTree, ItemsTree, DeclarationTree, param, int, rows_cell}
use Rattle.layer_ast.specs.Tree.{rows_array, header, LayerTree, GivenTree, PlaceTree, FileTree}
use Rattle.layer_ast.specs.Print as print
use Rattle.layer_ast.specs.Printed.{Printed, plain, name, kind, ending_sign}
use Rattle.layer_words.specs.Signs.{direction_sign, sort_sign, function_sign}
use Rattle.layer_words.specs.Signs.{operator_sign}
use Rattle.layer_ast.specs.Spells.{HasPlace}
use Rattle.grammar_laws.specs.Machine.{Symbol, one, a_name, a_size, a_sort, an_ending, an_operator, an_expression}
use Rattle.grammar_laws.specs.Machine.{an_index, a_message, a_built, an_argument, more_arguments, some_arguments}
use Rattle.grammar_laws.specs.Machine.{a_pushed, a_likely, an_otherwise, a_statement, statements, a_block, more_names}
use Rattle.grammar_laws.specs.Machine.{some_names, a_popped, an_expected, handlers, a_shape, an_initial, a_capacity}
use Rattle.grammar_laws.specs.Machine.{more_items, a_declaration, declarations, a_layer, layers, more_given, some_given}
use Rattle.grammar_laws.specs.Machine.{a_place, places, Move, eats, skips, refuses, move, all_optional, stack_after}
use Rattle.grammar_laws.specs.Machine.{feed}
use Rattle.grammar_laws.specs.Machine.{operand, emission, handling, start}
use Rattle.grammar_laws.proofs.Begins.{NoIndex, form_of}
use Rattle.grammar_laws.proofs.Signs.{operator_ends}

-- the tokens of what is printed
abbrev pub toks : List Printed → List Token
toks printed = map (λ p. p.token) printed

abbrev pub accepts_after : Option (List Symbol) → (List Symbol → Bool) → Bool
accepts_after None go = false
accepts_after (Some stack) go = go stack

-- whether the machine, with room for any number of brackets, takes the tokens to the end
abbrev pub accepts : List Symbol → List Token → Bool
accepts stack [] = all_optional stack
accepts stack (t ∷ tokens) = accepts_after (feed stack t) (λ expected. accepts expected tokens)

abbrev pub IsSkip : Move → Type 0
IsSkip skips = Unit {0}
IsSkip _ = ⊥

-- an optional symbol is left out at the next token, of which there is one
abbrev pub IsLeftOut : Symbol → List Printed → Type 0
IsLeftOut s [] = ⊥
IsLeftOut s (p ∷ printed) = IsSkip (move s p.token)

moved_skip : (m : Move) (stack : List Symbol) (skipped : Option (List Symbol)) → IsSkip m →
    stack_after m stack skipped ≡ skipped
moved_skip (eats expected) stack skipped free = absurd free
moved_skip skips stack skipped free = refl
moved_skip refuses stack skipped free = absurd free

pub left_out : (s : Symbol) (stack : List Symbol) (k : List Printed) → IsLeftOut s k →
    accepts (s ∷ stack) (toks k) ≡ accepts stack (toks k)
left_out s stack [] free = absurd free
left_out s stack (p ∷ k) free =
    ap (λ o. accepts_after o (λ expected. accepts expected (toks k)))
    (moved_skip (move s p.token) stack (feed stack p.token) free)

-- an operator's sign is taken, and no index can stand there
operator_drives : (o : Operator) (stack : List Symbol) (tokens : List Token) →
    accepts (an_operator ∷ stack) (token.Sign (operator_sign o) ∷ tokens) ≡ accepts stack tokens
operator_drives Add stack tokens = refl
operator_drives Subtract stack tokens = refl
operator_drives Multiply stack tokens = refl
operator_drives Equal stack tokens = refl
operator_drives NotEqual stack tokens = refl
operator_drives Less stack tokens = refl
operator_drives LessOrEqual stack tokens = refl
operator_drives Greater stack tokens = refl
operator_drives GreaterOrEqual stack tokens = refl
operator_drives And stack tokens = refl
operator_drives Or stack tokens = refl
operator_drives BitAnd stack tokens = refl
operator_drives BitOr stack tokens = refl
operator_drives BitXor stack tokens = refl

-- where no index begins, one is left out
no_index_skips : (t : Token) → NoIndex (form_of t) → IsSkip (move an_index t)
no_index_skips (token.Sign sign.LeftBracket) free = free
no_index_skips _ free = tt

operator_skips : (o : Operator) → IsSkip (move an_index (token.Sign (operator_sign o)))
operator_skips o = no_index_skips (token.Sign (operator_sign o)) (operator_ends o)

-- a function's word begins an expression, and an argument, and it isn't a prediction
function_begins : (f : Function) (stack : List Symbol) (tokens : List Token) →
    accepts (an_expression ∷ stack) (token.Sign (function_sign f) ∷ tokens) ≡ accepts (operand ++ stack) tokens
function_begins Not stack tokens = refl
function_begins Bit stack tokens = refl
function_begins Count stack tokens = refl
function_begins Lowest stack tokens = refl

function_argument : (f : Function) (stack : List Symbol) (tokens : List Token) →
    accepts (an_argument ∷ stack) (token.Sign (function_sign f) ∷ tokens)
    ≡ accepts (an_expression ∷ stack) (token.Sign (function_sign f) ∷ tokens)
function_argument Not stack tokens = refl
function_argument Bit stack tokens = refl
function_argument Count stack tokens = refl
function_argument Lowest stack tokens = refl

function_arguments : (f : Function) (stack : List Symbol) (tokens : List Token) →
    accepts (some_arguments ∷ stack) (token.Sign (function_sign f) ∷ tokens)
    ≡ accepts (an_argument ∷ more_arguments ∷ stack) (token.Sign (function_sign f) ∷ tokens)
function_arguments Not stack tokens = refl
function_arguments Bit stack tokens = refl
function_arguments Count stack tokens = refl
function_arguments Lowest stack tokens = refl

function_unlikely : (f : Function) → IsSkip (move a_likely (token.Sign (function_sign f)))
function_unlikely Not = tt
function_unlikely Bit = tt
function_unlikely Count = tt
function_unlikely Lowest = tt

-- a message that is built begins a message
built_message : (b : BuiltTree) (stack : List Symbol) (k : List Printed) →
    accepts (a_message ∷ stack) (toks (print.built b k)) ≡ accepts (a_built ∷ stack) (toks (print.built b k))
built_message (nothing at) stack k = refl
built_message (held at q row) stack k = refl
built_message (cut at m from length) stack k = refl
built_message (tail at m from) stack k = refl
built_message (join at first second) stack k = refl

mutual
  -- an expression is taken whole where no index can follow
  pub expression_drives : (e : ExpressionTree) (stack : List Symbol) (k : List Printed) → IsLeftOut an_index k →
      accepts (an_expression ∷ stack) (toks (print.expression e k)) ≡ accepts stack (toks k)
  expression_drives (number at n) stack k free = refl
  expression_drives (me at) stack k free = refl
  expression_drives (members at) stack k free = refl
  expression_drives (ltime at) stack k free = refl
  expression_drives (named n) stack k free =
      left_out an_index (an_index ∷ stack) k free ∙ left_out an_index stack k free
  expression_drives (element n index) stack k free =
      expression_drives index (one sign.RightBracket ∷ an_index ∷ stack) (plain sign.RightBracket ∷ k) tt
      ∙ left_out an_index stack k free
  expression_drives (square n row column) stack k free =
      expression_drives row (one sign.RightBracket ∷ an_index ∷ stack)
      (plain sign.RightBracket ∷ plain sign.LeftBracket ∷ print.expression column (plain sign.RightBracket ∷ k)) tt
      ∙ expression_drives column (one sign.RightBracket ∷ stack) (plain sign.RightBracket ∷ k) tt
  expression_drives (rows at q) stack k free =
      queue_drives q (one sign.RightParen ∷ stack) (plain sign.RightParen ∷ k) tt
  expression_drives (item at q row label) stack k free =
      queue_drives q
      (one sign.Comma ∷ an_expression ∷ one sign.RightParen ∷ one sign.Dot ∷ a_name ∷ stack)
      (plain sign.Comma ∷ print.expression row (plain sign.RightParen ∷ plain sign.Dot ∷ name label ∷ k)) tt
      ∙ expression_drives row (one sign.RightParen ∷ one sign.Dot ∷ a_name ∷ stack)
      (plain sign.RightParen ∷ plain sign.Dot ∷ name label ∷ k) tt
  expression_drives (size at m) stack k free =
      message_drives m (one sign.RightParen ∷ stack) (plain sign.RightParen ∷ k)
  expression_drives (binary at left operator right) stack k free =
      let following = print.expression right (plain sign.RightParen ∷ k) in
      expression_drives left (an_operator ∷ an_expression ∷ one sign.RightParen ∷ stack)
      (plain (operator_sign operator) ∷ following) (operator_skips operator)
      ∙ (operator_drives operator (an_expression ∷ one sign.RightParen ∷ stack) (toks following)
      ∙ expression_drives right (one sign.RightParen ∷ stack) (plain sign.RightParen ∷ k) tt)
  expression_drives (apply at function x) stack k free =
      function_begins function stack
      (toks (plain sign.LeftParen ∷ print.expression x (plain sign.RightParen ∷ k)))
      ∙ expression_drives x (one sign.RightParen ∷ stack) (plain sign.RightParen ∷ k) tt
  expression_drives (pick at condition first second) stack k free =
      let last = print.expression second (plain sign.RightParen ∷ k) in
      let following = print.expression first (plain sign.Comma ∷ last) in
      expression_drives condition
      (one sign.Comma ∷ an_expression ∷ one sign.Comma ∷ an_expression ∷ one sign.RightParen ∷ stack)
      (plain sign.Comma ∷ following) tt
      ∙ (expression_drives first (one sign.Comma ∷ an_expression ∷ one sign.RightParen ∷ stack)
      (plain sign.Comma ∷ last) tt
      ∙ expression_drives second (one sign.RightParen ∷ stack) (plain sign.RightParen ∷ k) tt)

  pub queue_drives : (q : QueueTree) (stack : List Symbol) (k : List Printed) → IsLeftOut an_index k →
      accepts (a_name ∷ an_index ∷ stack) (toks (print.queue q k)) ≡ accepts stack (toks k)
  queue_drives (queue n) stack k free = left_out an_index stack k free
  queue_drives (queue_at n index) stack k free =
      expression_drives index (one sign.RightBracket ∷ stack) (plain sign.RightBracket ∷ k) tt

  pub message_drives : (m : MessageTree) (stack : List Symbol) (k : List Printed) →
      accepts (a_message ∷ stack) (toks (print.message m k)) ≡ accepts stack (toks k)
  message_drives (bare n) stack k = refl
  message_drives (built b) stack k = built_message b stack k ∙ built_drives b stack k

  pub built_drives : (b : BuiltTree) (stack : List Symbol) (k : List Printed) →
      accepts (a_built ∷ stack) (toks (print.built b k)) ≡ accepts stack (toks k)
  built_drives (nothing at) stack k = refl
  built_drives (held at q row) stack k =
      queue_drives q (one sign.Comma ∷ an_expression ∷ one sign.RightParen ∷ stack)
      (plain sign.Comma ∷ print.expression row (plain sign.RightParen ∷ k)) tt
      ∙ expression_drives row (one sign.RightParen ∷ stack) (plain sign.RightParen ∷ k) tt
  built_drives (cut at m from length) stack k =
      let last = print.expression length (plain sign.RightParen ∷ k) in
      message_drives m
      (one sign.Comma ∷ an_expression ∷ one sign.Comma ∷ an_expression ∷ one sign.RightParen ∷ stack)
      (plain sign.Comma ∷ print.expression from (plain sign.Comma ∷ last))
      ∙ (expression_drives from (one sign.Comma ∷ an_expression ∷ one sign.RightParen ∷ stack) (plain sign.Comma ∷ last)
      tt
      ∙ expression_drives length (one sign.RightParen ∷ stack) (plain sign.RightParen ∷ k) tt)
  built_drives (tail at m from) stack k =
      message_drives m (one sign.Comma ∷ an_expression ∷ one sign.RightParen ∷ stack)
      (plain sign.Comma ∷ print.expression from (plain sign.RightParen ∷ k))
      ∙ expression_drives from (one sign.RightParen ∷ stack) (plain sign.RightParen ∷ k) tt
  built_drives (join at first second) stack k =
      message_drives first (one sign.Comma ∷ a_message ∷ one sign.RightParen ∷ stack)
      (plain sign.Comma ∷ print.message second (plain sign.RightParen ∷ k))
      ∙ message_drives second (one sign.RightParen ∷ stack) (plain sign.RightParen ∷ k)

-- an expression and a message that is built begin an argument
expression_argument : (e : ExpressionTree) (stack : List Symbol) (k : List Printed) →
    accepts (an_argument ∷ stack) (toks (print.expression e k))
    ≡ accepts (an_expression ∷ stack) (toks (print.expression e k))
expression_argument (apply at f x) stack k =
    function_argument f stack (toks (plain sign.LeftParen ∷ print.expression x (plain sign.RightParen ∷ k)))
expression_argument (number at n) stack k = refl
expression_argument (me at) stack k = refl
expression_argument (members at) stack k = refl
expression_argument (ltime at) stack k = refl
expression_argument (named n) stack k = refl
expression_argument (element n index) stack k = refl
expression_argument (square n row column) stack k = refl
expression_argument (rows at q) stack k = refl
expression_argument (item at q row label) stack k = refl
expression_argument (size at m) stack k = refl
expression_argument (binary at left operator right) stack k = refl
expression_argument (pick at condition first second) stack k = refl

built_argument : (b : BuiltTree) (stack : List Symbol) (k : List Printed) →
    accepts (an_argument ∷ stack) (toks (print.built b k)) ≡ accepts (a_built ∷ stack) (toks (print.built b k))
built_argument (nothing at) stack k = refl
built_argument (held at q row) stack k = refl
built_argument (cut at m from length) stack k = refl
built_argument (tail at m from) stack k = refl
built_argument (join at first second) stack k = refl

argument_drives : (a : ArgumentTree) (stack : List Symbol) (k : List Printed) → IsLeftOut an_index k →
    accepts (an_argument ∷ stack) (toks (print.argument a k)) ≡ accepts stack (toks k)
argument_drives (value e) stack k free = expression_argument e stack k ∙ expression_drives e stack k free
argument_drives (content b) stack k free = built_argument b stack k ∙ built_drives b stack k

-- arguments up to the parenthesis
arguments_end : (rest : List ArgumentTree) (k : List Printed) →
    IsLeftOut an_index (print.more_arguments rest (plain sign.RightParen ∷ k))
arguments_end [] k = tt
arguments_end (a ∷ rest) k = tt

more_arguments_drive : (rest : List ArgumentTree) (stack : List Symbol) (k : List Printed) →
    accepts (more_arguments ∷ stack) (toks (print.more_arguments rest (plain sign.RightParen ∷ k)))
    ≡ accepts stack (toks (plain sign.RightParen ∷ k))
more_arguments_drive [] stack k = refl
more_arguments_drive (a ∷ rest) stack k =
    argument_drives a (more_arguments ∷ stack) (print.more_arguments rest (plain sign.RightParen ∷ k))
    (arguments_end rest k)
    ∙ more_arguments_drive rest stack k

arguments_drive : (es : ArgumentsTree) (stack : List Symbol) (k : List Printed) →
    accepts (an_argument ∷ more_arguments ∷ stack) (toks (print.arguments es (plain sign.RightParen ∷ k)))
    ≡ accepts stack (toks (plain sign.RightParen ∷ k))
arguments_drive es stack k =
    argument_drives es.first (more_arguments ∷ stack) (print.more_arguments es.rest (plain sign.RightParen ∷ k))
    (arguments_end es.rest k)
    ∙ more_arguments_drive es.rest stack k

expression_arguments : (e : ExpressionTree) (stack : List Symbol) (k : List Printed) →
    accepts (some_arguments ∷ stack) (toks (print.expression e k))
    ≡ accepts (an_argument ∷ more_arguments ∷ stack) (toks (print.expression e k))
expression_arguments (apply at f x) stack k =
    function_arguments f stack (toks (plain sign.LeftParen ∷ print.expression x (plain sign.RightParen ∷ k)))
expression_arguments (number at n) stack k = refl
expression_arguments (me at) stack k = refl
expression_arguments (members at) stack k = refl
expression_arguments (ltime at) stack k = refl
expression_arguments (named n) stack k = refl
expression_arguments (element n index) stack k = refl
expression_arguments (square n row column) stack k = refl
expression_arguments (rows at q) stack k = refl
expression_arguments (item at q row label) stack k = refl
expression_arguments (size at m) stack k = refl
expression_arguments (binary at left operator right) stack k = refl
expression_arguments (pick at condition first second) stack k = refl

some_as_arguments : (a : ArgumentTree) (stack : List Symbol) (k : List Printed) →
    accepts (some_arguments ∷ stack) (toks (print.argument a k))
    ≡ accepts (an_argument ∷ more_arguments ∷ stack) (toks (print.argument a k))
some_as_arguments (value e) stack k = expression_arguments e stack k
some_as_arguments (content (nothing at)) stack k = refl
some_as_arguments (content (held at q row)) stack k = refl
some_as_arguments (content (cut at m from length)) stack k = refl
some_as_arguments (content (tail at m from)) stack k = refl
some_as_arguments (content (join at first second)) stack k = refl

some_arguments_drive : (fields : Option ArgumentsTree) (stack : List Symbol) (k : List Printed) →
    accepts (some_arguments ∷ stack) (toks (print.some_arguments fields (plain sign.RightParen ∷ k)))
    ≡ accepts stack (toks (plain sign.RightParen ∷ k))
some_arguments_drive None stack k = refl
some_arguments_drive (Some es) stack k =
    some_as_arguments es.first stack (print.more_arguments es.rest (plain sign.RightParen ∷ k))
    ∙ arguments_drive es stack k

pushed_drives : (p : Option PushedTree) (stack : List Symbol) (k : List Printed) →
    accepts (a_pushed ∷ stack) (toks (print.pushed p (plain sign.Semicolon ∷ k)))
    ≡ accepts stack (toks (plain sign.Semicolon ∷ k))
pushed_drives None stack k = refl
pushed_drives (Some p) stack k =
    some_arguments_drive p.fields (one sign.RightParen ∷ stack) (plain sign.Semicolon ∷ k)

-- an expression doesn't begin as a prediction of a condition does
expression_unlikely : (e : ExpressionTree) (k : List Printed) → IsLeftOut a_likely (print.expression e k)
expression_unlikely (apply at f x) k = function_unlikely f
expression_unlikely (number at n) k = tt
expression_unlikely (me at) k = tt
expression_unlikely (members at) k = tt
expression_unlikely (ltime at) k = tt
expression_unlikely (named n) k = tt
expression_unlikely (element n index) k = tt
expression_unlikely (square n row column) k = tt
expression_unlikely (rows at q) k = tt
expression_unlikely (item at q row label) k = tt
expression_unlikely (size at m) k = tt
expression_unlikely (binary at left operator right) k = tt
expression_unlikely (pick at condition first second) k = tt

condition_drives : (l : Likely) (e : ExpressionTree) (stack : List Symbol) (k : List Printed) →
    accepts (a_likely ∷ an_expression ∷ stack) (toks (print.likely l (print.expression e (plain sign.LeftBrace ∷ k))))
    ≡ accepts stack (toks (plain sign.LeftBrace ∷ k))
condition_drives likely_word.First e stack k =
    left_out a_likely (an_expression ∷ stack) (print.expression e (plain sign.LeftBrace ∷ k))
    (expression_unlikely e (plain sign.LeftBrace ∷ k))
    ∙ expression_drives e stack (plain sign.LeftBrace ∷ k) tt
condition_drives likely_word.Else e stack k = expression_drives e stack (plain sign.LeftBrace ∷ k) tt
condition_drives likely_word.Two e stack k = expression_drives e stack (plain sign.LeftBrace ∷ k) tt

-- the word of a direction begins an emission or a handler
emission_begins : (d : Dir) (stack : List Symbol) (tokens : List Token) →
    accepts (a_statement ∷ stack) (token.Sign (direction_sign d) ∷ tokens) ≡ accepts (emission ++ stack) tokens
emission_begins Up stack tokens = refl
emission_begins Down stack tokens = refl

handlers_go_on : (d : Dir) (stack : List Symbol) (tokens : List Token) →
    accepts (handlers ∷ stack) (token.Sign (direction_sign d) ∷ tokens)
    ≡ accepts (handling ++ (handlers ∷ stack)) tokens
handlers_go_on Up stack tokens = refl
handlers_go_on Down stack tokens = refl

size_drives : (s : SizeTree) (stack : List Symbol) (k : List Printed) →
    accepts (a_size ∷ stack) (toks (print.size s ∷ k)) ≡ accepts stack (toks k)
size_drives (fixed at n) stack k = refl
size_drives (sized n) stack k = refl

more_names_drive : (rest : List Name) (stack : List Symbol) (k : List Printed) →
    accepts (more_names ∷ stack) (toks (print.more_names rest (plain sign.RightParen ∷ k)))
    ≡ accepts stack (toks (plain sign.RightParen ∷ k))
more_names_drive [] stack k = refl
more_names_drive (n ∷ rest) stack k = more_names_drive rest stack k

some_names_drive : (fields : Option NamesTree) (stack : List Symbol) (k : List Printed) →
    accepts (some_names ∷ stack) (toks (print.some_names fields (plain sign.RightParen ∷ k)))
    ≡ accepts stack (toks (plain sign.RightParen ∷ k))
some_names_drive None stack k = refl
some_names_drive (Some ns) stack k = more_names_drive ns.rest stack k

-- a statement isn't another way of a condition
statement_over : (s : StatementTree) (k : List Printed) → IsLeftOut an_otherwise (print.statement s k)
statement_over (bind at n e) k = tt
statement_over (set at n index e) k = tt
statement_over (set_square at n row column e) k = tt
statement_over (push at q items o) k = tt
statement_over (take at q ns b o) k = tt
statement_over (when at l c b) k = tt
statement_over (choose at l c b o) k = tt
statement_over (each at n e m b) k = tt
statement_over (emit at Up what es p) k = tt
statement_over (emit at Down what es p) k = tt

statements_over : (b : StatementTrees) (k : List Printed) →
    IsLeftOut an_otherwise (print.statements b (plain sign.RightBrace ∷ k))
statements_over none k = tt
statements_over (more s rest) k = statement_over s (print.statements rest (plain sign.RightBrace ∷ k))

statements_go_on : (s : StatementTree) (stack : List Symbol) (k : List Printed) →
    accepts (statements ∷ stack) (toks (print.statement s k))
    ≡ accepts (a_statement ∷ statements ∷ stack) (toks (print.statement s k))
statements_go_on (bind at n e) stack k = refl
statements_go_on (set at n index e) stack k = refl
statements_go_on (set_square at n row column e) stack k = refl
statements_go_on (push at q items o) stack k = refl
statements_go_on (take at q ns b o) stack k = refl
statements_go_on (when at l c b) stack k = refl
statements_go_on (choose at l c b o) stack k = refl
statements_go_on (each at n e m b) stack k = refl
statements_go_on (emit at Up what es p) stack k = refl
statements_go_on (emit at Down what es p) stack k = refl

mutual
  -- a statement is taken whole where no other way of a condition can follow
  pub statement_drives : (s : StatementTree) (stack : List Symbol) (k : List Printed) → IsLeftOut an_otherwise k →
      accepts (a_statement ∷ stack) (toks (print.statement s k)) ≡ accepts stack (toks k)
  statement_drives (bind at n e) stack k free =
      expression_drives e (one sign.Semicolon ∷ stack) (plain sign.Semicolon ∷ k) tt
  statement_drives (set at n None e) stack k free =
      expression_drives e (one sign.Semicolon ∷ stack) (plain sign.Semicolon ∷ k) tt
  statement_drives (set at n (Some i) e) stack k free =
      expression_drives i (one sign.RightBracket ∷ an_index ∷ one sign.Assign ∷ an_expression ∷ one sign.Semicolon ∷
      stack)
      (plain sign.RightBracket ∷ plain sign.Assign ∷ print.expression e (plain sign.Semicolon ∷ k)) tt
      ∙ expression_drives e (one sign.Semicolon ∷ stack) (plain sign.Semicolon ∷ k) tt
  statement_drives (set_square at n i j e) stack k free =
      let last = plain sign.Assign ∷ print.expression e (plain sign.Semicolon ∷ k) in
      expression_drives i (one sign.RightBracket ∷ an_index ∷ one sign.Assign ∷ an_expression ∷ one sign.Semicolon ∷
      stack)
      (plain sign.RightBracket ∷ plain sign.LeftBracket ∷ print.expression j (plain sign.RightBracket ∷ last)) tt
      ∙ (expression_drives j (one sign.RightBracket ∷ one sign.Assign ∷ an_expression ∷ one sign.Semicolon ∷ stack)
      (plain sign.RightBracket ∷ last) tt
      ∙ expression_drives e (one sign.Semicolon ∷ stack) (plain sign.Semicolon ∷ k) tt)
  statement_drives (push at q items o) stack k free =
      let last = plain sign.Else ∷ print.block o k in
      queue_drives q
      (one sign.LeftParen ∷ an_argument ∷ more_arguments ∷ one sign.RightParen ∷ one sign.Else ∷ a_block ++ stack)
      (plain sign.LeftParen ∷ print.arguments items (plain sign.RightParen ∷ last)) tt
      ∙ (arguments_drive items (one sign.RightParen ∷ one sign.Else ∷ a_block ++ stack) last
      ∙ statements_drive o (one sign.RightBrace ∷ stack) k)
  statement_drives (take at q ns b o) stack k free =
      let last = plain sign.Else ∷ print.block o k in
      queue_drives q
      (one sign.LeftParen ∷ a_name ∷ more_names ∷ one sign.RightParen ∷ a_block ++ one sign.Else ∷ a_block ++ stack)
      (plain sign.LeftParen ∷ print.names ns (plain sign.RightParen ∷ print.block b last)) tt
      ∙ (more_names_drive ns.rest (one sign.RightParen ∷ a_block ++ one sign.Else ∷ a_block ++ stack)
      (print.block b last)
      ∙ (statements_drive b (one sign.RightBrace ∷ one sign.Else ∷ a_block ++ stack) last
      ∙ statements_drive o (one sign.RightBrace ∷ stack) k))
  statement_drives (when at l c b) stack k free =
      condition_drives l c (a_block ++ an_otherwise ∷ stack) (print.statements b (plain sign.RightBrace ∷ k))
      ∙ (statements_drive b (one sign.RightBrace ∷ an_otherwise ∷ stack) k ∙ left_out an_otherwise stack k free)
  statement_drives (choose at l c b o) stack k free =
      let last = plain sign.Else ∷ print.block o k in
      condition_drives l c (a_block ++ an_otherwise ∷ stack) (print.statements b (plain sign.RightBrace ∷ last))
      ∙ (statements_drive b (one sign.RightBrace ∷ an_otherwise ∷ stack) last
      ∙ statements_drive o (one sign.RightBrace ∷ stack) k)
  statement_drives (each at n e m b) stack k free =
      expression_drives e (one sign.Max ∷ a_size ∷ a_block ++ stack) (plain sign.Max ∷ print.size m ∷ print.block b k)
      tt
      ∙ (size_drives m (a_block ++ stack) (print.block b k) ∙ statements_drive b (one sign.RightBrace ∷ stack) k)
  statement_drives (emit at direction what es p) stack k free =
      let following = print.pushed p (plain sign.Semicolon ∷ k) in
      emission_begins direction stack
      (toks (kind what ∷ plain sign.LeftParen ∷ print.arguments es (plain sign.RightParen ∷ following)))
      ∙ (arguments_drive es (one sign.RightParen ∷ a_pushed ∷ one sign.Semicolon ∷ stack) following
      ∙ pushed_drives p (one sign.Semicolon ∷ stack) k)

  pub statements_drive : (b : StatementTrees) (stack : List Symbol) (k : List Printed) →
      accepts (statements ∷ stack) (toks (print.statements b (plain sign.RightBrace ∷ k)))
      ≡ accepts stack (toks (plain sign.RightBrace ∷ k))
  statements_drive none stack k = refl
  statements_drive (more s rest) stack k =
      let following = print.statements rest (plain sign.RightBrace ∷ k) in
      statements_go_on s stack following
      ∙ (statement_drives s (statements ∷ stack) following (statements_over rest k) ∙ statements_drive rest stack k)

expected_drives : (e : Expected) (stack : List Symbol) (k : List Printed) →
    accepts (an_expected ∷ stack) (toks (print.expected e (plain sign.LeftBrace ∷ k)))
    ≡ accepts stack (toks (plain sign.LeftBrace ∷ k))
expected_drives always stack k = refl
expected_drives (common condition) stack k = expression_drives condition stack (plain sign.LeftBrace ∷ k) tt
expected_drives rare stack k = refl

popped_drives : (p : Option PoppedTree) (e : Expected) (stack : List Symbol) (k : List Printed) →
    accepts (a_popped ∷ an_expected ∷ stack) (toks (print.popped p (print.expected e (plain sign.LeftBrace ∷ k))))
    ≡ accepts stack (toks (plain sign.LeftBrace ∷ k))
popped_drives None always stack k = refl
popped_drives None (common condition) stack k = expression_drives condition stack (plain sign.LeftBrace ∷ k) tt
popped_drives None rare stack k = refl
popped_drives (Some p) e stack k =
    some_names_drive p.fields (one sign.RightParen ∷ an_expected ∷ stack) (print.expected e (plain sign.LeftBrace ∷ k))
    ∙ expected_drives e stack k

-- what follows the direction of a handler
abbrev handling_of : HandlerTree → List Printed → List Printed
handling_of h k =
    kind h.kind ∷ plain sign.LeftParen
    ∷ print.names h.names
    (plain sign.RightParen ∷ print.popped h.popped (print.expected h.expected (print.block h.block k)))

handling_drives : (h : HandlerTree) (stack : List Symbol) (k : List Printed) →
    accepts (handling ++ stack) (toks (handling_of h k)) ≡ accepts stack (toks k)
handling_drives h stack k =
    more_names_drive h.names.rest (one sign.RightParen ∷ a_popped ∷ an_expected ∷ a_block ++ stack)
    (print.popped h.popped (print.expected h.expected (print.block h.block k)))
    ∙ (popped_drives h.popped h.expected (a_block ++ stack) (print.statements h.block (plain sign.RightBrace ∷ k))
    ∙ statements_drive h.block (one sign.RightBrace ∷ stack) k)

handlers_drive : (hs : List HandlerTree) (stack : List Symbol) (k : List Printed) →
    accepts (handlers ∷ stack) (toks (print.handlers hs (plain sign.RightBrace ∷ k)))
    ≡ accepts stack (toks (plain sign.RightBrace ∷ k))
handlers_drive [] stack k = refl
handlers_drive (h ∷ rest) stack k =
    let following = print.handlers rest (plain sign.RightBrace ∷ k) in
    handlers_go_on h.direction stack (toks (handling_of h following))
    ∙ (handling_drives h (handlers ∷ stack) following ∙ handlers_drive rest stack k)

-- the forms of cells
initial_end : (v : Option ExpressionTree) (k : List Printed) →
    IsLeftOut a_shape (print.initial v (plain sign.Semicolon ∷ k))
initial_end None k = tt
initial_end (Some e) k = tt

shape_drives : (s : Shape) (stack : List Symbol) (k : List Printed) → IsLeftOut a_shape k →
    accepts (a_shape ∷ stack) (toks (print.shape s k)) ≡ accepts stack (toks k)
shape_drives One stack k free = left_out a_shape stack k free
shape_drives Array stack k free = refl
shape_drives Square stack k free = refl

initial_drives : (v : Option ExpressionTree) (stack : List Symbol) (k : List Printed) →
    accepts (an_initial ∷ stack) (toks (print.initial v (plain sign.Semicolon ∷ k)))
    ≡ accepts stack (toks (plain sign.Semicolon ∷ k))
initial_drives None stack k = refl
initial_drives (Some e) stack k = expression_drives e stack (plain sign.Semicolon ∷ k) tt

sort_drives : (s : Sort) (stack : List Symbol) (tokens : List Token) →
    accepts (a_sort ∷ stack) (token.Sign (sort_sign s) ∷ tokens) ≡ accepts stack tokens
sort_drives Int stack tokens = refl
sort_drives Msg stack tokens = refl
sort_drives Part stack tokens = refl

more_items_drive : (rest : List ItemTree) (stack : List Symbol) (k : List Printed) →
    accepts (more_items ∷ stack) (toks (print.more_items rest (plain sign.RightParen ∷ k)))
    ≡ accepts stack (toks (plain sign.RightParen ∷ k))
more_items_drive [] stack k = refl
more_items_drive (i ∷ rest) stack k =
    sort_drives i.sort (more_items ∷ stack) (toks (print.more_items rest (plain sign.RightParen ∷ k)))
    ∙ more_items_drive rest stack k

-- what follows the capacity of a queue
abbrev after_capacity : List Symbol
after_capacity =
    one sign.RightBracket ∷ one sign.Of ∷ one sign.LeftParen ∷ a_name ∷ one sign.Colon ∷ a_sort ∷ more_items
    ∷ one sign.RightParen ∷ one sign.Semicolon ∷ []

abbrev rows_after : ItemsTree → List Printed → List Printed
rows_after is k =
    plain sign.RightBracket ∷ plain sign.Of ∷ plain sign.LeftParen
    ∷ print.item is.first (print.more_items is.rest (plain sign.RightParen ∷ plain sign.Semicolon ∷ k))

items_drive : (is : ItemsTree) (stack : List Symbol) (k : List Printed) →
    accepts (after_capacity ++ stack) (toks (rows_after is k)) ≡ accepts stack (toks k)
items_drive is stack k =
    sort_drives is.first.sort (more_items ∷ one sign.RightParen ∷ one sign.Semicolon ∷ stack)
    (toks (print.more_items is.rest (plain sign.RightParen ∷ plain sign.Semicolon ∷ k)))
    ∙ more_items_drive is.rest (one sign.RightParen ∷ one sign.Semicolon ∷ stack) (plain sign.Semicolon ∷ k)

capacity_drives : (s : SizeTree) (stack : List Symbol) (k : List Printed) →
    accepts (a_capacity ∷ stack) (toks (print.size s ∷ k)) ≡ accepts stack (toks k)
capacity_drives (fixed at n) stack k = refl
capacity_drives (sized n) stack k = refl

ending_drives : (e : Ending) (stack : List Symbol) (tokens : List Token) →
    accepts (an_ending ∷ stack) (token.Sign (ending_sign e) ∷ tokens) ≡ accepts stack tokens
ending_drives Passes stack tokens = refl
ending_drives Ends stack tokens = refl

declaration_drives : (d : DeclarationTree) (stack : List Symbol) (k : List Printed) →
    accepts (a_declaration ∷ stack) (toks (print.declaration d k)) ≡ accepts stack (toks k)
declaration_drives (param at n v) stack k = refl
declaration_drives (int at n s v) stack k =
    shape_drives s (an_initial ∷ one sign.Semicolon ∷ stack) (print.initial v (plain sign.Semicolon ∷ k))
    (initial_end v k)
    ∙ initial_drives v (one sign.Semicolon ∷ stack) k
declaration_drives (rows_cell at n capacity is) stack k =
    capacity_drives capacity (after_capacity ++ stack) (rows_after is k) ∙ items_drive is stack k
declaration_drives (rows_array at n capacity is) stack k =
    size_drives capacity (after_capacity ++ stack) (rows_after is k) ∙ items_drive is stack k
declaration_drives (header at n fields ending) stack k =
    some_names_drive fields (one sign.RightParen ∷ an_ending ∷ one sign.Semicolon ∷ stack)
    (plain (ending_sign ending) ∷ plain sign.Semicolon ∷ k)
    ∙ ending_drives ending (one sign.Semicolon ∷ stack) (toks (plain sign.Semicolon ∷ k))

declarations_go_on : (d : DeclarationTree) (stack : List Symbol) (k : List Printed) →
    accepts (declarations ∷ stack) (toks (print.declaration d k))
    ≡ accepts (a_declaration ∷ declarations ∷ stack) (toks (print.declaration d k))
declarations_go_on (param at n v) stack k = refl
declarations_go_on (int at n s v) stack k = refl
declarations_go_on (rows_cell at n capacity is) stack k = refl
declarations_go_on (rows_array at n capacity is) stack k = refl
declarations_go_on (header at n fields ending) stack k = refl

direction_ends : (d : Dir) → IsSkip (move declarations (token.Sign (direction_sign d)))
direction_ends Up = tt
direction_ends Down = tt

declarations_end : (hs : List HandlerTree) (k : List Printed) →
    IsLeftOut declarations (print.handlers hs (plain sign.RightBrace ∷ k))
declarations_end [] k = tt
declarations_end (h ∷ rest) k = direction_ends h.direction

declarations_drive : (ds : List DeclarationTree) (hs : List HandlerTree) (stack : List Symbol) (k : List Printed) →
    accepts (declarations ∷ stack) (toks (print.declarations ds (print.handlers hs (plain sign.RightBrace ∷ k))))
    ≡ accepts stack (toks (print.handlers hs (plain sign.RightBrace ∷ k)))
declarations_drive [] hs stack k =
    left_out declarations stack (print.handlers hs (plain sign.RightBrace ∷ k)) (declarations_end hs k)
declarations_drive (d ∷ rest) hs stack k =
    let following = print.declarations rest (print.handlers hs (plain sign.RightBrace ∷ k)) in
    declarations_go_on d stack following
    ∙ (declaration_drives d (declarations ∷ stack) following ∙ declarations_drive rest hs stack k)

-- what follows the first word of a layer
abbrev layer_of : LayerTree → List Printed → List Printed
layer_of l k =
    name l.name ∷ plain sign.LeftBrace
    ∷ print.declarations l.declarations (print.handlers l.handlers (plain sign.RightBrace ∷ k))

layering_drives : (l : LayerTree) (stack : List Symbol) (k : List Printed) →
    accepts (a_name ∷ one sign.LeftBrace ∷ declarations ∷ handlers ∷ one sign.RightBrace ∷ stack) (toks (layer_of l k))
    ≡ accepts stack (toks k)
layering_drives l stack k =
    declarations_drive l.declarations l.handlers (handlers ∷ one sign.RightBrace ∷ stack) k
    ∙ handlers_drive l.handlers (one sign.RightBrace ∷ stack) k

-- a layer alone
pub layer_drives : (l : LayerTree) (stack : List Symbol) (k : List Printed) →
    accepts (a_layer ∷ stack) (toks (print.layer l k)) ≡ accepts stack (toks k)
layer_drives l stack k = layering_drives l stack k

layers_drive : (ls : List LayerTree) (stack : List Symbol) (k : List Printed) →
    accepts (layers ∷ stack) (toks (print.layers ls (plain sign.Stack ∷ k)))
    ≡ accepts stack (toks (plain sign.Stack ∷ k))
layers_drive [] stack k = refl
layers_drive (l ∷ rest) stack k =
    layering_drives l (layers ∷ stack) (print.layers rest (plain sign.Stack ∷ k)) ∙ layers_drive rest stack k

-- places with the params that they give
more_given_drive : (rest : List GivenTree) (stack : List Symbol) (k : List Printed) →
    accepts (more_given ∷ stack) (toks (print.more_given rest (plain sign.RightParen ∷ k)))
    ≡ accepts stack (toks (plain sign.RightParen ∷ k))
more_given_drive [] stack k = refl
more_given_drive (g ∷ rest) stack k = more_given_drive rest stack k

given_drive : (given : List GivenTree) (stack : List Symbol) (k : List Printed) →
    accepts (some_given ∷ stack) (toks (print.all_given given (plain sign.Semicolon ∷ k)))
    ≡ accepts stack (toks (plain sign.Semicolon ∷ k))
given_drive [] stack k = refl
given_drive (g ∷ rest) stack k = more_given_drive rest (one sign.RightParen ∷ stack) (plain sign.Semicolon ∷ k)

places_drive : (ps : List PlaceTree) (stack : List Symbol) (k : List Printed) →
    accepts (places ∷ stack) (toks (print.places ps (plain sign.RightBrace ∷ k)))
    ≡ accepts stack (toks (plain sign.RightBrace ∷ k))
places_drive [] stack k = refl
places_drive (p ∷ rest) stack k =
    given_drive p.given (one sign.Semicolon ∷ places ∷ stack) (print.places rest (plain sign.RightBrace ∷ k))
    ∙ places_drive rest stack k

stack_drives : (ps : List PlaceTree) → ps ≢ [] →
    accepts (a_place ∷ places ∷ one sign.RightBrace ∷ []) (toks (print.places ps (plain sign.RightBrace ∷ []))) ≡ true
stack_drives [] some = absurd (some refl)
stack_drives (p ∷ rest) some =
    given_drive p.given (one sign.Semicolon ∷ places ∷ one sign.RightBrace ∷ [])
    (print.places rest (plain sign.RightBrace ∷ []))
    ∙ places_drive rest (one sign.RightBrace ∷ []) []

-- the tokens of a file are taken to the end
pub file_drives : (f : FileTree) → HasPlace f → accepts start (toks (print.file f)) ≡ true
file_drives f some =
    layers_drive f.layers (one sign.Stack ∷ one sign.LeftBrace ∷ a_place ∷ places ∷ one sign.RightBrace ∷ [])
    (plain sign.LeftBrace ∷ print.places f.places (plain sign.RightBrace ∷ []))
    ∙ stack_drives f.places some

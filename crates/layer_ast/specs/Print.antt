-- The tokens of a tree, each with its place where the tree keeps one. Each function prints before what follows.
use Rattle.std.specs.Prelude.{List, [], ◌∷◌, Option, Some, None}
use Rattle.layer_ast.specs.declared.names.Name.{Name}
use Rattle.layer_words.specs.declared.signs.Sign.TheVariants as sign
use Rattle.layer_words.specs.declared.sorts.Likely.{Likely}
use Rattle.layer_words.specs.declared.sorts.Likely.TheVariants as likely_word
use Rattle.layer_words.specs.declared.sorts.Shape.{Shape}
use Rattle.layer_words.specs.declared.sorts.Shape.TheVariants.{One, Array, Square}
use Rattle.layer_ast.specs.Printed.{Printed, plain, placed_sign, numeral, plain_numeral, name, kind}
use Rattle.layer_words.specs.Signs.{direction_sign}
use Rattle.layer_ast.specs.Printed.{ending_sign}
use Rattle.layer_words.specs.Signs.{sort_sign, function_sign, operator_sign}
use Rattle.layer_ast.specs.Tree as tree
use Rattle.layer_ast.specs.Tree.{ExpressionTree, QueueTree, MessageTree, BuiltTree, ArgumentTree, NamesTree}
use Rattle.layer_ast.specs.Tree.{ArgumentsTree, PoppedTree, PushedTree, SizeTree, StatementTree, StatementTrees}
use Rattle.layer_ast.specs.Tree.{Expected, HandlerTree, ItemTree, ItemsTree, DeclarationTree, LayerTree, GivenTree}
use Rattle.layer_ast.specs.Tree.{PlaceTree, FileTree}

abbrev mutual
  -- the tokens of an expression
  pub expression : ExpressionTree → List Printed → List Printed
  expression (tree.number at value) k = numeral value at ∷ k
  expression (tree.me at) k = placed_sign sign.Me at ∷ k
  expression (tree.members at) k = placed_sign sign.N at ∷ k
  expression (tree.ltime at) k = placed_sign sign.Ltime at ∷ k
  expression (tree.named n) k = name n ∷ k
  expression (tree.element n i) k = name n ∷ plain sign.LeftBracket ∷ expression i (plain sign.RightBracket ∷ k)
  expression (tree.square n i j) k =
      name n ∷ plain sign.LeftBracket
      ∷ expression i (plain sign.RightBracket ∷ plain sign.LeftBracket ∷ expression j (plain sign.RightBracket ∷ k))
  expression (tree.rows at q) k = placed_sign sign.Len at ∷ plain sign.LeftParen ∷ queue q (plain sign.RightParen ∷ k)
  expression (tree.item at q row label) k =
      placed_sign sign.AtRow at ∷ plain sign.LeftParen
      ∷ queue q (plain sign.Comma ∷ expression row (plain sign.RightParen ∷ plain sign.Dot ∷ name label ∷ k))
  expression (tree.size at m) k = placed_sign sign.Size at ∷ plain sign.LeftParen ∷
      message m (plain sign.RightParen ∷ k)
  expression (tree.binary at left operator right) k =
      placed_sign sign.LeftParen at
      ∷ expression left (plain (operator_sign operator) ∷ expression right (plain sign.RightParen ∷ k))
  expression (tree.apply at function operand) k =
      placed_sign (function_sign function) at ∷ plain sign.LeftParen ∷ expression operand (plain sign.RightParen ∷ k)
  expression (tree.pick at condition first second) k =
      placed_sign sign.Pick at ∷ plain sign.LeftParen
      ∷ expression condition (plain sign.Comma
      ∷ expression first (plain sign.Comma ∷ expression second (plain sign.RightParen ∷ k)))

  -- the tokens of a queue
  pub queue : QueueTree → List Printed → List Printed
  queue (tree.queue n) k = name n ∷ k
  queue (tree.queue_at n i) k = name n ∷ plain sign.LeftBracket ∷ expression i (plain sign.RightBracket ∷ k)

  -- the tokens of a message
  pub message : MessageTree → List Printed → List Printed
  message (tree.bare n) k = name n ∷ k
  message (tree.built b) k = built b k

  -- the tokens of a message that is no bare name
  pub built : BuiltTree → List Printed → List Printed
  built (tree.nothing at) k = placed_sign sign.Nothing at ∷ k
  built (tree.held at q row) k =
      placed_sign sign.Held at ∷ plain sign.LeftParen
      ∷ queue q (plain sign.Comma ∷ expression row (plain sign.RightParen ∷ k))
  built (tree.cut at m from length) k =
      placed_sign sign.Cut at ∷ plain sign.LeftParen
      ∷ message m (plain sign.Comma ∷
      expression from (plain sign.Comma ∷ expression length (plain sign.RightParen ∷ k)))
  built (tree.tail at m from) k =
      placed_sign sign.Tail at ∷ plain sign.LeftParen
      ∷ message m (plain sign.Comma ∷ expression from (plain sign.RightParen ∷ k))
  built (tree.join at first second) k =
      placed_sign sign.Join at ∷ plain sign.LeftParen
      ∷ message first (plain sign.Comma ∷ message second (plain sign.RightParen ∷ k))

-- names, each after a comma
abbrev pub more_names : List Name → List Printed → List Printed
more_names [] k = k
more_names (n ∷ rest) k = plain sign.Comma ∷ name n ∷ more_names rest k

-- names with commas between them
abbrev pub names : NamesTree → List Printed → List Printed
names ns k = name ns.first ∷ more_names ns.rest k

-- names that may be missing
abbrev pub some_names : Option NamesTree → List Printed → List Printed
some_names None k = k
some_names (Some ns) k = names ns k

-- the tokens of an argument
abbrev pub argument : ArgumentTree → List Printed → List Printed
argument (tree.value e) k = expression e k
argument (tree.content b) k = built b k

-- arguments, each after a comma
abbrev pub more_arguments : List ArgumentTree → List Printed → List Printed
more_arguments [] k = k
more_arguments (a ∷ rest) k = plain sign.Comma ∷ argument a (more_arguments rest k)

-- arguments with commas between them
abbrev pub arguments : ArgumentsTree → List Printed → List Printed
arguments es k = argument es.first (more_arguments es.rest k)

-- arguments that may be missing
abbrev pub some_arguments : Option ArgumentsTree → List Printed → List Printed
some_arguments None k = k
some_arguments (Some es) k = arguments es k

-- the header that an emission puts on, where it does
abbrev pub pushed : Option PushedTree → List Printed → List Printed
pushed None k = k
pushed (Some p) k =
    plain sign.With ∷ name p.name ∷ plain sign.LeftParen ∷ some_arguments p.fields (plain sign.RightParen ∷ k)

-- an index in square brackets, where there is one
abbrev pub index : Option ExpressionTree → List Printed → List Printed
index None k = k
index (Some e) k = plain sign.LeftBracket ∷ expression e (plain sign.RightBracket ∷ k)

-- the token of a size
abbrev pub size : SizeTree → Printed
size (tree.fixed at value) = numeral value at
size (tree.sized n) = name n

-- what says that a condition is predicted not to hold
abbrev pub likely : Likely → List Printed → List Printed
likely likely_word.First k = k
likely likely_word.Else k = plain sign.Rare ∷ k
likely likely_word.Two k = plain sign.Two ∷ k

abbrev mutual
  -- the tokens of a statement
  pub statement : StatementTree → List Printed → List Printed
  statement (tree.bind at n value) k =
      placed_sign sign.Let at ∷ name n ∷ plain sign.Assign ∷ expression value (plain sign.Semicolon ∷ k)
  statement (tree.set at n i value) k =
      placed_sign sign.Set at ∷ name n ∷ index i (plain sign.Assign ∷ expression value (plain sign.Semicolon ∷ k))
  statement (tree.set_square at n i j value) k =
      placed_sign sign.Set at ∷ name n ∷ plain sign.LeftBracket
      ∷ expression i (plain sign.RightBracket ∷ plain sign.LeftBracket
      ∷ expression j (plain sign.RightBracket ∷ plain sign.Assign ∷ expression value (plain sign.Semicolon ∷ k)))
  statement (tree.push at q items otherwise) k =
      placed_sign sign.Push at
      ∷ queue q (plain sign.LeftParen
      ∷ arguments items (plain sign.RightParen ∷ plain sign.Else ∷ plain sign.LeftBrace
      ∷ statements otherwise (plain sign.RightBrace ∷ k)))
  statement (tree.take at q ns first otherwise) k =
      placed_sign sign.Take at
      ∷ queue q (plain sign.LeftParen
      ∷ names ns (plain sign.RightParen ∷ plain sign.LeftBrace
      ∷ statements first (plain sign.RightBrace ∷ plain sign.Else ∷ plain sign.LeftBrace
      ∷ statements otherwise (plain sign.RightBrace ∷ k))))
  statement (tree.when at l condition first) k =
      placed_sign sign.If at
      ∷ likely l (expression condition (plain sign.LeftBrace ∷ statements first (plain sign.RightBrace ∷ k)))
  statement (tree.choose at l condition first otherwise) k =
      placed_sign sign.If at
      ∷ likely l (expression condition (plain sign.LeftBrace
      ∷ statements first (plain sign.RightBrace ∷ plain sign.Else ∷ plain sign.LeftBrace
      ∷ statements otherwise (plain sign.RightBrace ∷ k))))
  statement (tree.each at n below most body) k =
      placed_sign sign.Each at ∷ name n ∷ plain sign.Below
      ∷ expression below (plain sign.Max ∷ size most ∷ plain sign.LeftBrace ∷
      statements body (plain sign.RightBrace ∷ k))
  statement (tree.emit at direction what es p) k =
      placed_sign (direction_sign direction) at ∷ kind what ∷ plain sign.LeftParen
      ∷ arguments es (plain sign.RightParen ∷ pushed p (plain sign.Semicolon ∷ k))

  -- the tokens of statements in order
  pub statements : StatementTrees → List Printed → List Printed
  statements tree.none k = k
  statements (tree.more s rest) k = statement s (statements rest k)

-- statements in braces
abbrev pub block : StatementTrees → List Printed → List Printed
block b k = plain sign.LeftBrace ∷ statements b (plain sign.RightBrace ∷ k)

-- the header that a handler takes off, where it does
abbrev pub popped : Option PoppedTree → List Printed → List Printed
popped None k = k
popped (Some p) k =
    plain sign.With ∷ name p.name ∷ plain sign.LeftParen ∷ some_names p.fields (plain sign.RightParen ∷ k)

-- when a handler is predicted, where it isn't always
abbrev pub expected : Expected → List Printed → List Printed
expected tree.always k = k
expected (tree.common condition) k = plain sign.Common ∷ expression condition k
expected tree.rare k = plain sign.Rare ∷ k

-- the tokens of a handler
abbrev pub handler : HandlerTree → List Printed → List Printed
handler h k =
    placed_sign (direction_sign h.direction) h.at ∷ kind h.kind ∷ plain sign.LeftParen
    ∷ names h.names (plain sign.RightParen ∷ popped h.popped (expected h.expected (block h.block k)))

-- the tokens of handlers in order
abbrev pub handlers : List HandlerTree → List Printed → List Printed
handlers [] k = k
handlers (h ∷ rest) k = handler h (handlers rest k)

-- what says that a cell is an array or a square array
abbrev pub shape : Shape → List Printed → List Printed
shape One k = k
shape Array k = plain sign.LeftBracket ∷ plain sign.N ∷ plain sign.RightBracket ∷ k
shape Square k =
    plain sign.LeftBracket ∷ plain sign.N ∷ plain sign.Star ∷ plain sign.N ∷ plain sign.RightBracket ∷ k

-- the initial value of a cell, where there is one
abbrev pub initial : Option ExpressionTree → List Printed → List Printed
initial None k = k
initial (Some e) k = plain sign.Assign ∷ expression e k

-- the tokens of an item of a queue's rows
abbrev pub item : ItemTree → List Printed → List Printed
item i k = name i.name ∷ plain sign.Colon ∷ plain (sort_sign i.sort) ∷ k

-- items, each after a comma
abbrev pub more_items : List ItemTree → List Printed → List Printed
more_items [] k = k
more_items (i ∷ rest) k = plain sign.Comma ∷ item i (more_items rest k)

-- the capacity of a queue and the items of its rows
abbrev pub rows : SizeTree → ItemsTree → List Printed → List Printed
rows capacity is k =
    plain sign.LeftBracket ∷ size capacity ∷ plain sign.RightBracket ∷ plain sign.Of ∷ plain sign.LeftParen
    ∷ item is.first (more_items is.rest (plain sign.RightParen ∷ plain sign.Semicolon ∷ k))

-- the tokens of a declaration
abbrev pub declaration : DeclarationTree → List Printed → List Printed
declaration (tree.param at n value) k =
    placed_sign sign.Param at ∷ name n ∷ plain sign.Assign ∷ plain_numeral value ∷ plain sign.Semicolon ∷ k
declaration (tree.int at n s value) k =
    placed_sign sign.State at ∷ plain sign.Int ∷ name n ∷ shape s (initial value (plain sign.Semicolon ∷ k))
declaration (tree.rows_cell at n capacity is) k =
    placed_sign sign.State at ∷ plain sign.Queue ∷ name n ∷ rows capacity is k
declaration (tree.rows_array at n capacity is) k =
    placed_sign sign.State at ∷ plain sign.Queue ∷ name n ∷ plain sign.LeftBracket ∷ plain sign.N ∷ plain
    sign.RightBracket
    ∷ rows capacity is k
declaration (tree.header at n fields ending) k =
    placed_sign sign.Header at ∷ name n ∷ plain sign.LeftParen
    ∷ some_names fields (plain sign.RightParen ∷ plain (ending_sign ending) ∷ plain sign.Semicolon ∷ k)

-- the tokens of declarations in order
abbrev pub declarations : List DeclarationTree → List Printed → List Printed
declarations [] k = k
declarations (d ∷ rest) k = declaration d (declarations rest k)

-- the tokens of a layer
abbrev pub layer : LayerTree → List Printed → List Printed
layer l k =
    placed_sign sign.Layer l.at ∷ name l.name ∷ plain sign.LeftBrace
    ∷ declarations l.declarations (handlers l.handlers (plain sign.RightBrace ∷ k))

-- the tokens of layers in order
abbrev pub layers : List LayerTree → List Printed → List Printed
layers [] k = k
layers (l ∷ rest) k = layer l (layers rest k)

-- the tokens of a param that a place gives
abbrev pub given : GivenTree → List Printed → List Printed
given g k = name g.name ∷ plain sign.Assign ∷ plain_numeral g.value ∷ k

-- given params, each after a comma
abbrev pub more_given : List GivenTree → List Printed → List Printed
more_given [] k = k
more_given (g ∷ rest) k = plain sign.Comma ∷ given g (more_given rest k)

-- the params that a place gives, in parentheses where it gives any
abbrev pub all_given : List GivenTree → List Printed → List Printed
all_given [] k = k
all_given (g ∷ rest) k = plain sign.LeftParen ∷ given g (more_given rest (plain sign.RightParen ∷ k))

-- the tokens of a place of a stack
abbrev pub place : PlaceTree → List Printed → List Printed
place p k = name p.name ∷ all_given p.given (plain sign.Semicolon ∷ k)

-- the tokens of the places of a stack
abbrev pub places : List PlaceTree → List Printed → List Printed
places [] k = k
places (p ∷ rest) k = place p (places rest k)

-- the tokens of a file, without the layers that the library brings
abbrev pub file : FileTree → List Printed
file f =
    layers f.layers (plain sign.Stack ∷ plain sign.LeftBrace ∷ places f.places (plain sign.RightBrace ∷ []))

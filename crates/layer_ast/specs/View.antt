-- The tree that each syntax value of a program is.
use Rattle.std.specs.Prelude.{List, [], ◌∷◌, option_map, map}
use Rattle.layer_ast.specs.declared.names.Name.{Name}
use Rattle.layer_ast.specs.declared.syntax.Argument.{Argument}
use Rattle.layer_ast.specs.declared.syntax.Argument.TheVariants.{Value, Content}
use Rattle.layer_ast.specs.declared.syntax.Arguments.{Arguments}
use Rattle.layer_ast.specs.declared.syntax.Block.{Block}
use Rattle.layer_ast.specs.declared.syntax.Built.{Nothing, Held', Cut', Tail', Join'}
use Rattle.layer_ast.specs.declared.syntax.Built as rust_built
use Rattle.layer_ast.specs.declared.syntax.Declaration.{Declaration}
use Rattle.layer_ast.specs.declared.syntax.Declaration.TheVariants as rust_declaration
use Rattle.layer_ast.specs.declared.syntax.Expected as rust_expected
use Rattle.layer_ast.specs.declared.syntax.Expected.TheVariants.{Always, Common, Rare}
use Rattle.layer_ast.specs.declared.syntax.Expression.{Expression, Number, Me, Members, Ltime, Named', Square', Rows'}
use Rattle.layer_ast.specs.declared.syntax.Expression.{Item', Size', Binary', Apply', Pick', Held-Expression-Named-1}
use Rattle.layer_ast.specs.declared.syntax.Expression.{None', Some', back-Expression-Named-1}
use Rattle.layer_ast.specs.declared.syntax.File.{File}
use Rattle.layer_ast.specs.declared.syntax.Given.{Given}
use Rattle.layer_ast.specs.declared.syntax.Handler.{Handler}
use Rattle.layer_ast.specs.declared.syntax.Item.{Item}
use Rattle.layer_ast.specs.declared.syntax.Items.{Items}
use Rattle.layer_ast.specs.declared.syntax.Layer.{Layer}
use Rattle.layer_ast.specs.declared.syntax.MessageExpression as rust_message
use Rattle.layer_ast.specs.declared.syntax.Names.{Names}
use Rattle.layer_ast.specs.declared.syntax.Place.{Place}
use Rattle.layer_ast.specs.declared.syntax.Popped.{Popped}
use Rattle.layer_ast.specs.declared.syntax.Pushed.{Pushed}
use Rattle.layer_ast.specs.declared.syntax.Queue.{Queue}
use Rattle.layer_ast.specs.declared.syntax.Size.{Size}
use Rattle.layer_ast.specs.declared.syntax.Size.TheVariants as rust_size
use Rattle.layer_ast.specs.declared.syntax.Statement.{Statement, Statement-F}
use Rattle.layer_ast.specs.declared.syntax.Statement.TheOpen.{Block-F, Let, Set, SetSquare, Push, Take, When, Choose}
use Rattle.layer_ast.specs.declared.syntax.Statement.TheOpen.{Each, Emit}
use Rattle.layer_ast.specs.declared.syntax.Statement.TheFolds.{fold-Statement}
use Rattle.layer_ast.specs.Tree.{ExpressionTree, number, me, members, ltime, named, element, square, rows, item, size}
use Rattle.layer_ast.specs.Tree.{binary, apply, pick, QueueTree, queue, queue_at, MessageTree, bare, built, BuiltTree}
use Rattle.layer_ast.specs.Tree.{nothing, held, cut, tail, join, ArgumentTree, value, content, NamesTree, ArgumentsTree}
use Rattle.layer_ast.specs.Tree.{PoppedTree, PushedTree, SizeTree, fixed, sized, StatementTree, bind, set, set_square}
use Rattle.layer_ast.specs.Tree.{push, take, when, choose, each, emit, StatementTrees, none, more, Expected, always}
use Rattle.layer_ast.specs.Tree.{common, rare, HandlerTree, ItemTree, ItemsTree, DeclarationTree, param, int, rows_cell}
use Rattle.layer_ast.specs.Tree.{rows_array, header, LayerTree, GivenTree, PlaceTree, FileTree}

abbrev mutual
  -- the tree of an expression
  pub expression_tree : Expression → ExpressionTree
  expression_tree (Number at v) = number at v
  expression_tree (Me at) = me at
  expression_tree (Members at) = members at
  expression_tree (Ltime at) = ltime at
  expression_tree (Named' name None') = named name
  expression_tree (Named' name (Some' _ index)) = element name (expression_tree index)
  expression_tree (Square' name _ row _ column) = square name (expression_tree row) (expression_tree column)
  expression_tree (Rows' at name index) = rows at (queue_held name index)
  expression_tree (Item' at name index _ row label) = item at (queue_held name index) (expression_tree row) label
  expression_tree (Size' at _ message) = size at (message_tree message)
  expression_tree (Binary' at _ left operator _ right) =
      binary at (expression_tree left) operator (expression_tree right)
  expression_tree (Apply' at function _ operand) = apply at function (expression_tree operand)
  expression_tree (Pick' at _ condition _ first _ second) =
      pick at (expression_tree condition) (expression_tree first) (expression_tree second)

  -- the tree of a queue with a name and an index, as they stand inside an expression
  pub queue_held : Name → Held-Expression-Named-1 → QueueTree
  queue_held name None' = queue name
  queue_held name (Some' _ index) = queue_at name (expression_tree index)

  -- the tree of a message
  pub message_tree : rust_message.MessageExpression → MessageTree
  message_tree (rust_message.Bare name) = bare name
  message_tree (rust_message.Built b) = built (built_tree b)

  -- the tree of a message that is no bare name
  pub built_tree : rust_built.Built → BuiltTree
  built_tree (Nothing at) = nothing at
  built_tree (Held' at name index _ row) = held at (queue_held name index) (expression_tree row)
  built_tree (Cut' at _ message _ from _ length) =
      cut at (message_tree message) (expression_tree from) (expression_tree length)
  built_tree (Tail' at _ message _ from) = tail at (message_tree message) (expression_tree from)
  built_tree (Join' at _ first _ second) = join at (message_tree first) (message_tree second)

-- the tree of a queue
abbrev pub queue_tree : Queue → QueueTree
queue_tree q = queue_held q.name (back-Expression-Named-1 q.index)

-- the tree of an argument
abbrev pub argument_tree : Argument → ArgumentTree
argument_tree (Value e) = value (expression_tree e)
argument_tree (Content b) = content (built_tree b)

-- the tree of names with commas between them
abbrev pub names_tree : Names → NamesTree
names_tree names = record { first = names.first; rest = names.rest.items }

-- the tree of arguments
abbrev pub arguments_tree : Arguments → ArgumentsTree
arguments_tree arguments =
    record { first = argument_tree arguments.first; rest = map argument_tree arguments.rest.items }

-- the tree of the header that a handler takes off
abbrev pub popped_tree : Popped → PoppedTree
popped_tree popped = record { name = popped.name; fields = option_map names_tree popped.fields }

-- the tree of the header that an emission puts on
abbrev pub pushed_tree : Pushed → PushedTree
pushed_tree pushed = record { name = pushed.name; fields = option_map arguments_tree pushed.fields }

-- the tree of a size
abbrev pub size_tree : Size → SizeTree
size_tree (rust_size.Number at v) = fixed at v
size_tree (rust_size.Named name) = sized name

-- trees one after the other
abbrev pub trees : List StatementTree → StatementTrees
trees [] = none
trees (statement ∷ rest) = more statement (trees rest)

-- the tree of a statement whose blocks are trees
abbrev pub statement_of : Statement-F StatementTree StatementTrees → StatementTree
statement_of (Let at name v) = bind at name (expression_tree v)
statement_of (Set at name index v) = set at name (option_map expression_tree index) (expression_tree v)
statement_of (SetSquare at name row column v) =
    set_square at name (expression_tree row) (expression_tree column) (expression_tree v)
statement_of (Push at q items otherwise) = push at (queue_tree q) (arguments_tree items) otherwise
statement_of (Take at q names block otherwise) = take at (queue_tree q) (names_tree names) block otherwise
statement_of (When at likely condition block) = when at likely (expression_tree condition) block
statement_of (Choose at likely condition block otherwise) =
    choose at likely (expression_tree condition) block otherwise
statement_of (Each at name below most block) = each at name (expression_tree below) (size_tree most) block
statement_of (Emit at direction kind arguments pushed) =
    emit at direction kind (arguments_tree arguments) (option_map pushed_tree pushed)

-- the trees of a block whose statements are trees
abbrev pub block_of : Block-F StatementTree StatementTrees → StatementTrees
block_of block = trees block.statements.items

-- the tree of a statement
abbrev pub statement_tree : Statement → StatementTree
statement_tree = fold-Statement StatementTree StatementTrees statement_of block_of

-- the trees of statements in order
abbrev pub statement_trees : List Statement → StatementTrees
statement_trees statements = trees (map statement_tree statements)

-- the trees of a block's statements
abbrev pub block_tree : Block → StatementTrees
block_tree block = statement_trees block.statements.items

-- when a handler is predicted
abbrev pub expected_tree : rust_expected.Expected → Expected
expected_tree Always = always
expected_tree (Common condition) = common (expression_tree condition)
expected_tree Rare = rare

-- the tree of a handler
abbrev pub handler_tree : Handler → HandlerTree
handler_tree handler = record {
  at = handler.at;
  direction = handler.direction;
  kind = handler.kind;
  names = names_tree handler.names;
  popped = option_map popped_tree handler.popped;
  expected = expected_tree handler.expected;
  block = block_tree handler.block;
}

-- the tree of an item of a queue's rows
abbrev pub item_tree : Item → ItemTree
item_tree i = record { name = i.name; sort = i.sort }

-- the tree of the items of a queue's rows
abbrev pub items_tree : Items → ItemsTree
items_tree items = record { first = item_tree items.first; rest = map item_tree items.rest.items }

-- the tree of a declaration
abbrev pub declaration_tree : Declaration → DeclarationTree
declaration_tree (rust_declaration.Param at name v) = param at name v
declaration_tree (rust_declaration.Int at name shape initial) = int at name shape (option_map expression_tree initial)
declaration_tree (rust_declaration.Queue at name capacity items) =
    rows_cell at name (size_tree capacity) (items_tree items)
declaration_tree (rust_declaration.Queues at name capacity items) =
    rows_array at name (size_tree capacity) (items_tree items)
declaration_tree (rust_declaration.Header at name fields ending) =
    header at name (option_map names_tree fields) ending

-- the tree of a layer
abbrev pub layer_tree : Layer → LayerTree
layer_tree layer = record {
  at = layer.at;
  name = layer.name;
  declarations = map declaration_tree layer.declarations.items;
  handlers = map handler_tree layer.handlers.items;
}

-- the tree of a param that a place gives
abbrev pub given_tree : Given → GivenTree
given_tree given = record { name = given.name; value = given.value }

-- the tree of a place of the stack
abbrev pub place_tree : Place → PlaceTree
place_tree place = record { name = place.name; given = map given_tree place.given.items }

-- the tree of a file
abbrev pub file_tree : File → FileTree
file_tree file = record {
  layers = map layer_tree file.layers.items;
  places = map place_tree file.places.items;
  library = map layer_tree file.library.items;
}

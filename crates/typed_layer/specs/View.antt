-- The plain tree that each layer of a program is.
use Rattle.std.specs.Prelude.{List, [], ◌∷◌, map, option_map}
use Rattle.std.specs.List.{range_with_len}
use Rattle.msg_core.specs.declared.message.Header.{Header}
use Rattle.layer_mean.specs.Tree as tree
use Rattle.layer_mean.specs.Tree.{ExpressionTree, MessageTree, ContentTree, EmissionTree, RowTree, TakenTree}
use Rattle.layer_mean.specs.Tree.{StatementTree, bind, assign, assign_square, push, take, branch, each, emit}
use Rattle.layer_mean.specs.Tree.{StatementTrees, none, more, HandlerTree, ItemsTree, CellTree, HeaderTree, LayerTree}
use Rattle.layer_mean.specs.Visit.{none_header}
use Rattle.typed_layer.specs.declared.tree.Blank.{Blank}
use Rattle.typed_layer.specs.declared.tree.Carried.{Carried}
use Rattle.typed_layer.specs.declared.tree.Carried.TheVariants.{Part, Whole}
use Rattle.typed_layer.specs.declared.tree.Cell.{Cell}
use Rattle.typed_layer.specs.declared.tree.Content.{Content}
use Rattle.typed_layer.specs.declared.tree.Emission.{Emission}
use Rattle.typed_layer.specs.declared.tree.Expected as rust_expected
use Rattle.typed_layer.specs.declared.tree.Expected.TheVariants.{Always, Common, Rare}
use Rattle.typed_layer.specs.declared.tree.Expression.{Expression, Number, Me, Count, Ltime, Local, Scalar, Element'}
use Rattle.typed_layer.specs.declared.tree.Expression.{Square', Rows', Item', Size', Binary', Apply', Pick'}
use Rattle.typed_layer.specs.declared.tree.Form as rust_form
use Rattle.typed_layer.specs.declared.tree.Form.TheVariants.{Numbers, Queue, Queues}
use Rattle.typed_layer.specs.declared.tree.Handler.{Handler}
use Rattle.typed_layer.specs.declared.tree.HeaderForm.{HeaderForm}
use Rattle.typed_layer.specs.declared.tree.ItemMessage.{ItemMessage}
use Rattle.typed_layer.specs.declared.tree.Items.{Items}
use Rattle.typed_layer.specs.declared.tree.MessageExpression as rust_message
use Rattle.typed_layer.specs.declared.tree.RowExpression.{RowExpression}
use Rattle.typed_layer.specs.declared.tree.Statement.{Statement, Statement-F}
use Rattle.typed_layer.specs.declared.tree.Statement.TheOpen.{StatementBlock-F, Bind, Set, SetElement, SetSquare, Push}
use Rattle.typed_layer.specs.declared.tree.Statement.TheOpen.{Take, Branch, Each, Emit}
use Rattle.typed_layer.specs.declared.tree.Statement.TheFolds.{fold-Statement}
use Rattle.typed_layer.specs.declared.tree.StatementBlock.{StatementBlock}
use Rattle.typed_layer.specs.declared.tree.Taken.{Taken}
use Rattle.typed_layer.specs.declared.tree.TakenMessage.{TakenMessage}
use Rattle.typed_layer.specs.declared.tree.TypedLayer.{TypedLayer}

-- The header `none` of each of some places.
abbrev pub blank_headers : Blank → List Header
blank_headers b = map none_header (range_with_len b.first b.count)

abbrev pub carried_tree : Carried → tree.Carried
carried_tree Part = tree.part
carried_tree (Whole blank) = tree.whole (blank_headers blank)

abbrev mutual
  -- An expression; a cell of one number, and a queue that is alone, has the index 0.
  pub expression_tree : Expression → ExpressionTree
  expression_tree (Number n) = tree.number n
  expression_tree Me = tree.me
  expression_tree Count = tree.count
  expression_tree Ltime = tree.ltime
  expression_tree (Local k) = tree.local k
  expression_tree (Scalar c) = tree.element c (tree.number 0)
  expression_tree (Element' c _ index) = tree.element c (expression_tree index)
  expression_tree (Square' c _ row _ column) = tree.square c (expression_tree row) (expression_tree column)
  expression_tree (Rows' c _ index) = tree.rows c (expression_tree index)
  expression_tree (Item' c _ index _ row k) = tree.item c (expression_tree index) (expression_tree row) k
  expression_tree (Size' _ message) = tree.size (message_tree message)
  expression_tree (Binary' operator _ left _ right) =
      tree.binary operator (expression_tree left) (expression_tree right)
  expression_tree (Apply' function _ operand) = tree.apply function (expression_tree operand)
  expression_tree (Pick' _ condition _ first _ second) =
      tree.pick (expression_tree condition) (expression_tree first) (expression_tree second)

  -- A message.
  pub message_tree : rust_message.MessageExpression → MessageTree
  message_tree (rust_message.Local k) = tree.message k
  message_tree rust_message.Nothing = tree.nothing
  message_tree (rust_message.Held' c _ index _ row carried) =
      tree.held c (expression_tree index) (expression_tree row) (carried_tree carried)
  message_tree (rust_message.Cut' _ message _ from _ length) =
      tree.cut (message_tree message) (expression_tree from) (expression_tree length)
  message_tree (rust_message.Tail' _ message _ from) = tree.tail (message_tree message) (expression_tree from)
  message_tree (rust_message.Join' _ first _ second) = tree.join (message_tree first) (message_tree second)

abbrev pub row_tree : RowExpression → RowTree
row_tree r = record { numbers = map expression_tree r.numbers; message = option_map message_tree r.message }

abbrev pub taken_tree : Taken → TakenTree
taken_tree t = record {
  numbers = t.numbers.items;
  message = option_map (λ (m : TakenMessage). (m.slot, carried_tree m.carried)) t.message;
}

abbrev pub content_tree : Content → ContentTree
content_tree c = record { message = message_tree c.message; tag = c.tag; fields = map expression_tree c.fields }

abbrev pub emission_tree : Emission → EmissionTree
emission_tree e = record {
  direction = e.direction;
  kind = e.kind;
  numbers = map expression_tree e.numbers;
  content = option_map content_tree e.content;
}

-- Statements one after the other.
abbrev pub trees : List StatementTree → StatementTrees
trees [] = none
trees (x ∷ rest) = more x (trees rest)

-- A statement whose blocks are trees.
abbrev pub statement_of : Statement-F StatementTree StatementTrees → StatementTree
statement_of (Bind slot value) = bind slot (expression_tree value)
statement_of (Set cell value) = assign cell (tree.number 0) (expression_tree value)
statement_of (SetElement cell index value) = assign cell (expression_tree index) (expression_tree value)
statement_of (SetSquare cell row column value) =
    assign_square cell (expression_tree row) (expression_tree column) (expression_tree value)
statement_of (Push cell index capacity row otherwise) = push cell (expression_tree index) capacity (row_tree row)
    otherwise
statement_of (Take cell index taken block otherwise) = take cell (expression_tree index) (taken_tree taken) block
    otherwise
statement_of (Branch likely condition block otherwise) = branch likely (expression_tree condition) block otherwise
statement_of (Each slot below most block) = each slot (expression_tree below) most block
statement_of (Emit emission) = emit (emission_tree emission)

abbrev pub block_of : StatementBlock-F StatementTree StatementTrees → StatementTrees
block_of block = trees block.statements.items

abbrev pub statement_tree : Statement → StatementTree
statement_tree = fold-Statement StatementTree StatementTrees statement_of block_of

-- The statements of a block.
abbrev pub block_tree : StatementBlock → StatementTrees
block_tree block = trees (map statement_tree block.statements.items)

abbrev pub expected_tree : rust_expected.Expected → tree.Expected
expected_tree Always = tree.always
expected_tree (Common condition) = tree.common (expression_tree condition)
expected_tree Rare = tree.rare

abbrev pub handler_tree : Handler → HandlerTree
handler_tree h = record {
  direction = h.direction;
  kind = h.kind;
  tag = h.tag;
  expected = expected_tree h.expected;
  numbers = h.numbers;
  messages = h.messages;
  block = block_tree h.block;
}

abbrev pub items_tree : Items → ItemsTree
items_tree i = record {
  numbers = i.numbers.items;
  message = option_map (λ (m : ItemMessage). (m.name, carried_tree m.carried)) i.message;
}

abbrev pub form_tree : rust_form.Form → tree.Form
form_tree (Numbers shape initial) = tree.numbers shape (expression_tree initial)
form_tree (Queue capacity items) = tree.queue capacity (items_tree items)
form_tree (Queues capacity items) = tree.queues capacity (items_tree items)

abbrev pub cell_tree : Cell → CellTree
cell_tree c = record { name = c.name; form = form_tree c.form }

abbrev pub header_tree : HeaderForm → HeaderTree
header_tree h = record { name = h.name; fields = h.fields; ends = h.ends }

-- A layer at its place.
abbrev pub layer_tree : TypedLayer → LayerTree
layer_tree l = record {
  name = l.name;
  cells = map cell_tree l.cells.items;
  headers = map header_tree l.headers.items;
  handlers = map handler_tree l.handlers;
}

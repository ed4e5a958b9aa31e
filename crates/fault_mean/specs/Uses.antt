-- The names that are used in the text of a layer.
use Rattle.std.specs.Prelude.{List, [], ◌∷◌, ◌++◌, flat_map, Option, Some, None}
use Rattle.std.specs.Option.{option_map_or}
use Rattle.layer_ast.specs.declared.names.Name.{Name}
use Rattle.layer_ast.specs.Tree.{ExpressionTree, named, element, square, rows, item, size, binary, apply, pick}
use Rattle.layer_ast.specs.Tree.{QueueTree, queue, queue_at, MessageTree, bare, built, BuiltTree, nothing, held, cut}
use Rattle.layer_ast.specs.Tree.{tail, join, ArgumentTree, value, content, ArgumentsTree, PushedTree, SizeTree, fixed}
use Rattle.layer_ast.specs.Tree.{sized, StatementTree, bind, set, set_square, push, take, when, choose, each, emit}
use Rattle.fault_mean.specs.Forms.{queue_name}

-- A use of a name that is to be visible, or of the label of an item in the rows of a queue.
pub data Use : Type 0 where
  of_name : (name : Name) → Use
  of_label : (queue label : Name) → Use

abbrev mutual
  -- The uses in an expression.
  pub uses : ExpressionTree → List Use
  uses (named name) = of_name name ∷ []
  uses (element name index) = of_name name ∷ uses index
  uses (square name row column) = of_name name ∷ (uses row ++ uses column)
  uses (rows at q) = queue_uses q
  uses (item at q row label) = queue_uses q ++ uses row ++ of_label (queue_name q) label ∷ []
  uses (size at message) = message_uses message
  uses (binary at left operator right) = uses left ++ uses right
  uses (apply at function operand) = uses operand
  uses (pick at condition first second) = uses condition ++ uses first ++ uses second
  uses _ = []

  -- The uses in the mention of a queue.
  pub queue_uses : QueueTree → List Use
  queue_uses (queue name) = of_name name ∷ []
  queue_uses (queue_at name index) = of_name name ∷ uses index

  -- The uses in a message.
  pub message_uses : MessageTree → List Use
  message_uses (bare name) = of_name name ∷ []
  message_uses (built b) = built_uses b

  -- The uses in a message that is no bare name.
  pub built_uses : BuiltTree → List Use
  built_uses (nothing at) = []
  built_uses (held at q row) = queue_uses q ++ uses row
  built_uses (cut at message from length) = message_uses message ++ uses from ++ uses length
  built_uses (tail at message from) = message_uses message ++ uses from
  built_uses (join at first second) = message_uses first ++ message_uses second

-- The uses in an argument.
abbrev pub argument_uses : ArgumentTree → List Use
argument_uses (value e) = uses e
argument_uses (content b) = built_uses b

-- Arguments with commas between them, as a list; the empty one where they are missing.
abbrev pub arguments_in : Option ArgumentsTree → List ArgumentTree
arguments_in None = []
arguments_in (Some arguments) = arguments.first ∷ arguments.rest

-- The uses in arguments, in their order; none where the arguments are missing.
abbrev pub arguments_uses : Option ArgumentsTree → List Use
arguments_uses arguments = flat_map argument_uses (arguments_in arguments)

-- The uses in a size.
abbrev pub size_uses : SizeTree → List Use
size_uses (fixed at most) = []
size_uses (sized name) = of_name name ∷ []

-- The uses in the header that an emission puts on.
abbrev pub pushed_uses : PushedTree → List Use
pushed_uses pushed = of_name pushed.name ∷ arguments_uses pushed.fields

-- The uses in a statement, without those in its blocks.
abbrev pub statement_uses : StatementTree → List Use
statement_uses (bind at name e) = uses e
statement_uses (set at name index e) = of_name name ∷ (option_map_or uses index [] ++ uses e)
statement_uses (set_square at name row column e) = of_name name ∷ (uses row ++ uses column ++ uses e)
statement_uses (push at q items otherwise) = queue_uses q ++ arguments_uses (Some items)
statement_uses (take at q names block otherwise) = queue_uses q
statement_uses (when at likely condition block) = uses condition
statement_uses (choose at likely condition block otherwise) = uses condition
statement_uses (each at name below most block) = uses below ++ size_uses most
statement_uses (emit at direction kind arguments pushed) =
    arguments_uses (Some arguments) ++ option_map_or pushed_uses pushed []

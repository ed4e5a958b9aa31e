-- Files in which every written number is below 2^32, as a text's numbers are.
use Rattle.std.specs.Prelude.{Option, Some, None}
use Rattle.std.specs.List.{AllByRecursion}
use Rattle.layer_ast.specs.Tree.{ExpressionTree, number, element, square, rows, item, size, binary, apply, pick}
use Rattle.layer_ast.specs.Tree.{QueueTree, queue, queue_at, MessageTree, bare, built, BuiltTree, nothing, held, cut}
use Rattle.layer_ast.specs.Tree.{tail, join, ArgumentTree, value, content, SizeTree, fixed, sized, StatementTree, bind}
use Rattle.layer_ast.specs.Tree.{set, set_square, push, take, when, choose, each, emit, Expected, common, HandlerTree}
use Rattle.layer_ast.specs.Tree.{DeclarationTree, param, int, rows_cell, rows_array, LayerTree, PlaceTree, FileTree}
use Rattle.layer_ast.specs.Tree.{PushedTree}
use Rattle.packet_mean.specs.ChainedState.{IsNumber}
use Rattle.fault_mean.specs.Scope.{handler_statements}
use Rattle.fault_mean.specs.Uses.{arguments_in}

abbrev mutual
  -- The numbers that are written in an expression, the mention of a queue, a message.
  pub Literal : ExpressionTree → Type 0
  Literal (number at n) = IsNumber n
  Literal (element name index) = Literal index
  Literal (square name row column) = Literal row × Literal column
  Literal (rows at q) = LiteralQueue q
  Literal (item at q row label) = LiteralQueue q × Literal row
  Literal (size at message) = LiteralMessage message
  Literal (binary at left operator right) = Literal left × Literal right
  Literal (apply at function operand) = Literal operand
  Literal (pick at condition first second) = Literal condition × Literal first × Literal second
  Literal _ = Unit {0}

  pub LiteralQueue : QueueTree → Type 0
  LiteralQueue (queue name) = Unit {0}
  LiteralQueue (queue_at name index) = Literal index

  pub LiteralMessage : MessageTree → Type 0
  LiteralMessage (bare name) = Unit {0}
  LiteralMessage (built b) = LiteralBuilt b

  pub LiteralBuilt : BuiltTree → Type 0
  LiteralBuilt (nothing at) = Unit {0}
  LiteralBuilt (held at q row) = LiteralQueue q × Literal row
  LiteralBuilt (cut at message from length) = LiteralMessage message × Literal from × Literal length
  LiteralBuilt (tail at message from) = LiteralMessage message × Literal from
  LiteralBuilt (join at first second) = LiteralMessage first × LiteralMessage second

abbrev pub LiteralArgument : ArgumentTree → Type 0
LiteralArgument (value e) = Literal e
LiteralArgument (content b) = LiteralBuilt b

abbrev pub LiteralSize : SizeTree → Type 0
LiteralSize (fixed at n) = IsNumber n
LiteralSize (sized name) = Unit {0}

abbrev pub LiteralOption : Option ExpressionTree → Type 0
LiteralOption None = Unit {0}
LiteralOption (Some e) = Literal e

abbrev pub LiteralPushed : Option PushedTree → Type 0
LiteralPushed None = Unit {0}
LiteralPushed (Some p) = AllByRecursion LiteralArgument (arguments_in p.fields)

-- Those in a statement, without those in its blocks.
abbrev pub LiteralStatement : StatementTree → Type 0
LiteralStatement (bind at name e) = Literal e
LiteralStatement (set at name index e) = LiteralOption index × Literal e
LiteralStatement (set_square at name row column e) = Literal row × Literal column × Literal e
LiteralStatement (push at q items otherwise) = LiteralQueue q ×
    AllByRecursion LiteralArgument (arguments_in (Some items))
LiteralStatement (take at q names block otherwise) = LiteralQueue q
LiteralStatement (when at likely condition block) = Literal condition
LiteralStatement (choose at likely condition block otherwise) = Literal condition
LiteralStatement (each at name below most block) = Literal below × LiteralSize most
LiteralStatement (emit at direction kind arguments pushed) =
    AllByRecursion LiteralArgument (arguments_in (Some arguments)) × LiteralPushed pushed

abbrev pub LiteralExpected : Expected → Type 0
LiteralExpected (common condition) = Literal condition
LiteralExpected _ = Unit {0}

-- Those in a handler, a declaration, a layer, a place, and a file with what the library brings to it.
abbrev pub LiteralHandler : LayerTree → HandlerTree → Type 0
LiteralHandler layer handler =
    LiteralExpected handler.expected ×
    AllByRecursion (λ s. LiteralStatement s.statement) (handler_statements layer handler)

abbrev pub LiteralDeclaration : DeclarationTree → Type 0
LiteralDeclaration (param at name n) = IsNumber n
LiteralDeclaration (int at name shape initial) = LiteralOption initial
LiteralDeclaration (rows_cell at name capacity items) = LiteralSize capacity
LiteralDeclaration (rows_array at name capacity items) = LiteralSize capacity
LiteralDeclaration _ = Unit {0}

pub record LiteralLayer (layer : LayerTree) : Type 0 where
  pub declarations_are : AllByRecursion LiteralDeclaration layer.declarations
  pub handlers_are : AllByRecursion (LiteralHandler layer) layer.handlers

abbrev pub LiteralPlace : PlaceTree → Type 0
LiteralPlace place = AllByRecursion (λ g. IsNumber g.value) place.given

pub record LiteralFile (file : FileTree) : Type 0 where
  pub layers_are : AllByRecursion LiteralLayer file.layers
  pub library_is : AllByRecursion LiteralLayer file.library
  pub places_are : AllByRecursion LiteralPlace file.places

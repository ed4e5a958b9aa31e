-- The trees of the grammar, without the boxes and vectors in which a program keeps them. Names and places in the text
-- hold neither, and stand as they are.
use Rattle.std.specs.Prelude.{ℕ, List, Option}
use Rattle.layer_words.specs.declared.places.At.{At}
use Rattle.layer_ast.specs.declared.names.Name.{Name}
use Rattle.layer_words.specs.declared.events.Dir.{Dir}
use Rattle.layer_words.specs.declared.events.Kind.{Kind}
use Rattle.layer_ast.specs.declared.syntax.Ending.{Ending}
use Rattle.layer_words.specs.declared.operators.Function.{Function}
use Rattle.layer_words.specs.declared.sorts.Likely.{Likely}
use Rattle.layer_words.specs.declared.operators.Operator.{Operator}
use Rattle.layer_words.specs.declared.sorts.Shape.{Shape}
use Rattle.layer_words.specs.declared.sorts.Sort.{Sort}

mutual
  -- a number: a numeral, `me`, `n`, `ltime`, a name, an element of an array or of a square array, the number of rows of
  -- a queue, an item of a row, the size of a message, an operator between two, a function of one, or a choice between
  -- two
  pub data ExpressionTree : Type 0 where
    number : (at : At) (value : ℕ) → ExpressionTree
    me : (at : At) → ExpressionTree
    members : (at : At) → ExpressionTree
    ltime : (at : At) → ExpressionTree
    named : (name : Name) → ExpressionTree
    element : (name : Name) (index : ExpressionTree) → ExpressionTree
    square : (name : Name) (row column : ExpressionTree) → ExpressionTree
    rows : (at : At) (queue : QueueTree) → ExpressionTree
    item : (at : At) (queue : QueueTree) (row : ExpressionTree) (label : Name) → ExpressionTree
    size : (at : At) (message : MessageTree) → ExpressionTree
    binary : (at : At) (left : ExpressionTree) (operator : Operator) (right : ExpressionTree) → ExpressionTree
    apply : (at : At) (function : Function) (operand : ExpressionTree) → ExpressionTree
    pick : (at : At) (condition first second : ExpressionTree) → ExpressionTree

  -- a queue, or one of the queues of an array
  pub data QueueTree : Type 0 where
    queue : (name : Name) → QueueTree
    queue_at : (name : Name) (index : ExpressionTree) → QueueTree

  -- a message: that of a name, or one that is built
  pub data MessageTree : Type 0 where
    bare : (name : Name) → MessageTree
    built : (built : BuiltTree) → MessageTree

  -- a message that is no bare name: no bytes, the message of a row, a range of a part, what stands after a part's
  -- first bytes, or a part before a message
  pub data BuiltTree : Type 0 where
    nothing : (at : At) → BuiltTree
    held : (at : At) (queue : QueueTree) (row : ExpressionTree) → BuiltTree
    cut : (at : At) (message : MessageTree) (from length : ExpressionTree) → BuiltTree
    tail : (at : At) (message : MessageTree) (from : ExpressionTree) → BuiltTree
    join : (at : At) (first second : MessageTree) → BuiltTree

-- an argument: a bare name stands as an expression, whatever it turns out to name, so that it has one reading
pub data ArgumentTree : Type 0 where
  value : ExpressionTree → ArgumentTree
  content : BuiltTree → ArgumentTree

-- names with commas between them, at least one
pub record NamesTree : Type 0 where
  pub first : Name
  pub rest : List Name

-- arguments with commas between them, at least one
pub record ArgumentsTree : Type 0 where
  pub first : ArgumentTree
  pub rest : List ArgumentTree

-- the header that a handler takes off, with the names of its fields
pub record PoppedTree : Type 0 where
  pub name : Name
  pub fields : Option NamesTree

-- the header that an emission puts on, with the values of its fields
pub record PushedTree : Type 0 where
  pub name : Name
  pub fields : Option ArgumentsTree

-- a size that a file writes: a number, or a name
pub data SizeTree : Type 0 where
  fixed : (at : At) (value : ℕ) → SizeTree
  sized : (name : Name) → SizeTree

mutual
  -- a statement: a name for a number, an assignment to a cell, to an element of an array or of a square array, a push
  -- and a take of a row with what is done where there is no room or no row, a condition without or with another way, a
  -- loop, or an emission
  pub data StatementTree : Type 0 where
    bind : (at : At) (name : Name) (value : ExpressionTree) → StatementTree
    set : (at : At) (name : Name) (index : Option ExpressionTree) (value : ExpressionTree) → StatementTree
    set_square : (at : At) (name : Name) (row column value : ExpressionTree) → StatementTree
    push : (at : At) (queue : QueueTree) (items : ArgumentsTree) (otherwise : StatementTrees) → StatementTree
    take : (at : At) (queue : QueueTree) (names : NamesTree) (block otherwise : StatementTrees) → StatementTree
    when : (at : At) (likely : Likely) (condition : ExpressionTree) (block : StatementTrees) → StatementTree
    choose : (at : At) (likely : Likely) (condition : ExpressionTree) (block otherwise : StatementTrees) → StatementTree
    each : (at : At) (name : Name) (below : ExpressionTree) (most : SizeTree) (block : StatementTrees) → StatementTree
    emit : (at : At) (direction : Dir) (kind : Kind) (arguments : ArgumentsTree) (pushed : Option PushedTree) →
        StatementTree

  -- the statements of a block, in order
  pub data StatementTrees : Type 0 where
    none : StatementTrees
    more : (statement : StatementTree) (rest : StatementTrees) → StatementTrees

-- when a handler is predicted: always, where a condition holds, or never
pub data Expected : Type 0 where
  always : Expected
  common : (condition : ExpressionTree) → Expected
  rare : Expected

-- a handler of one direction and kind, for those events whose lowest header is the popped one
pub record HandlerTree : Type 0 where
  pub at : At
  pub direction : Dir
  pub kind : Kind
  pub names : NamesTree
  pub popped : Option PoppedTree
  pub expected : Expected
  pub block : StatementTrees

-- an item of a queue's rows
pub record ItemTree : Type 0 where
  pub name : Name
  pub sort : Sort

-- the items of a queue's rows, at least one
pub record ItemsTree : Type 0 where
  pub first : ItemTree
  pub rest : List ItemTree

-- a declaration: a param, a cell of numbers, a queue or an array of queues with its capacity and the items of its rows,
-- or a header
pub data DeclarationTree : Type 0 where
  param : (at : At) (name : Name) (value : ℕ) → DeclarationTree
  int : (at : At) (name : Name) (shape : Shape) (initial : Option ExpressionTree) → DeclarationTree
  rows_cell : (at : At) (name : Name) (capacity : SizeTree) (items : ItemsTree) → DeclarationTree
  rows_array : (at : At) (name : Name) (capacity : SizeTree) (items : ItemsTree) → DeclarationTree
  header : (at : At) (name : Name) (fields : Option NamesTree) (ending : Ending) → DeclarationTree

-- a layer: its declarations and then its handlers
pub record LayerTree : Type 0 where
  pub at : At
  pub name : Name
  pub declarations : List DeclarationTree
  pub handlers : List HandlerTree

-- a param that a place gives
pub record GivenTree : Type 0 where
  pub name : Name
  pub value : ℕ

-- a place of the stack: the layer's name and the params that it gives, in parentheses where it gives any
pub record PlaceTree : Type 0 where
  pub name : Name
  pub given : List GivenTree

-- a file: its layers and the places of its stack, lowest first, and the layers that the library brings, which aren't
-- spelled
pub record FileTree : Type 0 where
  pub layers : List LayerTree
  pub places : List PlaceTree
  pub library : List LayerTree

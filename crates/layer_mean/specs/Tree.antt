-- A layer at its place of a stack, as a plain tree: each name is a number, each param the value that its place gives
-- it, and nothing points or owns. What layers mean is defined on these trees.
use Rattle.std.specs.Prelude.{ℕ, List, [], Option, Bool}
use Rattle.msg_core.specs.declared.message.Header.{Header}
use Rattle.layer_words.specs.declared.events.Dir.{Dir}
use Rattle.layer_words.specs.declared.events.Kind.{Kind}
use Rattle.layer_words.specs.declared.operators.Function.{Function}
use Rattle.layer_words.specs.declared.sorts.Likely.{Likely}
use Rattle.layer_words.specs.declared.operators.Operator.{Operator}
use Rattle.layer_words.specs.declared.sorts.Shape.{Shape}

-- What the rows of a queue carry beside their numbers: a part, or a message of the layers above. For such a message it
-- keeps the headers that stand in for a missing row: `none` for each place above.
pub data Carried : Type 0 where
  part : Carried
  whole : (blank : List Header) → Carried

mutual
  -- A number: a literal, the own rank, the number of members, the view's ltime, a number of the scope, a number of a
  -- cell by its index (0 for a cell of one number), a number of a square cell, the number of rows of a queue by its
  -- index (0 for a queue that is alone), a number of a row, the size of a message, an operator between two, a function
  -- of one, or a choice of two.
  pub data ExpressionTree : Type 0 where
    number : ℕ → ExpressionTree
    me : ExpressionTree
    count : ExpressionTree
    ltime : ExpressionTree
    local : ℕ → ExpressionTree
    element : (cell : ℕ) (index : ExpressionTree) → ExpressionTree
    square : (cell : ℕ) (row column : ExpressionTree) → ExpressionTree
    rows : (cell : ℕ) (index : ExpressionTree) → ExpressionTree
    item : (cell : ℕ) (index row : ExpressionTree) (k : ℕ) → ExpressionTree
    size : MessageTree → ExpressionTree
    binary : Operator → ExpressionTree → ExpressionTree → ExpressionTree
    apply : Function → ExpressionTree → ExpressionTree
    pick : (condition first second : ExpressionTree) → ExpressionTree

  -- A message: one of the scope, no bytes, the message of a row, n bytes of a message from a place on, its bytes
  -- from a place on, or a part before a message.
  pub data MessageTree : Type 0 where
    message : ℕ → MessageTree
    nothing : MessageTree
    held : (cell : ℕ) (index row : ExpressionTree) (carried : Carried) → MessageTree
    cut : MessageTree → (from length : ExpressionTree) → MessageTree
    tail : MessageTree → (from : ExpressionTree) → MessageTree
    join : MessageTree → MessageTree → MessageTree

-- The message of an emission, and the header that is pushed on it going down; going up, none is pushed.
pub record ContentTree : Type 0 where
  pub message : MessageTree
  pub tag : ℕ
  pub fields : List ExpressionTree

-- An event for a neighbour, with its number arguments in the order in which they are written.
pub record EmissionTree : Type 0 where
  pub direction : Dir
  pub kind : Kind
  pub numbers : List ExpressionTree
  pub content : Option ContentTree

-- What a row is made of, or what its parts become names for: numbers, and a message where its queue carries one.
pub record RowTree : Type 0 where
  pub numbers : List ExpressionTree
  pub message : Option MessageTree

-- The slots of the scope that a taken row fills, and what its queue carries.
pub record TakenTree : Type 0 where
  pub numbers : List ℕ
  pub message : Option (ℕ × Carried)

mutual
  -- A statement: it sets a number of the scope, of a cell or of a square cell; pushes a row on a queue of a capacity,
  -- or else runs a block; takes a row and runs a block, or else runs another; runs one of two blocks by a condition;
  -- runs a block again and again; or sends an event.
  pub data StatementTree : Type 0 where
    bind : (slot : ℕ) (value : ExpressionTree) → StatementTree
    assign : (cell : ℕ) (index value : ExpressionTree) → StatementTree
    assign_square : (cell : ℕ) (row column value : ExpressionTree) → StatementTree
    push : (cell : ℕ) (index : ExpressionTree) (capacity : ℕ) (row : RowTree) (otherwise : StatementTrees) →
        StatementTree
    take : (cell : ℕ) (index : ExpressionTree) (taken : TakenTree) (block otherwise : StatementTrees) → StatementTree
    branch : Likely → (condition : ExpressionTree) (block otherwise : StatementTrees) → StatementTree
    each : (slot : ℕ) (below : ExpressionTree) (most : ℕ) (block : StatementTrees) → StatementTree
    emit : EmissionTree → StatementTree

  -- The statements of a block, in order.
  pub data StatementTrees : Type 0 where
    none : StatementTrees
    more : StatementTree → StatementTrees → StatementTrees

-- When a handler goes as predicted: always, where a condition holds at entry, or never.
pub data Expected : Type 0 where
  always : Expected
  common : ExpressionTree → Expected
  rare : Expected

-- What a layer does for one direction, kind and popped tag. Beside the event's numbers, the fields of the popped header
-- and the event's message, its scope has this many more numbers and messages, for the names that the block declares.
pub record HandlerTree : Type 0 where
  pub direction : Dir
  pub kind : Kind
  pub tag : ℕ
  pub expected : Expected
  pub numbers : ℕ
  pub messages : ℕ
  pub block : StatementTrees

-- The items of a queue's rows, by name: numbers, and the message that a row may end with.
pub record ItemsTree : Type 0 where
  pub numbers : List (List ℕ)
  pub message : Option (List ℕ × Carried)

-- What a cell is: numbers of a shape with an initial value, a queue of a capacity, or one for each member.
pub data Form : Type 0 where
  numbers : Shape → (initial : ExpressionTree) → Form
  queue : (capacity : ℕ) → ItemsTree → Form
  queues : (capacity : ℕ) → ItemsTree → Form

-- A cell; cells are numbered in the order of their declarations.
pub record CellTree : Type 0 where
  pub name : List ℕ
  pub form : Form

-- A declared header: how many fields it has, and whether it closes the chain.
pub record HeaderTree : Type 0 where
  pub name : List ℕ
  pub fields : ℕ
  pub ends : Bool

-- A layer at a place; the first declared header has tag 1, and tag 0 is `none`, which has no fields and passes.
pub record LayerTree : Type 0 where
  pub name : List ℕ
  pub cells : List CellTree
  pub headers : List HeaderTree
  pub handlers : List HandlerTree

-- No layer at all.
abbrev pub no_layer : LayerTree
no_layer = record { name = []; cells = []; headers = []; handlers = [] }

-- The values of a trace's expressions. A bound number and a noted message stand in them as their own values; a cell
-- stands in them as it was after a number of writes; a taken row is told by its number.
use Rattle.std.specs.Prelude.{ℕ, List, Option}
use Rattle.layer_words.specs.declared.events.Dir.{Dir}
use Rattle.layer_words.specs.declared.events.Kind.{Kind}
use Rattle.layer_words.specs.declared.operators.Function.{Function}
use Rattle.layer_words.specs.declared.operators.Operator.{Operator}
use Rattle.layer_mean.specs.Tree.{Carried}

-- A cell as it is read: how many earlier operations of the trace set it, push on it or take from it.
pub record Seen : Type 0 where
  pub place : ℕ
  pub cell : ℕ
  pub writes : ℕ

mutual
  -- A number: a literal, what the input and the view say, a number of a taken row, none where it wasn't taken yet, or
  -- what is read of a cell or made of other values.
  pub data NumberValue : Type 0 where
    number : ℕ → NumberValue
    peer : NumberValue
    field : ℕ → NumberValue
    me : NumberValue
    count : NumberValue
    ltime : NumberValue
    taken_number : (row : Option ℕ) (k : ℕ) → NumberValue
    element : Seen → (index : NumberValue) → NumberValue
    square : Seen → (row column : NumberValue) → NumberValue
    rows : Seen → (index : NumberValue) → NumberValue
    item : Seen → (index row : NumberValue) (k : ℕ) → NumberValue
    size : MessageValue → NumberValue
    binary : Operator → NumberValue → NumberValue → NumberValue
    apply : Function → NumberValue → NumberValue
    pick : (condition first second : NumberValue) → NumberValue

  -- A message: the input's body, none, that of a taken row, that of a row that is held, and parts of these.
  pub data MessageValue : Type 0 where
    body : MessageValue
    nothing : MessageValue
    taken_message : (row : Option ℕ) (carried : Carried) → MessageValue
    held : Seen → (index row : NumberValue) (carried : Carried) → MessageValue
    cut : MessageValue → (from length : NumberValue) → MessageValue
    tail : MessageValue → (from : NumberValue) → MessageValue
    join : MessageValue → MessageValue → MessageValue

-- A known header, with the values of its fields.
pub record LinkValue : Type 0 where
  pub place : ℕ
  pub tag : ℕ
  pub fields : List NumberValue

-- A message that is sent or stored: known headers, and the value of the message after them.
pub record ChainedValue : Type 0 where
  pub chain : List LinkValue
  pub message : MessageValue

-- What a trace does besides binding and noting, with values for expressions.
pub data Act : Type 0 where
  check : NumberValue → Act
  set : (place cell : ℕ) (index value : NumberValue) → Act
  set_square : (place cell : ℕ) (row column value : NumberValue) → Act
  push : (place cell : ℕ) (index : NumberValue) (numbers : List NumberValue) (message : Option ChainedValue) → Act
  take : (place cell : ℕ) (index : NumberValue) → Act
  output : Dir → Kind → (numbers : List NumberValue) (message : Option ChainedValue) → Act

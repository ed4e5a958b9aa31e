-- How expressions of traces are read. Each bracket, round or square, goes one deeper.
use Rattle.std.specs.Prelude.{ℕ, zero, suc, List, [], ◌∷◌, take, bytes_eq, codes, Option, Some, None, option_map}
use Rattle.std.specs.Prelude.{if◌then◌else◌}
use Rattle.layer_words.specs.declared.operators.Function.{Function}
use Rattle.layer_words.specs.declared.sorts.Shape.TheVariants.{One, Array, Square}
use Rattle.layer_mean.specs.Tree.{Carried, Form, LayerTree, numbers, queue, queues}
use Rattle.trace_mean.specs.Trace.{Atom, number, Core, TraceNumber, atom, me, count, ltime, element, square, rows, item}
use Rattle.trace_mean.specs.Trace.{size, binary, apply, pick, TraceMessage, core, held, cut, tail, join}
use Rattle.trace_mean.specs.Fuse.{form_at}
use Rattle.bypass_mean.specs.Text.{layer_of}
use Rattle.pack_mean.specs.Reader.{Reader, ◌>>=◌, yields, option_reader, nowhere, the_text, a_name, a_word}
use Rattle.pack_mean.specs.Named.{Named, items_at, place_of, atom_named, core_named, cell_named, function_named}
use Rattle.pack_mean.specs.Named.{operator_named}

-- A queue: its place, its number there, and its index.
pub record QueueNamed : Type 0 where
  pub place : ℕ
  pub cell : ℕ
  pub index : TraceNumber

-- How text that stands one bracket deeper is read.
pub record Inner : Type 0 where
  pub number : Reader TraceNumber
  pub message : Reader TraceMessage
  pub queue : Reader QueueNamed

-- Where brackets are too deep, nothing is read in them.
abbrev pub nothing_inside : Inner
nothing_inside = record { number = nowhere; message = nowhere; queue = nowhere }

-- A number in square brackets.
abbrev pub an_index : Inner → Reader TraceNumber
an_index inner = do
  _ ← the_text (codes "[")
  index ← inner.number
  _ ← the_text (codes "]")
  yields index

-- A number of a cell, after its name.
abbrev pub number_of_cell : Inner → ℕ → ℕ → Option Form → Reader TraceNumber
number_of_cell inner p c (Some (numbers One initial)) = yields (element p c (atom (number 0)))
number_of_cell inner p c (Some (numbers Array initial)) = do
  index ← an_index inner
  yields (element p c index)
number_of_cell inner p c (Some (numbers Square initial)) = do
  row ← an_index inner
  column ← an_index inner
  yields (square p c row column)
number_of_cell inner p c _ = nowhere

-- A number of the cell of this name, after the name.
abbrev pub a_cell : List LayerTree → Inner → List (List ℕ) → Reader TraceNumber
a_cell stack inner name = do
  cell ← option_reader (cell_named stack name)
  number_of_cell inner cell.0 cell.1 (form_at (layer_of stack cell.0) cell.1)

-- A queue, after its name.
abbrev pub index_of_queue : Inner → ℕ → ℕ → Option Form → Reader QueueNamed
index_of_queue inner p c (Some (queue capacity items)) =
    yields (record { place = p; cell = c; index = atom (number 0) })
index_of_queue inner p c (Some (queues capacity items)) = do
  index ← an_index inner
  yields (record { place = p; cell = c; index = index })
index_of_queue inner p c _ = nowhere

-- A queue: its name, and its index in brackets where its cell has one for each member.
abbrev pub queue_with : List LayerTree → Inner → Reader QueueNamed
queue_with stack inner = do
  name ← a_name
  cell ← option_reader (cell_named stack name)
  index_of_queue inner cell.0 cell.1 (form_at (layer_of stack cell.0) cell.1)

-- `len(QUEUE)`, after its word: how many rows a queue has.
abbrev pub a_length : Inner → Reader TraceNumber
a_length inner = do
  _ ← the_text (codes "(")
  q ← inner.queue
  _ ← the_text (codes ")")
  yields (rows q.place q.cell q.index)

-- A number of a row of a queue, by the name that the queue gives it.
abbrev pub item_named : List LayerTree → QueueNamed → TraceNumber → List (List ℕ) → Option TraceNumber
item_named stack q row (name ∷ []) =
    option_map (item q.place q.cell q.index row) (place_of name (items_at stack q.place q.cell).numbers)
item_named stack q row _ = None

-- `at(QUEUE,ROW).NAME`, after its word: a number of a row that a queue holds.
abbrev pub an_item : List LayerTree → Inner → Reader TraceNumber
an_item stack inner = do
  _ ← the_text (codes "(")
  q ← inner.queue
  _ ← the_text (codes ",")
  row ← inner.number
  _ ← the_text (codes ").")
  name ← a_name
  option_reader (item_named stack q row name)

-- `size(MESSAGE)`, after its word: how many bytes a message has.
abbrev pub a_size : Inner → Reader TraceNumber
a_size inner = do
  _ ← the_text (codes "(")
  m ← inner.message
  _ ← the_text (codes ")")
  yields (size m)

-- `pick(CONDITION,FIRST,SECOND)`, after its word.
abbrev pub a_choice : Inner → Reader TraceNumber
a_choice inner = do
  _ ← the_text (codes "(")
  condition ← inner.number
  _ ← the_text (codes ",")
  first ← inner.number
  _ ← the_text (codes ",")
  second ← inner.number
  _ ← the_text (codes ")")
  yields (pick condition first second)

-- `FUNCTION(NUMBER)`, after its word.
abbrev pub an_application : Inner → Function → Reader TraceNumber
an_application inner function = do
  _ ← the_text (codes "(")
  operand ← inner.number
  _ ← the_text (codes ")")
  yields (apply function operand)

-- `(FIRST OPERATOR SECOND)`, after its bracket.
abbrev pub an_operation : Inner → Reader TraceNumber
an_operation inner = do
  first ← inner.number
  _ ← the_text (codes " ")
  word ← a_word
  operator ← option_reader (operator_named word)
  _ ← the_text (codes " ")
  second ← inner.number
  _ ← the_text (codes ")")
  yields (binary operator first second)

-- What a name begins that is no number by itself.
abbrev pub begun_by : List LayerTree → Inner → List (List ℕ) → Reader TraceNumber
begun_by stack inner (word ∷ []) =
    if bytes_eq word (codes "me") then yields me
    else if bytes_eq word (codes "n") then yields count
    else if bytes_eq word (codes "ltime") then yields ltime
    else if bytes_eq word (codes "len") then a_length inner
    else if bytes_eq word (codes "at") then an_item stack inner
    else if bytes_eq word (codes "size") then a_size inner
    else if bytes_eq word (codes "pick") then a_choice inner
    else option_reader (function_named (word ∷ [])) >>= an_application inner
begun_by stack inner name = a_cell stack inner name

-- A number that begins with this name: what the name spells by itself, or what it begins.
abbrev pub number_named : List LayerTree → Named → Inner → List (List ℕ) → Option Atom → Reader TraceNumber
number_named stack s inner name (Some a) = yields (atom a)
number_named stack s inner name None = begun_by stack inner name

-- A number: an operation in brackets, or what begins with a name.
abbrev pub number_with : List LayerTree → Named → Inner → Reader TraceNumber
number_with stack s inner text =
    if bytes_eq (take 1 text) (codes "(") then (the_text (codes "(") >>= λ _. an_operation inner) text
    else (a_name >>= λ name. number_named stack s inner name (atom_named s name)) text

-- The message of a row that a queue holds, where its rows have one.
abbrev pub held_in : List LayerTree → QueueNamed → TraceNumber → Option (List ℕ × Carried) → Option TraceMessage
held_in stack q row message = option_map (λ m. held q.place q.cell q.index row m.1) message

-- `held(QUEUE,ROW)`, after its word: the message of a row that a queue holds.
abbrev pub a_held : List LayerTree → Inner → Reader TraceMessage
a_held stack inner = do
  _ ← the_text (codes "(")
  q ← inner.queue
  _ ← the_text (codes ",")
  row ← inner.number
  _ ← the_text (codes ")")
  option_reader (held_in stack q row (items_at stack q.place q.cell).message)

-- `cut(MESSAGE,FROM,LENGTH)`, after its word.
abbrev pub a_cut : Inner → Reader TraceMessage
a_cut inner = do
  _ ← the_text (codes "(")
  m ← inner.message
  _ ← the_text (codes ",")
  from ← inner.number
  _ ← the_text (codes ",")
  n ← inner.number
  _ ← the_text (codes ")")
  yields (cut m from n)

-- `tail(MESSAGE,FROM)`, after its word.
abbrev pub a_tail : Inner → Reader TraceMessage
a_tail inner = do
  _ ← the_text (codes "(")
  m ← inner.message
  _ ← the_text (codes ",")
  from ← inner.number
  _ ← the_text (codes ")")
  yields (tail m from)

-- `join(FIRST,SECOND)`, after its word.
abbrev pub a_join : Inner → Reader TraceMessage
a_join inner = do
  _ ← the_text (codes "(")
  first ← inner.message
  _ ← the_text (codes ",")
  second ← inner.message
  _ ← the_text (codes ")")
  yields (join first second)

-- What a name begins that is no message by itself.
abbrev pub built_by : List LayerTree → Inner → List (List ℕ) → Reader TraceMessage
built_by stack inner (word ∷ []) =
    if bytes_eq word (codes "held") then a_held stack inner
    else if bytes_eq word (codes "cut") then a_cut inner
    else if bytes_eq word (codes "tail") then a_tail inner
    else if bytes_eq word (codes "join") then a_join inner
    else nowhere
built_by stack inner _ = nowhere

-- A message that begins with this name: what the name spells by itself, or what it begins.
abbrev pub message_named : List LayerTree → Inner → List (List ℕ) → Option Core → Reader TraceMessage
message_named stack inner name (Some c) = yields (core c)
message_named stack inner name None = built_by stack inner name

-- A message, which begins with a name.
abbrev pub message_with : List LayerTree → Named → Inner → Reader TraceMessage
message_with stack s inner = do
  name ← a_name
  message_named stack inner name (core_named s name)

-- How deep brackets may go.
abbrev pub most_brackets : ℕ
most_brackets = 200

-- How the text in a bracket is read, where this many brackets may be opened, that one included.
abbrev pub inside : List LayerTree → Named → ℕ → Inner
inside stack s zero = nothing_inside
inside stack s (suc n) = record {
  number = number_with stack s (inside stack s n);
  message = message_with stack s (inside stack s n);
  queue = queue_with stack (inside stack s n);
}

-- A number of a line, with brackets as deep as they may go.
abbrev pub a_number : List LayerTree → Named → Reader TraceNumber
a_number stack s = number_with stack s (inside stack s most_brackets)

-- A message of a line, with brackets as deep as they may go.
abbrev pub a_message : List LayerTree → Named → Reader TraceMessage
a_message stack s = message_with stack s (inside stack s most_brackets)

-- A queue of a line, with brackets in its index as deep as they may go.
abbrev pub a_queue : List LayerTree → Named → Reader QueueNamed
a_queue stack s = queue_with stack (inside stack s most_brackets)

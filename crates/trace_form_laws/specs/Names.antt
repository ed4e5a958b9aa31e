-- What the operations of a trace name.
use Rattle.std.specs.Prelude.{ℕ, Option, Some, None}
use Rattle.std.specs.List.{AllByRecursion}
use Rattle.trace_mean.specs.Trace.{Atom, Core, TraceNumber, atom, me, count, ltime, element, square, rows, item, size}
use Rattle.trace_mean.specs.Trace.{binary, apply, pick, TraceMessage, core, held, cut, tail, join, Link, Chained}
use Rattle.trace_mean.specs.Trace.{Operation, bind, note, check, set, set_square, push, take, output}

-- A name: of a number or a message that the trace was given or has made, or of something at a place of its stack. That
-- is a number of a cell, a square of numbers, a queue, or a number of a queue's rows.
pub data Name : Type 0 where
  a_number : Atom → Name
  a_message : Core → Name
  a_cell : (place cell : ℕ) (index : TraceNumber) → Name
  a_square : (place cell : ℕ) → Name
  a_queue : (place cell : ℕ) (index : TraceNumber) → Name
  an_item : (place cell : ℕ) (index : TraceNumber) (k : ℕ) → Name

abbrev mutual
  -- All names of a number, and of a message, are such.
  pub NumberNames : (Name → Type 0) → TraceNumber → Type 0
  NumberNames So (atom a) = So (a_number a)
  NumberNames So me = Unit {0}
  NumberNames So count = Unit {0}
  NumberNames So ltime = Unit {0}
  NumberNames So (element p c e) = So (a_cell p c e) × NumberNames So e
  NumberNames So (square p c row column) = So (a_square p c) × NumberNames So row × NumberNames So column
  NumberNames So (rows p c e) = So (a_queue p c e) × NumberNames So e
  NumberNames So (item p c e row k) = So (an_item p c e k) × NumberNames So e × NumberNames So row
  NumberNames So (size m) = MessageNames So m
  NumberNames So (binary operator a b) = NumberNames So a × NumberNames So b
  NumberNames So (apply function a) = NumberNames So a
  NumberNames So (pick c a b) = NumberNames So c × NumberNames So a × NumberNames So b

  pub MessageNames : (Name → Type 0) → TraceMessage → Type 0
  MessageNames So (core c) = So (a_message c)
  MessageNames So (held p c e row carried) = So (a_queue p c e) × NumberNames So e × NumberNames So row
  MessageNames So (cut m from n) = MessageNames So m × NumberNames So from × NumberNames So n
  MessageNames So (tail m from) = MessageNames So m × NumberNames So from
  MessageNames So (join q m) = MessageNames So q × MessageNames So m

-- So are all of a header, of a message after known headers, and of one that there may be.
abbrev pub AtomNames : (Name → Type 0) → Atom → Type 0
AtomNames So a = So (a_number a)

abbrev pub LinkNames : (Name → Type 0) → Link → Type 0
LinkNames So l = AllByRecursion (AtomNames So) l.fields

pub record ChainedNames (So : Name → Type 0) (m : Chained) : Type 0 where
  pub chain_is : AllByRecursion (LinkNames So) m.chain
  pub core_is : So (a_message m.core)

abbrev pub SentNames : (Name → Type 0) → Option Chained → Type 0
SentNames So None = Unit {0}
SentNames So (Some m) = ChainedNames So m

-- And all of an operation.
abbrev pub OperationNames : (Name → Type 0) → Operation → Type 0
OperationNames So (bind e) = NumberNames So e
OperationNames So (note m) = MessageNames So m
OperationNames So (check e) = NumberNames So e
OperationNames So (set p c e x) = So (a_cell p c e) × NumberNames So e × NumberNames So x
OperationNames So (set_square p c row column x) = So (a_square p c) × NumberNames So row × NumberNames So column ×
    NumberNames So x
OperationNames So (push p c e numbers message) =
    So (a_queue p c e) × NumberNames So e × AllByRecursion (NumberNames So) numbers × SentNames So message
OperationNames So (take p c e) = So (a_queue p c e) × NumberNames So e
OperationNames So (output dir kind numbers message) = AllByRecursion (AtomNames So) numbers × SentNames So message

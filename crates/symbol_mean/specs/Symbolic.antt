-- The symbolic list of a trace: what it does, each expression as its value where it stands. Traces that bind and note
-- otherwise, but do the same with the same values in the same order, have one list.
use Rattle.std.specs.Prelude.{ℕ, suc, ◌+◌, nat_lt, if◌then◌else◌, List, [], ◌∷◌, ◌++◌, map, slice_index_or, Option}
use Rattle.std.specs.Prelude.{Some, None, option_map}
use Rattle.trace_mean.specs.Trace as trace
use Rattle.trace_mean.specs.Trace.{Atom, bound, Core, noted, TraceNumber, atom, TraceMessage, core, Link, Chained}
use Rattle.trace_mean.specs.Trace.{Operation, bind, note}
use Rattle.guard_mean.specs.Hoist.{is_here}
use Rattle.symbol_mean.specs.Value.{Seen, NumberValue, number, peer, field, me, count, ltime, taken_number, element}
use Rattle.symbol_mean.specs.Value.{square, rows, item, size, binary, apply, pick, MessageValue, body, nothing}
use Rattle.symbol_mean.specs.Value.{taken_message, held, cut, tail, join, LinkValue, ChainedValue, Act, check, set}
use Rattle.symbol_mean.specs.Value.{set_square, push, take, output}

-- What is known after some operations: the values of what was bound and noted, how many rows were taken, and the cells
-- that were written, each by its place and its number there, the last one first.
pub record Values : Type 0 where
  pub numbers : List NumberValue
  pub messages : List MessageValue
  pub takes : ℕ
  pub written : List (ℕ × ℕ)

-- Before the first operation nothing has a value, and no cell was written.
abbrev pub no_values : Values
no_values = record { numbers = []; messages = []; takes = 0; written = [] }

-- How often cell c of place p was written.
abbrev pub writes_to : List (ℕ × ℕ) → ℕ → ℕ → ℕ
writes_to [] p c = 0
writes_to (w ∷ written) p c = if is_here p c w.0 w.1 then suc (writes_to written p c) else writes_to written p c

-- Cell c of place p as it is read now, after the writes so far.
abbrev pub cell_seen : Values → ℕ → ℕ → Seen
cell_seen v p c = record { place = p; cell = c; writes = writes_to v.written p c }

-- A row, where it was taken already.
abbrev pub taken_row : Values → ℕ → Option ℕ
taken_row v row = if nat_lt row v.takes then Some row else None

-- The value of a number for which no cell is read; one that wasn't bound is 0.
abbrev pub atom_value : Values → Atom → NumberValue
atom_value v (trace.number n) = number n
atom_value v trace.peer = peer
atom_value v (trace.field n) = field n
atom_value v (bound n) = slice_index_or v.numbers n (number 0)
atom_value v (trace.taken_number row k) = taken_number (taken_row v row) k
atom_value v (trace.value n) = number 0

-- The value of a message for which no cell is read; one that wasn't noted is no message.
abbrev pub core_value : Values → Core → MessageValue
core_value v trace.body = body
core_value v (noted n) = slice_index_or v.messages n nothing
core_value v (trace.taken_message row carried) = taken_message (taken_row v row) carried
core_value v trace.nothing = nothing

abbrev mutual
  -- The value of a number, by what is known of bound numbers, notes, takes and writes.
  pub number_value : Values → TraceNumber → NumberValue
  number_value v (atom a) = atom_value v a
  number_value v trace.me = me
  number_value v trace.count = count
  number_value v trace.ltime = ltime
  number_value v (trace.element p c e) = element (cell_seen v p c) (number_value v e)
  number_value v (trace.square p c r k) = square (cell_seen v p c) (number_value v r) (number_value v k)
  number_value v (trace.rows p c e) = rows (cell_seen v p c) (number_value v e)
  number_value v (trace.item p c e r k) = item (cell_seen v p c) (number_value v e) (number_value v r) k
  number_value v (trace.size m) = size (message_value v m)
  number_value v (trace.binary o a b) = binary o (number_value v a) (number_value v b)
  number_value v (trace.apply f a) = apply f (number_value v a)
  number_value v (trace.pick c a b) = pick (number_value v c) (number_value v a) (number_value v b)

  -- The value of a message, by what is known of bound numbers, notes, takes and writes.
  pub message_value : Values → TraceMessage → MessageValue
  message_value v (core c) = core_value v c
  message_value v (trace.held p c e r carried) = held (cell_seen v p c) (number_value v e) (number_value v r) carried
  message_value v (trace.cut m f n) = cut (message_value v m) (number_value v f) (number_value v n)
  message_value v (trace.tail m f) = tail (message_value v m) (number_value v f)
  message_value v (trace.join a b) = join (message_value v a) (message_value v b)

-- A known header, with its fields' values.
abbrev pub link_value : Values → Link → LinkValue
link_value v l = record { place = l.place; tag = l.tag; fields = map (atom_value v) l.fields }

-- A message that is sent or stored, with the values of its known headers and of its core.
abbrev pub chained_value : Values → Chained → ChainedValue
chained_value v m = record { chain = map (link_value v) m.chain; message = core_value v m.core }

-- What is known with one more bound number of this value.
abbrev pub with_bound : Values → NumberValue → Values
with_bound v x = record v { numbers = v.numbers ++ x ∷ [] }

-- What is known with one more noted message of this value.
abbrev pub with_noted : Values → MessageValue → Values
with_noted v x = record v { messages = v.messages ++ x ∷ [] }

-- What is known after one more row was taken.
abbrev pub with_taken : Values → Values
with_taken v = record v { takes = v.takes + 1 }

-- What is known after one more write to cell c of place p.
abbrev pub with_written : Values → ℕ → ℕ → Values
with_written v p c = record v { written = (p, c) ∷ v.written }

-- What is known after one more operation.
abbrev pub known_after : Values → Operation → Values
known_after v (bind e) = with_bound v (number_value v e)
known_after v (note m) = with_noted v (message_value v m)
known_after v (trace.set p c e x) = with_written v p c
known_after v (trace.set_square p c r k x) = with_written v p c
known_after v (trace.push p c e numbers message) = with_written v p c
known_after v (trace.take p c e) = with_written (with_taken v) p c
known_after v _ = v

-- The act of an operation, if it is one: binds and notes are none.
abbrev pub act_of : Values → Operation → List Act
act_of v (bind e) = []
act_of v (note m) = []
act_of v (trace.check e) = check (number_value v e) ∷ []
act_of v (trace.set p c e x) = set p c (number_value v e) (number_value v x) ∷ []
act_of v (trace.set_square p c r k x) = set_square p c (number_value v r) (number_value v k) (number_value v x) ∷ []
act_of v (trace.push p c e numbers message) =
    push p c (number_value v e) (map (number_value v) numbers) (option_map (chained_value v) message) ∷ []
act_of v (trace.take p c e) = take p c (number_value v e) ∷ []
act_of v (trace.output dir kind numbers message) =
    output dir kind (map (atom_value v) numbers) (option_map (chained_value v) message) ∷ []

-- The acts of operations, in order, where so much is known before them.
abbrev pub acts_of : List Operation → Values → List Act
acts_of [] v = []
acts_of (o ∷ os) v = act_of v o ++ acts_of os (known_after v o)

-- The acts of a whole trace, in order: its symbolic list.
abbrev pub symbolic : List Operation → List Act
symbolic operations = acts_of operations no_values

-- What a trace has to be so that it can be read as it was written, besides naming what was made and what is there.
use Rattle.std.specs.Prelude.{◌≡◌, ℕ, suc, ◌+◌, ◌<◌, ◌≤◌, List, [], ◌∷◌, length, slice_index_or, Option, Some, None}
use Rattle.std.specs.Prelude.{option_map, is_some, true}
use Rattle.std.specs.List.{AllByRecursion}
use Rattle.layer_words.specs.declared.events.Dir.{Dir}
use Rattle.layer_words.specs.declared.events.Dir.TheVariants.{Up, Down}
use Rattle.layer_mean.specs.Event.{carries}
use Rattle.layer_mean.specs.Headers.{header_of_tag}
use Rattle.layer_mean.specs.Tree.{Carried, ItemsTree, LayerTree}
use Rattle.trace_mean.specs.Trace.{Atom, number, Core, taken_message, TraceNumber, atom, me, count, ltime, element}
use Rattle.trace_mean.specs.Trace.{square, rows, item, size, binary, apply, pick, TraceMessage, core, held, cut, tail}
use Rattle.trace_mean.specs.Trace.{join, Link, Chained, Operation, bind, note, check, set, set_square, push, take}
use Rattle.trace_mean.specs.Trace.{output}
use Rattle.trace_mean.specs.Fuse.{fields_of}
use Rattle.bypass_mean.specs.Text.{layer_of}
use Rattle.pack_mean.specs.Expression.{most_brackets}
use Rattle.pack_mean.specs.Named.{items_at, no_items}
use Rattle.pack_mean.specs.Operation.{numbers_of}

-- The largest number that is read.
abbrev pub largest_number : ℕ
largest_number = 4294967295

-- The message of rows is of this kind.
abbrev pub Carries : ItemsTree → Carried → Type 0
Carries items carried = option_map (λ message. message.1) items.message ≡ Some carried

-- A literal is no larger, and the message of a taken row is what its queue carries.
abbrev pub AtomFits : Atom → Type 0
AtomFits (number n) = n ≤ largest_number
AtomFits _ = Unit {0}

abbrev pub CoreFits : List ItemsTree → Core → Type 0
CoreFits taken (taken_message row carried) = Carries (slice_index_or taken row no_items) carried
CoreFits taken _ = Unit {0}

abbrev mutual
  -- So it is in a number and in a message, where these rows were taken; a message that a queue holds is what it
  -- carries; and no more than n brackets are open at once, round and square ones together.
  pub NumberFits : List LayerTree → List ItemsTree → ℕ → TraceNumber → Type 0
  NumberFits stack taken n (atom a) = AtomFits a
  NumberFits stack taken n me = Unit {0}
  NumberFits stack taken n count = Unit {0}
  NumberFits stack taken n ltime = Unit {0}
  NumberFits stack taken (suc n) (element p c e) = NumberFits stack taken n e
  NumberFits stack taken (suc n) (square p c row column) = NumberFits stack taken n row ×
      NumberFits stack taken n column
  NumberFits stack taken (suc (suc n)) (rows p c e) = NumberFits stack taken n e
  NumberFits stack taken (suc (suc n)) (item p c e row k) = NumberFits stack taken n e ×
      NumberFits stack taken (suc n) row
  NumberFits stack taken (suc n) (size m) = MessageFits stack taken n m
  NumberFits stack taken (suc n) (binary operator a b) = NumberFits stack taken n a × NumberFits stack taken n b
  NumberFits stack taken (suc n) (apply function a) = NumberFits stack taken n a
  NumberFits stack taken (suc n) (pick c a b) = NumberFits stack taken n c × NumberFits stack taken n a ×
      NumberFits stack taken n b
  NumberFits stack taken _ _ = ⊥

  pub MessageFits : List LayerTree → List ItemsTree → ℕ → TraceMessage → Type 0
  MessageFits stack taken n (core c) = CoreFits taken c
  MessageFits stack taken (suc (suc n)) (held p c e row carried) =
      Carries (items_at stack p c) carried × NumberFits stack taken n e × NumberFits stack taken (suc n) row
  MessageFits stack taken (suc n) (cut m from length) = MessageFits stack taken n m × NumberFits stack taken n from ×
      NumberFits stack taken n length
  MessageFits stack taken (suc n) (tail m from) = MessageFits stack taken n m × NumberFits stack taken n from
  MessageFits stack taken (suc n) (join first m) = MessageFits stack taken n first × MessageFits stack taken n m
  MessageFits stack taken _ _ = ⊥

-- A known header is one of the layer at this place, which the stack has, with as many fields as it declares.
pub record LinkFits (stack : List LayerTree) (place : ℕ) (l : Link) : Type 0 where
  pub at : l.place ≡ place
  pub inside : place < length stack
  pub declares : is_some (header_of_tag (layer_of stack place) l.tag) ≡ true
  pub count : length l.fields ≡ fields_of (layer_of stack place) l.tag
  pub fields_fit : AllByRecursion AtomFits l.fields

-- Known headers stand at places one above the other, the first at this one.
abbrev pub ChainFits : List LayerTree → ℕ → List Link → Type 0
ChainFits stack place [] = Unit {0}
ChainFits stack place (l ∷ ls) = LinkFits stack place l × ChainFits stack (place + 1) ls

pub record ChainedFits (stack : List LayerTree) (taken : List ItemsTree) (place : ℕ) (m : Chained) : Type 0 where
  pub core_fits : CoreFits taken m.core
  pub chain_fits : ChainFits stack place m.chain

-- What goes down has its known headers from the lowest place on; what goes up has none.
abbrev pub SentFits : List LayerTree → List ItemsTree → Dir → Option Chained → Type 0
SentFits stack taken dir None = Unit {0}
SentFits stack taken Down (Some m) = ChainedFits stack taken 0 m
SentFits stack taken Up (Some m) = CoreFits taken m.core × (m.chain ≡ [])

-- A row has a message where the rows of its queue have one.
abbrev pub RowFits : List LayerTree → List ItemsTree → ℕ → Option (List ℕ × Carried) → Option Chained → Type 0
RowFits stack taken place None None = Unit {0}
RowFits stack taken place (Some carried) (Some m) = ChainedFits stack taken place m
RowFits stack taken place _ _ = ⊥

-- An index stands in a bracket.
abbrev pub index_brackets : ℕ
index_brackets = 199

-- An operation, after which these rows were taken: a row that is pushed has as many numbers as its queue's rows, which
-- stand in its bracket, and known headers from the place above its queue on; what is put out has as many numbers as its
-- kind, and a message where that carries one.
abbrev pub OperationFits : List LayerTree → List ItemsTree → Operation → Type 0
OperationFits stack taken (bind e) = NumberFits stack taken most_brackets e
OperationFits stack taken (note m) = MessageFits stack taken most_brackets m
OperationFits stack taken (check e) = NumberFits stack taken most_brackets e
OperationFits stack taken (set p c e x) = NumberFits stack taken index_brackets e ×
    NumberFits stack taken most_brackets x
OperationFits stack taken (set_square p c row column x) =
    NumberFits stack taken index_brackets row × NumberFits stack taken index_brackets column ×
    NumberFits stack taken most_brackets x
OperationFits stack taken (push p c e numbers message) =
    NumberFits stack taken index_brackets e × AllByRecursion (NumberFits stack taken index_brackets) numbers ×
    (length numbers ≡ length (items_at stack p c).numbers) × RowFits stack taken (p + 1) (items_at stack p c).message
    message
OperationFits stack taken (take p c e) = NumberFits stack taken index_brackets e
OperationFits stack taken (output dir kind numbers message) =
    (length numbers ≡ numbers_of kind) × (is_some message ≡ carries kind) × AllByRecursion AtomFits numbers ×
    SentFits stack taken dir message

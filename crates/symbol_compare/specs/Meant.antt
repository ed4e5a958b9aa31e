-- Which values the forms of a list stand for.
use Rattle.std.specs.Prelude.{ℕ, List, [], ◌∷◌, ◌++◌, Option, Some, None}
use Rattle.std.specs.List.{fold, slice_get}
use Rattle.symbol_mean.specs.Value as value
use Rattle.symbol_mean.specs.Value.{NumberValue, MessageValue, LinkValue, ChainedValue, Act}
use Rattle.trace_core.specs.View.{load_tree}
use Rattle.symbol_compare.specs.declared.form.Seen.{Seen}
use Rattle.symbol_compare.specs.declared.form.NumberForm as number_form
use Rattle.symbol_compare.specs.declared.form.NumberForm.TheVariants as numbers
use Rattle.symbol_compare.specs.declared.form.MessageForm as message_form
use Rattle.symbol_compare.specs.declared.form.MessageForm.TheVariants as messages
use Rattle.symbol_compare.specs.declared.form.SentForm as sent_form
use Rattle.symbol_compare.specs.declared.form.SentForm.TheVariants as sent
use Rattle.symbol_compare.specs.declared.form.ValueForm.{ValueForm}
use Rattle.symbol_compare.specs.declared.form.ValueForm.TheVariants as forms
use Rattle.symbol_compare.specs.declared.form.ActForm.{ActForm}
use Rattle.symbol_compare.specs.declared.form.ActForm.TheVariants as acts

-- A number, a message, or what is made of these to be stored or sent.
pub data Meant : Type 0 where
  a_number : NumberValue → Meant
  a_message : MessageValue → Meant
  a_row : List NumberValue → Meant
  a_chain : List LinkValue → Meant
  a_sending : Option ChainedValue → Meant

-- What a number of a list stands for.
abbrev pub number_of : Option Meant → NumberValue
number_of (Some (a_number n)) = n
number_of _ = value.number 0

abbrev pub message_of : Option Meant → MessageValue
message_of (Some (a_message m)) = m
message_of _ = value.nothing

abbrev pub row_of : Option Meant → List NumberValue
row_of (Some (a_row ns)) = ns
row_of _ = []

abbrev pub chain_of : Option Meant → List LinkValue
chain_of (Some (a_chain ls)) = ls
chain_of _ = []

abbrev pub sending_of : Option Meant → Option ChainedValue
sending_of (Some (a_sending m)) = m
sending_of _ = None

abbrev pub number_in : List Meant → ℕ → NumberValue
number_in ms k = number_of (slice_get ms k)

abbrev pub message_in : List Meant → ℕ → MessageValue
message_in ms k = message_of (slice_get ms k)

abbrev pub row_in : List Meant → ℕ → List NumberValue
row_in ms k = row_of (slice_get ms k)

abbrev pub chain_in : List Meant → ℕ → List LinkValue
chain_in ms k = chain_of (slice_get ms k)

abbrev pub sending_in : List Meant → ℕ → Option ChainedValue
sending_in ms k = sending_of (slice_get ms k)

abbrev pub seen_tree : Seen → value.Seen
seen_tree s = record { place = s.place; cell = s.cell; writes = s.writes }

-- What a form after these stands for.
abbrev pub number_meant : List Meant → number_form.NumberForm → NumberValue
number_meant ms (numbers.Number n) = value.number n
number_meant ms numbers.Peer = value.peer
number_meant ms (numbers.Field n) = value.field n
number_meant ms numbers.Me = value.me
number_meant ms numbers.Count = value.count
number_meant ms numbers.Ltime = value.ltime
number_meant ms (numbers.Taken row k) = value.taken_number (Some row) k
number_meant ms (numbers.Untaken k) = value.taken_number None k
number_meant ms (numbers.Element s index) = value.element (seen_tree s) (number_in ms index)
number_meant ms (numbers.Square s row column) = value.square (seen_tree s) (number_in ms row) (number_in ms column)
number_meant ms (numbers.Rows s index) = value.rows (seen_tree s) (number_in ms index)
number_meant ms (numbers.Item s index row k) = value.item (seen_tree s) (number_in ms index) (number_in ms row) k
number_meant ms (numbers.Size m) = value.size (message_in ms m)
number_meant ms (numbers.Binary operator left right) = value.binary operator (number_in ms left) (number_in ms right)
number_meant ms (numbers.Apply function operand) = value.apply function (number_in ms operand)
number_meant ms (numbers.Pick condition first second) = value.pick (number_in ms condition) (number_in ms first)
    (number_in ms second)

abbrev pub message_meant : List Meant → message_form.MessageForm → MessageValue
message_meant ms messages.Body = value.body
message_meant ms messages.Nothing = value.nothing
message_meant ms (messages.Taken row load) = value.taken_message (Some row) (load_tree load)
message_meant ms (messages.Untaken load) = value.taken_message None (load_tree load)
message_meant ms (messages.Held s index row load) = value.held (seen_tree s) (number_in ms index) (number_in ms row)
    (load_tree load)
message_meant ms (messages.Cut m from n) = value.cut (message_in ms m) (number_in ms from) (number_in ms n)
message_meant ms (messages.Tail m from) = value.tail (message_in ms m) (number_in ms from)
message_meant ms (messages.Join first second) = value.join (message_in ms first) (message_in ms second)

abbrev pub sent_meant : List Meant → sent_form.SentForm → Meant
sent_meant ms sent.NoNumbers = a_row []
sent_meant ms (sent.Numbers first rest) = a_row (number_in ms first ∷ row_in ms rest)
sent_meant ms sent.NoLinks = a_chain []
sent_meant ms (sent.Link place tag fields rest) = a_chain
    (record { place = place; tag = tag; fields = row_in ms fields } ∷ chain_in ms rest)
sent_meant ms sent.Nothing = a_sending None
sent_meant ms (sent.Message chain message) =
    a_sending (Some (record { chain = chain_in ms chain; message = message_in ms message }))

abbrev pub meant_of : List Meant → ValueForm → Meant
meant_of ms (forms.Number x) = a_number (number_meant ms x)
meant_of ms (forms.Message x) = a_message (message_meant ms x)
meant_of ms (forms.Sent x) = sent_meant ms x

abbrev pub with_next : List Meant → ValueForm → List Meant
with_next ms x = ms ++ meant_of ms x ∷ []

-- What each of some forms stands for.
unfoldable pub meanings : List ValueForm → List Meant
meanings fs = fold with_next [] fs

-- The act of which these are the numbers.
abbrev pub act_in : List Meant → ActForm → Act
act_in ms (acts.Check n) = value.check (number_in ms n)
act_in ms (acts.Set place cell index n) = value.set place cell (number_in ms index) (number_in ms n)
act_in ms (acts.SetSquare place cell row column n) =
    value.set_square place cell (number_in ms row) (number_in ms column) (number_in ms n)
act_in ms (acts.Push place cell index row message) = value.push place cell (number_in ms index) (row_in ms row)
    (sending_in ms message)
act_in ms (acts.Take place cell index) = value.take place cell (number_in ms index)
act_in ms (acts.Output dir kind row message) = value.output dir kind (row_in ms row) (sending_in ms message)

-- Which states a layer can have at its place, and which events can arrive at it: what its cells hold is of their forms,
-- messages are chained, and all numbers and bytes are in range.
use Rattle.std.specs.Prelude.{◌≡◌, ℕ, suc, ◌<◌, ◌≤◌, ◌^◌, Bool, true, false, List, [], length, drop, slice_index_or}
use Rattle.std.specs.Prelude.{Option, Some, None}
use Rattle.std.specs.List.{AllByRecursion, AllZip}
use Rattle.msg_core.specs.Chain.{Content}
use Rattle.msg_core.specs.Parts.{longest_body}
use Rattle.msg_core.specs.View.{most_members}
use Rattle.msg_core.specs.declared.message.Header.{Header}
use Rattle.layer_words.specs.declared.events.Dir.{Dir}
use Rattle.layer_words.specs.declared.events.Dir.TheVariants.{Up, Down}
use Rattle.layer_mean.specs.declared.run.Event.{Event}
use Rattle.layer_mean.specs.declared.run.Row.{Row}
use Rattle.layer_mean.specs.Event.{carries}
use Rattle.layer_mean.specs.Tree.{Carried, part, whole, ItemsTree, Form, numbers, queue, queues, CellTree, LayerTree}
use Rattle.layer_mean.specs.Tree.{no_layer}
use Rattle.layer_mean.specs.State as state
use Rattle.layer_mean.specs.State.{State, Contents, size_of}
use Rattle.packet_mean.specs.Chained.{IsChain}

-- A number is below 2^32.
abbrev pub IsNumber : ℕ → Type 0
IsNumber n = n < 2 ^ 32

-- Each number of a list is below 2^32.
abbrev pub Numbers : List ℕ → Type 0
Numbers ns = AllByRecursion IsNumber ns

-- A body: at most `longest_body` bytes.
pub record IsBody (body : List ℕ) : Type 0 where
  pub within : length body ≤ longest_body
  pub bytes : AllByRecursion (λ b. b < 256) body

-- The headers of a message that comes from a place of a stack: a chain of the layers from there on, whose fields are
-- numbers.
pub record IsFrom (stack : List LayerTree) (place : ℕ) (headers : List Header) : Type 0 where
  pub chain : IsChain (drop place stack) place headers
  pub fields : AllByRecursion (λ h. Numbers h.fields) headers

-- What a layer keeps and is sent is described in terms of `Above`, which says what the headers of a message of the
-- layers above are.

-- A message with such headers.
pub record IsMessage (Above : List Header → Type 0) (m : Content) : Type 0 where
  pub headers : Above m.headers
  pub body : IsBody m.body

-- The headers of a message that a queue carries: a part has none.
abbrev pub KeptHeaders : (List Header → Type 0) → Carried → List Header → Type 0
KeptHeaders Above part headers = headers ≡ []
KeptHeaders Above (whole blank) headers = Above headers

-- What a row ends with is what its queue carries.
abbrev pub EndsWith : (List Header → Type 0) → Option (List ℕ × Carried) → Option Content → Type 0
EndsWith Above None None = Unit {0}
EndsWith Above (Some item) (Some m) = IsMessage (KeptHeaders Above item.1) m
EndsWith Above _ _ = ⊥

-- A row has the numbers and the message of its queue's items.
pub record IsRow (Above : List Header → Type 0) (items : ItemsTree) (row : Row) : Type 0 where
  pub count : length row.numbers ≡ length items.numbers
  pub numbers : Numbers row.numbers
  pub message : EndsWith Above items.message row.message

-- A queue is within its capacity, which is a number, and its rows are of its items.
pub record IsQueue (Above : List Header → Type 0) (capacity : ℕ) (items : ItemsTree) (rows : List Row) : Type 0 where
  pub bounded : IsNumber capacity
  pub within : length rows ≤ capacity
  pub rows_are : AllByRecursion (IsRow Above items) rows

-- What a cell holds is of its form, at a member of a view of n.
abbrev pub HoldsForm : (List Header → Type 0) → ℕ → Form → Contents → Type 0
HoldsForm Above n (numbers shape initial) (state.numbers ns) = (length ns ≡ size_of n shape) × Numbers ns
HoldsForm Above n (queue capacity items) (state.queues qs) =
    (length qs ≡ 1) × AllByRecursion (IsQueue Above capacity items) qs
HoldsForm Above n (queues capacity items) (state.queues qs) =
    (length qs ≡ n) × AllByRecursion (IsQueue Above capacity items) qs
HoldsForm Above n _ _ = ⊥

-- A state of a layer: its rank is one of its view's, the view's count of views is a number, and each cell holds what
-- its form says.
pub record IsState (Above : List Header → Type 0) (layer : LayerTree) (s : State) : Type 0 where
  pub some_member : 1 ≤ s.count
  pub most_members : s.count ≤ most_members
  pub me : s.me < s.count
  pub ltime : IsNumber s.ltime
  pub cells : AllZip (λ (cell : CellTree) held. HoldsForm Above s.count cell.form held) layer.cells s.cells

-- An event has a message exactly where its kind carries one.
abbrev pub Brings : (List Header → Type 0) → Bool → Option Content → Type 0
Brings Chain true (Some m) = IsMessage Chain m
Brings Chain false None = Unit {0}
Brings Chain _ _ = ⊥

-- An event with such headers: its numbers are in range.
pub record IsEvent (Chain : List Header → Type 0) (e : Event) : Type 0 where
  pub peer : IsNumber e.peer
  pub a : IsNumber e.a
  pub b : IsNumber e.b
  pub message : Brings Chain (carries e.kind) e.message

-- A state of the layer at a place of a stack is chained: the messages that it keeps come from the place above.
abbrev pub IsChainedState : (stack : List LayerTree) (place : ℕ) → State → Type 0
IsChainedState stack place s = IsState (IsFrom stack (suc place)) (slice_index_or stack place no_layer) s

-- The place from which the message of an arriving event comes. Going up, the message has the header of the place where
-- it arrives; going down, it doesn't have this header yet.
abbrev pub from_place : Dir → ℕ → ℕ
from_place Up place = place
from_place Down place = suc place

-- An event that arrives at a place of a stack is chained.
abbrev pub IsChainedEvent : (stack : List LayerTree) (place : ℕ) → Dir → Event → Type 0
IsChainedEvent stack place dir e = IsEvent (IsFrom stack (from_place dir place)) e

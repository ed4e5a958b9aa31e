-- One visit: one event at one layer (Hayden: a layer takes an event from a neighbour, and pops the header that its peer
-- pushed).
use Rattle.std.specs.Prelude.{ℕ, zero, suc, Bool, ◌&&◌, ◌==◌, if◌then◌else◌, List, [], ◌∷◌, ◌++◌, map, replicate}
use Rattle.std.specs.Prelude.{Option, Some, None, option_to_list}
use Rattle.std.specs.List.{find}
use denote.Enum.Bare.{sameb}
use Rattle.msg_core.specs.Chain.{Content, plain, pushed, popped, first_of}
use Rattle.msg_core.specs.declared.message.Header.{Header}
use Rattle.layer_words.specs.declared.events.Dir.{Dir}
use Rattle.layer_words.specs.declared.events.Dir.TheVariants.{Up, Down}
use Rattle.layer_words.specs.contracts.events.Dir as dir_row
use Rattle.layer_words.specs.declared.events.Kind.{Kind}
use Rattle.layer_words.specs.contracts.events.Kind as kind_row
use Rattle.layer_mean.specs.declared.run.Event.{Event}
use Rattle.layer_mean.specs.Event.{arguments}
use Rattle.layer_mean.specs.Tree.{Expected, always, common, rare, HandlerTree, Form, numbers, queue, queues, LayerTree}
use Rattle.layer_mean.specs.State as state
use Rattle.layer_mean.specs.State.{State, Contents, size_of}
use Rattle.layer_mean.specs.Value.{Scope, is_true, val}
use Rattle.layer_mean.specs.Effect.{Decision, usual, unusual, Outcome, decides, in_order, acts}

-- A scope without numbers and messages.
abbrev pub no_scope : Scope
no_scope = record { numbers = []; messages = [] }

-- A state without cells, at the member of rank `me` of n, in the view of this ltime.
abbrev pub bare_state : ℕ → ℕ → ℕ → State
bare_state me n ltime = record { me = me; count = n; ltime = ltime; cells = [] }

-- What a cell holds at first: its numbers are all its initial value, which is computed from the own rank, n and ltime;
-- its queues are empty.
abbrev pub fresh_cell : State → Form → Contents
fresh_cell s (numbers shape initial) = state.numbers (replicate (size_of s.count shape) (val initial s no_scope))
fresh_cell s (queue capacity items) = state.queues ([] ∷ [])
fresh_cell s (queues capacity items) = state.queues (replicate s.count [])

-- The state of a layer that has seen no event, at the member of rank `me` of n.
abbrev pub fresh : LayerTree → ℕ → ℕ → ℕ → State
fresh layer me n ltime =
    record (bare_state me n ltime) { cells = map (λ c. fresh_cell (bare_state me n ltime) c.form) layer.cells }

-- The state of no layer.
abbrev pub no_state : State
no_state = bare_state 0 0 0

-- An event as its layer meets it: the tag and the fields of the header that is popped going up, and the message after
-- that, if it has one. Going down nothing is popped.
pub record Met : Type 0 where
  pub tag : ℕ
  pub fields : List ℕ
  pub message : Option Content

-- A message as a layer meets it: after this header, or without one.
abbrev pub following : Option Header → Content → Met
following None m = record { tag = 0; fields = []; message = Some m }
following (Some h) m = record { tag = h.tag; fields = h.fields; message = Some m }

-- The message of an event, if it has one, as its layer meets it: going up its first header is popped, if there is one;
-- going down none is.
abbrev pub met : Dir → Option Content → Met
met dir None = record { tag = 0; fields = []; message = None }
met Up (Some m) = following (first_of m.headers) (popped m)
met Down (Some m) = following None m

-- Whether a handler is for this direction, kind and popped tag.
abbrev pub is_for : Dir → Kind → ℕ → HandlerTree → Bool
is_for dir kind tag h = sameb dir_row.the_type h.direction dir && sameb kind_row.the_type h.kind kind && (h.tag == tag)

-- The first handler of a layer for this direction, kind and popped tag, if it has one.
abbrev pub handler_for : LayerTree → Dir → Kind → ℕ → Option HandlerTree
handler_for layer dir kind tag = find (is_for dir kind tag) layer.handlers

-- A list with n more items after its own.
abbrev pub with_room : {A : Type 0} → ℕ → A → List A → List A
with_room zero filler xs = xs
with_room (suc k) filler xs = with_room k filler (xs ++ filler ∷ [])

-- The scope in which a handler is entered: the event's numbers before the fields, and its message; the names that
-- the block declares come after these.
abbrev pub entered_scope : HandlerTree → Event → Met → Scope
entered_scope h event m = record {
  numbers = with_room h.numbers 0 (arguments event ++ m.fields);
  messages = with_room h.messages (plain []) (option_to_list m.message);
}

-- The header `none` of the layer at a place.
abbrev pub none_header : ℕ → Header
none_header place = record { layer = place; tag = 0; fields = [] }

-- What a visit yields: the state after it, what it sent, and its decisions in order.
pub record Visited : Type 0 where
  pub state : State
  pub sent : List (Dir × Event)
  pub decided : List Decision

-- An event that is sent on, with another message.
abbrev pub sent_on : State → Dir → Event → Option Content → Visited
sent_on s dir event m = record { state = s; sent = (dir, record event { message = m }) ∷ []; decided = [] }

-- A visit of a layer that has no handler for an event: without a message the event passes on; going down a message
-- passes after `none`; going up it passes where `none` was popped, and is dropped after another header, which is never
-- predicted.
abbrev pub unhandled_visit : ℕ → State → Dir → Event → Met → Option Content → Visited
unhandled_visit place s dir event m None = sent_on s dir event None
unhandled_visit place s Down event m (Some content) = sent_on s Down event (Some (pushed (none_header place) content))
unhandled_visit place s Up event m (Some content) =
    if m.tag == 0 then sent_on s Up event (Some content) else record { state = s; sent = []; decided = unusual ∷ [] }

-- The decision that a handler's expectation makes, if it makes one: a common case is predicted to hold at entry, and a
-- rare handler is never predicted.
abbrev pub expecting : Expected → State → Scope → Outcome → Outcome
expecting always s l o = o
expecting (common e) s l o = if is_true (val e s l) then decides usual o else decides unusual o
expecting rare s l o = decides unusual o

-- What the chosen handler does, or what is done where there is none.
abbrev pub handled_visit : ℕ → Option HandlerTree → State → Dir → Event → Met → Visited
handled_visit place None s dir event m = unhandled_visit place s dir event m m.message
handled_visit place (Some h) s dir event m =
    let l = entered_scope h event m in
    let o = expecting h.expected s l (in_order (acts place h.block) s l) in
    record { state = o.state; sent = o.sent; decided = o.decided }

-- One visit of the layer at a place: the handler for the event's direction, kind and popped header runs its block.
unfoldable pub step : ℕ → LayerTree → State → Dir → Event → Visited
step place layer s dir event =
    let m = met dir event.message in
    handled_visit place (handler_for layer dir event.kind m.tag) s dir event m

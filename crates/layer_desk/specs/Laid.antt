-- What lies on a desk while a layer takes an event, and what each operation makes of it.
use Rattle.std.specs.Prelude.{ℕ, List, [], ◌∷◌, ◌++◌, Bool, true, false, Option, Some, None, option_map, option_to_list}
use Rattle.std.specs.Prelude.{slice_index_or}
use Rattle.msg_core.specs.Chain.{Content, plain, popped, first_of}
use Rattle.msg_core.specs.Parts as parts
use Rattle.msg_core.specs.declared.message.Header.{Header}
use Rattle.layer_words.specs.declared.events.Dir.{Dir}
use Rattle.layer_mean.specs.declared.run.Event.{Event}
use Rattle.layer_mean.specs.declared.run.Row.{Row}
use Rattle.layer_mean.specs.Tree.{TakenTree}
use Rattle.layer_mean.specs.State.{State, flat_index, row_at, with_number, with_row, without_front}
use Rattle.layer_mean.specs.Value.{Scope}
use Rattle.layer_mean.specs.Effect.{with_slot, with_taken, sent_as}
use Rattle.layer_mean.specs.Event.{arguments}
use Rattle.layer_mean.specs.Visit.{no_scope, with_room}
use Rattle.layer_mean.specs.Envelope.{event_in}
use Rattle.layer_mean.specs.declared.envelope.Envelope.{Envelope}

-- The layer's state; the scope of the handler's block; the message of the event, until it is bound or sent on; the
-- messages in hand, the newest first; and what was sent.
pub record Laid : Type 0 where
  pub state : State
  pub scope : Scope
  pub arrived : Option Content
  pub hand : List Content
  pub sent : List (Dir × Event)

-- A number of the scope, of a cell or of a square cell is set.
abbrev pub bound : ℕ → ℕ → Laid → Laid
bound k v p = record p { scope = with_slot k v p.scope }

abbrev pub assigned : ℕ → ℕ → ℕ → Laid → Laid
assigned c i v p = record p { state = with_number p.state c i v }

abbrev pub assigned_square : ℕ → ℕ → ℕ → ℕ → Laid → Laid
assigned_square c row column v p = assigned c (flat_index p.state.count row column) v p

-- A message is taken into the hand.
abbrev pub lifted : Content → Laid → Laid
lifted m p = record p { hand = m ∷ p.hand }

-- The newest message in hand becomes another; an empty hand stays empty.
abbrev pub with_front : (Content → Content) → List Content → List Content
with_front f [] = []
with_front f (m ∷ rest) = f m ∷ rest

abbrev pub front_changed : (Content → Content) → Laid → Laid
front_changed f p = record p { hand = with_front f p.hand }

-- The two newest messages in hand become one, with the older as its front part.
abbrev pub with_joined : List Content → List Content
with_joined (m ∷ part ∷ rest) = parts.join part m ∷ rest
with_joined ms = ms

abbrev pub front_joined : Laid → Laid
front_joined p = record p { hand = with_joined p.hand }

-- Something is done with the newest message in hand, which leaves the hand; with an empty hand nothing is done.
abbrev pub with_first : (Content → Laid → Laid) → List Content → Laid → Laid
with_first f [] p = p
with_first f (m ∷ rest) p = f m (record p { hand = rest })

-- A row is put at the back of a queue.
abbrev pub queued : ℕ → ℕ → Row → Laid → Laid
queued c i row p = record p { state = with_row p.state c i row }

abbrev pub queued_first : ℕ → ℕ → List ℕ → Laid → Laid
queued_first c i numbers p =
    with_first (λ m q. queued c i (record { numbers = numbers; message = Some m }) q) p.hand p

-- Whether a row was looked for and found, and what becomes of a desk whose front row is taken into the scope.
abbrev pub is_found : Option Row → Bool
is_found None = false
is_found (Some row) = true

abbrev pub with_found : ℕ → ℕ → TakenTree → Option Row → Laid → Laid
with_found c i taken None p = p
with_found c i taken (Some row) p =
    record p { state = without_front p.state c i; scope = with_taken taken row p.scope }

abbrev pub taken_row : ℕ → ℕ → TakenTree → Laid → Laid
taken_row c i taken p = with_found c i taken (row_at p.state c i 0) p

-- An event is sent: without a message, or with the newest message in hand, on which a header is pushed going down.
abbrev pub sends : Dir → Event → Laid → Laid
sends dir event p = record p { sent = p.sent ++ (dir, event) ∷ [] }

abbrev pub sends_first : Dir → Envelope → Header → Laid → Laid
sends_first dir e header p = with_first (λ m q. sends dir (event_in e (Some (sent_as dir header m))) q) p.hand p

-- An event is sent with the message in a slot of the scope, which stays there; a slot without one has no bytes.
abbrev pub sends_local : Dir → Envelope → Header → ℕ → Laid → Laid
sends_local dir e header slot p =
    sends dir (event_in e (Some (sent_as dir header (slice_index_or p.scope.messages slot (plain []))))) p

-- The first header of the message that arrived, and the message without it.
abbrev pub first_header : Option Content → Option Header
first_header None = None
first_header (Some m) = first_of m.headers

abbrev pub header_popped : Laid → Laid
header_popped p = record p { arrived = option_map popped p.arrived }

-- A block is entered: its scope has the event's numbers, the fields of the popped header and the message that arrived,
-- and after them the `numbers` numbers and `messages` messages that the block declares.
abbrev pub enters : Envelope → List ℕ → ℕ → ℕ → Laid → Laid
enters e fields numbers messages p = record p {
  scope = record {
    numbers = with_room numbers 0 (arguments (event_in e None) ++ fields);
    messages = with_room messages (plain []) (option_to_list p.arrived);
  };
  arrived = None;
}

-- What arrived is sent on, after a header going down; and what a visit leaves behind is let go.
abbrev pub passes_on : Dir → Envelope → Header → Laid → Laid
passes_on dir e header p =
    sends dir (event_in e (option_map (sent_as dir header) p.arrived)) (record p { arrived = None })

abbrev pub left : Laid → Laid
left p = record p { scope = no_scope; arrived = None }

-- What lies on a tray. The event that a layer takes stays on it, before those that the layer sends, until it goes on.
use Rattle.std.specs.Prelude.{◌≡◌, ℕ, ◌<◌, true, List, [], ◌∷◌, ◌++◌, drop, length, slice_index_or, Option, None}
use Rattle.std.specs.Prelude.{option_to_list, is_some}
use Rattle.circular_buffer.specs.Buffer.{Buffer, buffer}
use Rattle.layer_words.specs.declared.events.Dir.{Dir}
use Rattle.layer_mean.specs.declared.envelope.Envelope.{Envelope}
use Rattle.pool_message.specs.Sent.{first_sent, pool_event}
use Rattle.pool_message.specs.Seen.{bodiless}
use Rattle.pool_message.specs.declared.event.PoolEvent.{PoolEvent}
use Rattle.pool_message.specs.declared.message.PoolMessage.{PoolMessage}
use Rattle.pool_message.specs.declared.tray.Front.{Front}
use Rattle.pool_message.specs.declared.tray.Front.TheVariants.{Gone, Arrived, Bound}

-- The message that arrived, until it comes into the scope or goes on; the messages of the scope; and what was sent.
pub record OnTray : Type 0 where
  pub arrived : Option PoolMessage
  pub messages : Buffer PoolMessage
  pub sent : Buffer (Dir × PoolEvent)

-- The message of the first of some events.
abbrev pub first_message : List (Dir × PoolEvent) → Option PoolMessage
first_message xs = (first_sent xs).1.message

-- What the first of some events brings, and what was sent, depending on how that event stands.
abbrev pub arrived_at : Front → List (Dir × PoolEvent) → Option PoolMessage
arrived_at Gone xs = None
arrived_at Arrived xs = first_message xs
arrived_at Bound xs = None

abbrev pub bound_at : Front → List (Dir × PoolEvent) → List PoolMessage
bound_at Gone xs = []
bound_at Arrived xs = []
bound_at Bound xs = option_to_list (first_message xs)

abbrev pub sent_at : Front → List (Dir × PoolEvent) → List (Dir × PoolEvent)
sent_at Gone xs = xs
sent_at Arrived xs = drop 1 xs
sent_at Bound xs = drop 1 xs

-- An event that arrived or is bound is there, and one that is bound has a message.
abbrev pub StandsSo : Front → List (Dir × PoolEvent) → Type 0
StandsSo Gone xs = Unit {0}
StandsSo Arrived xs = 0 < length xs
StandsSo Bound xs = (0 < length xs) × (is_some (first_message xs) ≡ true)

-- Where an event is bound, the other messages of the scope leave a place for its message.
abbrev pub HasSpare : Front → Buffer PoolMessage → Type 0
HasSpare Gone ms = Unit {0}
HasSpare Arrived ms = Unit {0}
HasSpare Bound ms = length ms.items < ms.capacity

-- An event with this envelope and this message is sent after others.
abbrev pub also_sent : Dir → Envelope → Option PoolMessage → OnTray → OnTray
also_sent dir envelope message t = record t {
  sent = buffer (t.sent.items ++ (dir, pool_event envelope message) ∷ []) t.sent.capacity;
}

-- Message number k of a list, and of the scope.
abbrev pub message_in : ℕ → List PoolMessage → PoolMessage
message_in k ms = slice_index_or ms k (bodiless [])

abbrev pub message_at : ℕ → OnTray → PoolMessage
message_at k t = message_in k t.messages.items

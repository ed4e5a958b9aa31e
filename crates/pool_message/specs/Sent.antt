-- Events that were sent, each with its direction.
use Rattle.std.specs.Prelude.{ℕ, ◌<◌, List, [], ◌∷◌, map, length, Option, Some, None}
use Rattle.std.specs.List.{flat_map, AllByRecursion}
use Rattle.slot_pool.specs.Held.{Held}
use Rattle.msg_core.specs.Chain.{first_of, rest_of}
use Rattle.msg_core.specs.Headers.{most_headers}
use Rattle.msg_core.specs.declared.message.Header.{Header}
use Rattle.layer_words.specs.declared.events.Dir.{Dir}
use Rattle.layer_words.specs.declared.events.Dir.TheVariants.{Up, Down}
use Rattle.layer_words.specs.declared.events.Kind.TheVariants as kind
use Rattle.layer_mean.specs.declared.envelope.Envelope.{Envelope}
use Rattle.layer_mean.specs.declared.run.Event.{Event}
use Rattle.pool_message.specs.Seen.{event_refs, event_seen, EventLies}
use Rattle.pool_message.specs.declared.event.PoolEvent.{PoolEvent}
use Rattle.pool_message.specs.declared.events.TheConstants.{MOST_SENT}
use Rattle.pool_message.specs.declared.message.PoolMessage.{PoolMessage}

abbrev pub sent_refs : List (Dir × PoolEvent) → List ℕ
sent_refs events = flat_map (λ e. event_refs e.1) events

abbrev pub sent_seen : List Held → List (Dir × PoolEvent) → List (Dir × Event)
sent_seen p events = map (λ e. (e.0, event_seen p e.1)) events

abbrev pub SentLie : List Held → List (Dir × PoolEvent) → Type 0
SentLie p events = AllByRecursion (λ e. EventLies p e.1) events

-- The most places for events.
abbrev pub most_sent : ℕ
most_sent = MOST_SENT

-- The first of the events that were sent; where there is none, one without a message.
abbrev pub first_sent : List (Dir × PoolEvent) → Dir × PoolEvent
first_sent [] = (Up, record { kind = kind.Timer; peer = 0; a = 0; b = 0; message = None })
first_sent (x ∷ xs) = x

-- The first header of a message, if there is one; the message after one header more, and without its first.
abbrev pub first_header : Option PoolMessage → Option Header
first_header None = None
first_header (Some m) = first_of m.headers

abbrev pub with_header : Header → PoolMessage → PoolMessage
with_header header m = record m { headers = header ∷ m.headers }

abbrev pub without_first : PoolMessage → PoolMessage
without_first m = record m { headers = rest_of m.headers }

-- A message as it is sent: going up as it is, and going down after a header.
abbrev pub sent_after : Dir → Header → PoolMessage → PoolMessage
sent_after Up header m = m
sent_after Down header m = with_header header m

-- A message that passes a layer: going down it gets a header in front, and going up it loses its first one.
abbrev pub message_passed : Dir → Header → PoolMessage → PoolMessage
message_passed Up header m = without_first m
message_passed Down header m = with_header header m

-- An event with this envelope, and with a message if it has one; and the envelope of an event.
abbrev pub pool_event : Envelope → Option PoolMessage → PoolEvent
pool_event e message = record { kind = e.kind; peer = e.peer; a = e.a; b = e.b; message = message }

abbrev pub envelope_of : PoolEvent → Envelope
envelope_of e = record { kind = e.kind; peer = e.peer; a = e.a; b = e.b }

-- An event without its message.
abbrev pub without_message : Dir × PoolEvent → Dir × PoolEvent
without_message x = (x.0, record x.1 { message = None })

-- A message that goes down has room for one header more.
abbrev pub CanPass : Dir → Option PoolMessage → Type 0
CanPass Up m = Unit {0}
CanPass Down None = Unit {0}
CanPass Down (Some m) = length m.headers < most_headers

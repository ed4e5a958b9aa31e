-- What messages, rows and events in a pool refer to, and what is seen of them with the bodies that the pool holds.
use Rattle.std.specs.Prelude.{ℕ, ◌+◌, ◌<◌, ◌≤◌, List, [], ◌∷◌, length, Option, Some, None, option_map}
use Rattle.slot_pool.specs.Held.{Held, count_at, bytes_at, range}
use Rattle.msg_core.specs.Chain.{Content}
use Rattle.msg_core.specs.declared.message.Header.{Header}
use Rattle.layer_mean.specs.declared.run.Event.{Event}
use Rattle.layer_mean.specs.declared.run.Row.{Row}
use Rattle.pool_message.specs.declared.event.PoolEvent.{PoolEvent}
use Rattle.pool_message.specs.declared.message.PoolMessage.{PoolMessage}
use Rattle.pool_message.specs.declared.part.Part.{Part}
use Rattle.pool_message.specs.declared.row.PoolRow.{PoolRow}

-- The slot to which a body refers, if it has one.
abbrev pub body_refs : Option Part → List ℕ
body_refs None = []
body_refs (Some part) = part.slot ∷ []

-- The bytes of a body, in a pool.
abbrev pub body_seen : List Held → Option Part → List ℕ
body_seen p None = []
body_seen p (Some part) = range part.from part.len (bytes_at p part.slot)

-- A part lies in a pool: its slot is in use, and has the bytes of its range.
pub record LiesIn (p : List Held) (part : Part) : Type 0 where
  pub used : 0 < count_at p part.slot
  pub within : part.from + part.len ≤ length (bytes_at p part.slot)

abbrev pub BodyLies : List Held → Option Part → Type 0
BodyLies p None = Unit {0}
BodyLies p (Some part) = LiesIn p part

-- A message: the slots to which it refers, what is seen of it, and that it lies in a pool.
abbrev pub refs : PoolMessage → List ℕ
refs m = body_refs m.body

abbrev pub content_seen : List Held → PoolMessage → Content
content_seen p m = record { headers = m.headers; body = body_seen p m.body }

abbrev pub Lies : List Held → PoolMessage → Type 0
Lies p m = BodyLies p m.body

-- A message that may be none.
abbrev pub refs_if : Option PoolMessage → List ℕ
refs_if None = []
refs_if (Some m) = refs m

abbrev pub seen_if : List Held → Option PoolMessage → Option Content
seen_if p m = option_map (content_seen p) m

abbrev pub LiesIf : List Held → Option PoolMessage → Type 0
LiesIf p None = Unit {0}
LiesIf p (Some m) = Lies p m

-- A row.
abbrev pub row_refs : PoolRow → List ℕ
row_refs r = refs_if r.message

abbrev pub row_seen : List Held → PoolRow → Row
row_seen p r = record { numbers = r.numbers; message = seen_if p r.message }

abbrev pub RowLies : List Held → PoolRow → Type 0
RowLies p r = LiesIf p r.message

-- An event.
abbrev pub event_refs : PoolEvent → List ℕ
event_refs e = refs_if e.message

abbrev pub event_seen : List Held → PoolEvent → Event
event_seen p e = record { kind = e.kind; peer = e.peer; a = e.a; b = e.b; message = seen_if p e.message }

abbrev pub EventLies : List Held → PoolEvent → Type 0
EventLies p e = LiesIf p e.message

-- A message without bytes.
abbrev pub bodiless : List Header → PoolMessage
bodiless headers = record { headers = headers; body = None }

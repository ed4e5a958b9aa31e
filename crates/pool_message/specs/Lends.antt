-- What a list of events becomes once a `&mut` to its first event has ended.
use Rattle.std.specs.Prelude.{List, [], ◌∷◌, ◌++◌, drop}
use denote.Struct.Tuple.{Tuple}
use Rattle.std.specs.Borrow.{Fml, MutBor, Lends}
use Rattle.circular_buffer.specs.Buffer.{Buffer, buffer}
use Rattle.layer_words.specs.declared.events.Dir.{Dir}
use Rattle.layer_words.specs.contracts.events.Dir as dir
use Rattle.pool_message.specs.contracts.event.PoolEvent as event
use Rattle.pool_message.specs.contracts.events.Events.{the_row}
use Rattle.pool_message.specs.contracts.list.List as list
use Rattle.pool_message.specs.Sent.{first_sent}
use Rattle.pool_message.specs.declared.event.PoolEvent.{PoolEvent}

-- the first event is what was last written through r
abbrev pub lends_first : MutBor (Buffer (Dir × PoolEvent)) → MutBor (Dir × PoolEvent) → Fml
lends_first es r = Lends the_row (Tuple (dir.the_row ∷ event.the_row ∷ [])) es r
    (λ w. buffer (w ∷ drop 1 es.now.items) es.now.capacity)

-- the first event of a list in its box is what was last written through r
abbrev pub lends_listed : MutBor (Buffer (Dir × PoolEvent)) → MutBor (Dir × PoolEvent) → Fml
lends_listed es r = Lends list.the_row (Tuple (dir.the_row ∷ event.the_row ∷ [])) es r
    (λ w. buffer (w ∷ drop 1 es.now.items) es.now.capacity)

-- the last of some events, and those before it
abbrev pub last_sent : List (Dir × PoolEvent) → Dir × PoolEvent
last_sent [] = first_sent []
last_sent (e ∷ []) = e
last_sent (e ∷ e' ∷ es) = last_sent (e' ∷ es)

abbrev pub before_last : List (Dir × PoolEvent) → List (Dir × PoolEvent)
before_last [] = []
before_last (e ∷ []) = []
before_last (e ∷ e' ∷ es) = e ∷ before_last (e' ∷ es)

-- the last event is what was last written through r
abbrev pub lends_last : MutBor (Buffer (Dir × PoolEvent)) → MutBor (Dir × PoolEvent) → Fml
lends_last es r = Lends list.the_row (Tuple (dir.the_row ∷ event.the_row ∷ [])) es r
    (λ w. buffer (before_last es.now.items ++ w ∷ []) es.now.capacity)

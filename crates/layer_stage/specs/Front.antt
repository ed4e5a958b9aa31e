-- The event that a stage takes: the first of a list.
use Rattle.std.specs.Prelude.{List, drop}
use Rattle.slot_pool.specs.Held.{Held}
use Rattle.layer_words.specs.declared.events.Dir.{Dir}
use Rattle.layer_mean.specs.declared.run.Event.{Event}
use Rattle.pool_message.specs.Seen.{event_seen}
use Rattle.pool_message.specs.Sent.{first_sent}
use Rattle.pool_message.specs.declared.event.PoolEvent.{PoolEvent}

-- The way that it goes, and what is seen of it in a pool.
abbrev pub first_way : List (Dir × PoolEvent) → Dir
first_way events = (first_sent events).0

abbrev pub first_seen : List Held → List (Dir × PoolEvent) → Event
first_seen p events = event_seen p (first_sent events).1

-- The events after it.
abbrev pub after_first : List (Dir × PoolEvent) → List (Dir × PoolEvent)
after_first events = drop 1 events

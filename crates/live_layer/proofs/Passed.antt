-- The first event that is taken, and those after it.
use Rattle.std.proofs.Common.{◌≡◌, List, [], ◌∷◌, ◌++◌, refl}
use Rattle.slot_pool.specs.Held.{Held}
use Rattle.layer_words.specs.declared.events.Dir.{Dir}
use Rattle.layer_stage.specs.Front.{after_first}
use Rattle.pool_message.specs.Seen.{event_refs, EventLies}
use Rattle.pool_message.specs.Sent.{sent_refs, SentLie, first_sent}
use Rattle.pool_message.specs.declared.event.PoolEvent.{PoolEvent}

-- The first one lies in the pool, as do the others, and refers to what they don't.
pub front_lies : (p : List Held) (events : List (Dir × PoolEvent)) → SentLie p events →
    EventLies p (first_sent events).1 × SentLie p (after_first events)
front_lies p [] lie = (tt, tt)
front_lies p (x ∷ rest) lie = lie

pub front_refs : (events : List (Dir × PoolEvent)) → sent_refs events ≡ event_refs (first_sent events).1 ++
    sent_refs (after_first events)
front_refs [] = refl
front_refs (x ∷ rest) = refl

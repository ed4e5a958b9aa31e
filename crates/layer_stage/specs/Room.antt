-- What a visit needs of a pool and of the places for what it sends, and what a stage keeps of a pool.
use Rattle.std.specs.Prelude.{ℕ, ◌≤◌, List, Option, Some, None}
use Rattle.slot_pool.specs.Held.{Held, count_at}
use Rattle.layer_words.specs.declared.events.Dir.{Dir}
use Rattle.layer_mean.specs.declared.run.Event.{Event}
use Rattle.layer_mean.specs.Tree.{HandlerTree, LayerTree}
use Rattle.layer_mean.specs.Visit.{met, handler_for}
use Rattle.stack_mean.specs.Emissions.{handler_joins}
use Rattle.layer_desk.specs.Need.{block_sends, headers_of}

-- As many unused slots as the handler has joins, and as many places as it sends events at most; without a handler no
-- slot, and a place for the event that passes on.
abbrev pub slots_for : Option HandlerTree → ℕ
slots_for None = 0
slots_for (Some h) = handler_joins h

abbrev pub places_for : Option HandlerTree → ℕ
places_for None = 1
places_for (Some h) = block_sends h.block

-- The handler that an event enters, and so what a visit needs.
abbrev pub handler_of : LayerTree → Dir → Event → Option HandlerTree
handler_of layer dir event = handler_for layer dir event.kind (met dir event.message).tag

abbrev pub slots_needed : LayerTree → Dir → Event → ℕ
slots_needed layer dir event = slots_for (handler_of layer dir event)

abbrev pub places_needed : LayerTree → Dir → Event → ℕ
places_needed layer dir event = places_for (handler_of layer dir event)

-- The number of headers of the message that a layer meets.
abbrev pub headers_met : Dir → Event → ℕ
headers_met dir event = headers_of (met dir event.message).message

-- The most references to one slot at which a visit can still keep it, and the most references that a stage has.
abbrev pub most_counted : ℕ
most_counted = 4278190080

abbrev pub most_kept : ℕ
most_kept = 32768

-- No slot has more references than this.
pub record CountsWithin (most : ℕ) (p : List Held) : Type 0 where
  pub within : (i : ℕ) → count_at p i ≤ most

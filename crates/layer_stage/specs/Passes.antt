-- Events that pass a layer as they are but for a header.
use Rattle.std.specs.Prelude.{ℕ, Bool, ◌&&◌, ◌==◌, is_none, option_map}
use Rattle.layer_words.specs.declared.events.Dir.{Dir}
use Rattle.layer_mean.specs.declared.run.Event.{Event}
use Rattle.layer_mean.specs.Tree.{LayerTree}
use Rattle.layer_mean.specs.Visit.{met, handler_for, none_header}
use Rattle.pool_message.specs.Sent.{message_passed}
use Rattle.pool_message.specs.declared.event.PoolEvent.{PoolEvent}

-- The layer has no handler for the event, which goes down, or up after the header `none`, or has no message.
abbrev pub is_passed : LayerTree → Dir → Event → Bool
is_passed layer dir event = ((met dir event.message).tag == 0) && is_none (handler_for layer dir event.kind 0)

-- An event after the layer at a place: its message, if it has one, got the header `none` going down, and lost its
-- first one going up.
abbrev pub passed_by : ℕ → Dir → PoolEvent → PoolEvent
passed_by place dir event = record event { message = option_map (message_passed dir (none_header place)) event.message }

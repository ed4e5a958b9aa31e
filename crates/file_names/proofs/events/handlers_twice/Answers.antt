use Rattle.std.proofs.Common.{rules}
use Rattle.file_names.proofs.SameEvents.{event_next}
use Rattle.file_names.proofs.events.handlers_twice.Goals as goal

pub loop-handler-preserved : goal.loop-handler-preserved
loop-handler-preserved c =
    event_next c.args.found.now c.loop-handler.found c.note_unless.new.found c.args.handlers.now
    c.loop-handler.handler-index
    c.handler-item.result c.in_ok-event_of.field-0 c.loop-handler.seen c.insert.new.self c.in_ok-is_new.is_new
    (search rules) (search rules) c.in_ok-event_of.ensures c.loop-handler.invariant.1 c.in_ok-is_new.ensures.added
    c.in_ok-is_new.ensures.updates c.loop-handler.invariant.0 c.note_unless.ensures

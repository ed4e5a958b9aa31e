-- Events without their messages.
use Rattle.std.specs.Prelude.{Option}
use Rattle.msg_core.specs.Chain.{Content}
use Rattle.layer_mean.specs.declared.envelope.Envelope.{Envelope}
use Rattle.layer_mean.specs.declared.run.Event.{Event}

-- The event of an envelope and a message, or none.
abbrev pub event_in : Envelope → Option Content → Event
event_in e message = record { kind = e.kind; peer = e.peer; a = e.a; b = e.b; message = message }

-- What lies on a desk whose scope gets its numbers and messages.
use Rattle.std.specs.Prelude.{ℕ, List, [], ◌++◌, None, option_to_list}
use Rattle.msg_core.specs.Chain.{plain}
use Rattle.layer_mean.specs.Event.{arguments}
use Rattle.layer_mean.specs.Visit.{with_room}
use Rattle.layer_desk.specs.Laid.{Laid}
use Rattle.layer_mean.specs.Envelope.{event_in}
use Rattle.layer_mean.specs.declared.envelope.Envelope.{Envelope}

-- The event's numbers, the fields of a header, and `count` more.
abbrev pub entry_numbers : Envelope → List ℕ → ℕ → List ℕ
entry_numbers e fields count = with_room count 0 (arguments (event_in e None) ++ fields)

abbrev pub with_numbers : List ℕ → Laid → Laid
with_numbers numbers l = record l { scope = record { numbers = numbers; messages = l.scope.messages } }

-- The message that arrived after those of the scope.
abbrev pub with_arrived : Laid → Laid
with_arrived l = record l {
  scope = record { numbers = l.scope.numbers; messages = l.scope.messages ++ option_to_list l.arrived };
  arrived = None;
}

-- `count` more messages, without bytes.
abbrev pub with_bare : ℕ → Laid → Laid
with_bare count l = record l
    { scope = record { numbers = l.scope.numbers; messages = with_room count (plain []) l.scope.messages } }

-- What lies on a desk, with a scope that lacks something.
use Rattle.std.specs.Prelude.{[], None}
use Rattle.layer_desk.specs.Laid.{Laid}

-- No message in the scope.
abbrev pub without_messages : Laid → Laid
without_messages l = record l { scope = record { numbers = l.scope.numbers; messages = [] } }

-- Its messages alone, and nothing that arrived.
abbrev pub with_messages_alone : Laid → Laid
with_messages_alone l = record l { scope = record { numbers = []; messages = l.scope.messages }; arrived = None }

-- The headers of a datagram.
use Rattle.std.specs.Prelude.{◌≡◌, ℕ, List, Result, Ok, Err}
use Rattle.msg_core.specs.declared.message.Header.{Header}
use Rattle.msg_core.specs.declared.packet.Dest.{Dest}
use Rattle.msg_core.specs.declared.packet.Stray.{Stray}
use Rattle.packet_mean.specs.Reading.{Reader, ◌>>=◌, byte, option_reader, plan_for}
use Rattle.stack_mean.specs.Plan.{Plan}

-- The plan whose number is read, if it is one of the destination's kind.
abbrev pub plan_named : List Plan → Dest → Reader Plan
plan_named plans dest = do
  k ← byte
  option_reader (plan_for plans dest k)

-- The headers that are read and the bytes after them, or the cause for which they aren't.
abbrev pub Contains : {A : Type 0} → Result (List Header × List ℕ) Stray → Result A Stray → List Header → List ℕ →
    Type 0
Contains is_read (Ok _) headers following = is_read ≡ Ok (headers, following)
Contains is_read (Err cause) headers following = is_read ≡ Err cause

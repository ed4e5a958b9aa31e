-- How much room a packet is given.
use Rattle.std.specs.Prelude.{ℕ, ◌+◌, ◌*◌, length}
use Rattle.msg_core.specs.declared.packet.Packet.{Packet}

-- 19 bytes for the preamble, 17 for each header, and the body.
abbrev pub room_needed : Packet → ℕ
room_needed packet = 17 * length packet.message.headers + 19 + length packet.message.body

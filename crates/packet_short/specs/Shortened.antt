-- Packets in their short forms.
use Rattle.std.specs.Prelude.{◌≡◌, ℕ, suc, if◌then◌else◌, List, ◌++◌, flat_map, slice_get, Option, Some, None}
use Rattle.std.specs.Prelude.{option_and_then}
use Rattle.msg_core.specs.declared.packet.Packet.{Packet}
use Rattle.packet_mean.specs.Plan.{fits, variable}
use Rattle.packet_mean.specs.Spelling.{number_bytes, short_bytes}
use Rattle.stack_mean.specs.Plan.{Plan}
use Rattle.packet_full.specs.Room.{room_needed}

-- A packet's short form under a plan and its number; nothing where the packet doesn't fit it.
abbrev pub short_under : Plan → (k : ℕ) → Packet → Option (List ℕ)
short_under plan k packet = if fits plan packet then Some (short_bytes k plan packet) else None

-- A packet's short form under the plan of a number; nothing where the packet doesn't fit it, or where there is no such
-- plan.
abbrev pub shortened : List Plan → (k : ℕ) → Packet → Option (List ℕ)
shortened plans k packet = option_and_then (λ plan. short_under plan k packet) (slice_get plans k)

-- How much room a short form is given: that of the full one, and a byte for its plan.
abbrev pub short_room : Packet → ℕ
short_room packet = suc (room_needed packet)

-- A header's variable fields were put after bytes, and this is what is planned after them.
abbrev pub PutsVariable : (planned : List (Option ℕ)) (fields : List ℕ) (rest : List (Option ℕ)) (old new : List ℕ) →
    Type 0
PutsVariable planned fields rest old new = (more : List ℕ) →
    old ++ flat_map number_bytes (variable planned (fields ++ more)) ≡ new ++ flat_map number_bytes (variable rest more)

-- A header's variable fields were put after numbers, and this is what is planned after them.
abbrev pub KeepsVariable : (planned : List (Option ℕ)) (fields : List ℕ) (rest : List (Option ℕ)) (old new : List ℕ) →
    Type 0
KeepsVariable planned fields rest old new = (more : List ℕ) → old ++ variable planned (fields ++ more) ≡ new ++
    variable rest more

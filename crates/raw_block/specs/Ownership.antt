-- What the parts of a block own and lend, at values of the row R.
use Rattle.std.specs.Prelude.{ℕ, ◌+◌, ◌*◌, ◌^◌, List, length}
use Rattle.std.specs.Mem.{type_size}
use Rattle.core.specs.Allocator.{array_of}
use base.Fraction.{full_share}
use base.Fml.{Lft, Fml, fsep, flt}
use mir.Syntax.{Ty}
use denote.RattleType.{RattleType}
use denote.Array.{Array}
use denote.RawPtr.{Ptr, lies_at, room_for, ◌+ₚ◌}
use denote.Sharing.{said, beside}
use denote.Struct.Lending.{lent_at}

module _ (R : RattleType) where
  -- the values xs and n more take fewer than 2 ^ 63 bytes
  abbrev pub within : List R.Denot → ℕ → Fml
  within xs n = flt ((length xs + n) * type_size R) (2 ^ 63)

  -- the values lie one after the other from p on, and after them is room for n more
  abbrev pub filled_owns : Ptr → List R.Denot → ℕ → Fml
  filled_owns p xs n = fsep (within xs n)
      (fsep (lies_at (Array R (length xs)) full_share p xs) (room_for (array_of R n) (p +ₚ length xs * type_size R)))

  -- a `&` lends the values, and not the room
  abbrev pub filled_lends : Ptr → List R.Denot → ℕ → Lft → Fml
  filled_lends p xs n = beside (said (within xs n)) (lent_at (Array R (length xs)) p xs)

  -- the allocator's token for a block of n places
  abbrev pub lease_owns : (Ty → Ptr → Fml) → Ptr → ℕ → Fml
  lease_owns token p n = token (array_of R n) p

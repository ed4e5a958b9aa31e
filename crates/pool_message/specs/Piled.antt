-- Messages one after the other, the newest last.
use Rattle.std.specs.Prelude.{ℕ, ◌-◌, List, [], ◌∷◌, take, length}
use Rattle.std.specs.List.{flat_map}
use Rattle.msg_core.specs.declared.message.Header.{Header}
use Rattle.pool_message.specs.Seen.{refs}
use Rattle.pool_message.specs.Sent.{with_header}
use Rattle.pool_message.specs.declared.message.PoolMessage.{PoolMessage}

-- What they refer to.
abbrev pub pile_refs : List PoolMessage → List ℕ
pile_refs ms = flat_map refs ms

-- Those before the last.
abbrev pub without_last : List PoolMessage → List PoolMessage
without_last ms = take (length ms - 1) ms

-- The last one becomes another, or gets a header.
abbrev pub last_changed : (PoolMessage → PoolMessage) → List PoolMessage → List PoolMessage
last_changed f [] = []
last_changed f (m ∷ []) = f m ∷ []
last_changed f (m ∷ m' ∷ ms) = m ∷ last_changed f (m' ∷ ms)

abbrev pub with_header_last : Header → List PoolMessage → List PoolMessage
with_header_last header ms = last_changed (with_header header) ms

-- Messages as they are sent.
use Rattle.std.specs.Prelude.{◌≡◌, List, [], ◌∷◌, ◌++◌, Option, Some, None}
use Rattle.msg_core.specs.declared.message.Header.{Header}
use Rattle.layer_words.specs.declared.events.Dir.{Dir}
use Rattle.layer_words.specs.declared.events.Dir.TheVariants.{Up, Down}
use Rattle.pool_message.specs.Piled.{with_header_last}
use Rattle.pool_message.specs.declared.message.PoolMessage.{PoolMessage}

-- The last of a list as it is sent: going up as it is, and going down after a header.
abbrev pub last_after : Dir → Header → List PoolMessage → List PoolMessage
last_after Up header ms = ms
last_after Down header ms = with_header_last header ms

-- The last of a list was taken out, and became another.
pub record LastAs (f : PoolMessage → PoolMessage) (old new : List PoolMessage) (y : PoolMessage) : Type 0 where
  pub last : PoolMessage
  pub before : old ≡ new ++ last ∷ []
  pub made : y ≡ f last

abbrev pub TakesLast : (PoolMessage → PoolMessage) → List PoolMessage → List PoolMessage → Option PoolMessage → Type 0
TakesLast f old new None = ⊥
TakesLast f old new (Some y) = LastAs f old new y

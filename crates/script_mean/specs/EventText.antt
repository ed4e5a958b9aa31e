-- The line that says an event.
use Rattle.std.specs.Prelude.{◌≡◌, ℕ, ◌<◌, ◌≤◌, All, List, [], ◌∷◌, length, codes, Some}
use Rattle.std.specs.List.{join_with_byte}
use Rattle.std.specs.Fmt.{decimal}
use Rattle.hex.specs.Hex.{encode_lower}
use Rattle.script_mean.specs.Words.{Word}
use Rattle.script_mean.specs.Event.{event_line, said_by}
use Rattle.script_mean.specs.declared.event.ScriptEvent.{ScriptEvent}
use Rattle.script_mean.specs.declared.event.ScriptEvent.TheVariants.{Cast, Send, Leave, Tick, Give, Raw, Show}
use Rattle.msg_core.specs.View.{last_member}
use Rattle.outside.specs.declared.links.TheConstants.{LONGEST_DATAGRAM}

-- bytes in lower case hexadecimal, or `-` for none
abbrev pub hex_text : List ℕ → Word
hex_text [] = codes "-"
hex_text (byte ∷ bytes) = encode_lower (byte ∷ bytes)

-- the words of an event's line
abbrev pub event_words : ScriptEvent → List Word
event_words (Cast member body) = codes "cast" ∷ decimal member ∷ hex_text body ∷ []
event_words (Send member rank body) = codes "send" ∷ decimal member ∷ decimal rank ∷ hex_text body ∷ []
event_words (Leave member) = codes "leave" ∷ decimal member ∷ []
event_words (Tick member time) = codes "tick" ∷ decimal member ∷ decimal time ∷ []
event_words (Give packet member) = codes "give" ∷ decimal packet ∷ decimal member ∷ []
event_words (Raw member body) = codes "raw" ∷ decimal member ∷ hex_text body ∷ []
event_words (Show member) = codes "state" ∷ decimal member ∷ []

-- the line of an event, without a line feed: its words with a space (32) between
abbrev pub event_text : ScriptEvent → List ℕ
event_text event = join_with_byte 32 (event_words event)

-- a number that a line can say
abbrev pub IsSayable : ℕ → Type 0
IsSayable number = number ≤ 4294967295

-- a body that a line can say
pub record IsBody (body : List ℕ) : Type 0 where
  pub bytes : All (λ byte. byte < 256) body
  pub most : length body ≤ LONGEST_DATAGRAM

-- an event that a line can say: its numbers have at most 32 bits, its rank is at most 31, and its body no
-- more bytes than a datagram
abbrev pub IsEvent : ScriptEvent → Type 0
IsEvent (Cast member body) = IsSayable member × IsBody body
IsEvent (Send member rank body) = IsSayable member × (rank ≤ last_member) × IsBody body
IsEvent (Leave member) = IsSayable member
IsEvent (Tick member time) = IsSayable member × IsSayable time
IsEvent (Give packet member) = IsSayable packet × IsSayable member
IsEvent (Raw member body) = IsSayable member × IsBody body
IsEvent (Show member) = IsSayable member

-- the line of an event says this very event
abbrev pub ReadsBack : Type 0
ReadsBack = (event : ScriptEvent) → IsEvent event → said_by event_line (event_text event) ≡ Some event

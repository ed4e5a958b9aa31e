-- The bearers of words as they are kept.
use Rattle.std.specs.Prelude.{◌≡◌, ℕ, Bool, bytes_eq, List, Option, Some, if◌then◌else◌}
use Rattle.chart_mean.specs.Mark.{bearer, bearer_next}
use Rattle.chart_mean.specs.Place.{Line}
use Rattle.chart_mean.specs.declared.types.SentPacket.{SentPacket}
use Rattle.chart_draw.specs.declared.marks.Key.{Key}

-- two keys have the same word
abbrev pub same_word : Key → Key → Bool
same_word a b = bytes_eq a.word.now b.word.now

-- what is kept are the bearers after these lines
abbrev pub Agrees : Bool → (Key → Option SentPacket) → List Line → Type 0
Agrees told bearers before = (key : Key) → bearers key ≡ bearer told before key.word.now

-- what is kept after one more line
abbrev pub NextBearers : Bool → (Key → Option SentPacket) → (Key → Option SentPacket) → Line → Type 0
NextBearers told old new line = (key : Key) → new key ≡ bearer_next told key.word.now (old key) line

-- what is kept after a packet that is found by this word
abbrev pub Bears : (Key → Option SentPacket) → (Key → Option SentPacket) → SentPacket → List ℕ → Type 0
Bears old new sent word =
    (key : Key) → new key ≡ (if bytes_eq word key.word.now then Some sent else old key)

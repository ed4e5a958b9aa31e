-- Where a member is reached, as a word.
use Rattle.std.specs.Prelude.{ℕ, ◌==◌, List, [], ◌∷◌, Option, Some, None}
use Rattle.std.specs.List.{slice_split}
use Rattle.outside.specs.declared.links.Peer.{Peer}
use Rattle.script_mean.specs.Words.{Word, ◌>>=◌, number_within}

-- an octet is a number up to 255
abbrev pub octet_of : Word → Option ℕ
octet_of word = number_within 0 255 word

-- the four octets `A.B.C.D`, of the words between the points
abbrev pub octets_of : List Word → Option (List ℕ)
octets_of (one ∷ two ∷ three ∷ four ∷ []) = do
  a ← octet_of one
  b ← octet_of two
  c ← octet_of three
  d ← octet_of four
  Some (a ∷ b ∷ c ∷ d ∷ [])
octets_of _ = None

-- octets and a port up to 65535, of the words before and after a colon
abbrev pub reached_at : List Word → Option Peer
reached_at (host ∷ port ∷ []) = do
  octets ← octets_of (slice_split (λ byte. byte == 46) host)
  number ← number_within 0 65535 port
  Some (record { ip = octets; port = number })
reached_at _ = None

-- the peer at `A.B.C.D:PORT`; a point is 46, a colon 58
abbrev pub peer_of : Word → Option Peer
peer_of word = reached_at (slice_split (λ byte. byte == 58) word)

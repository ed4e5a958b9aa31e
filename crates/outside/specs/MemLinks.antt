-- Links that are held in memory, as the network that they tell.
use Rattle.std.specs.Prelude.{ℕ, List, Option, slice_get}
use Rattle.std.specs.Option.{option_flatten}
use Rattle.outside.specs.declared.datagram.Datagram.{Datagram}
use Rattle.outside.specs.declared.mem_links.Listened.{Listened}
use Rattle.outside.specs.declared.mem_links.Entry.{Entry}
use Rattle.outside.specs.declared.mem_links.Entry.TheVariants as entries
use Rattle.outside.specs.Links.{Listen, Sent, Met, Came, Quiet, Broke}

-- a listen as the network tells it
abbrev pub listened_of : Listened → Listen
listened_of l = record { member = l.member; peers = l.peers.items }

-- a datagram as the network tells it
abbrev pub sent_of : Datagram → Sent
sent_of d = record { from = d.from; to = d.to; bytes = d.bytes.items }

-- what was met, as the network tells it
abbrev pub met_of : Entry → Met
met_of (entries.Came bytes) = Came bytes.items
met_of entries.Quiet = Quiet
met_of entries.Broke = Broke

-- how many peers a member listens with, where each member's number stands at its place
unfoldable pub listening_in : List (Option ℕ) → ℕ → Option ℕ
listening_in members member = option_flatten (slice_get members member)

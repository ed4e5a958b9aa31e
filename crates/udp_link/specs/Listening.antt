-- Who listens at a socket of the system, and whom it sends to.
use Rattle.std.specs.Prelude.{ℕ, List, Option, length, take, slice_get}
use Rattle.std.specs.Option.{option_map, option_flatten}
use Rattle.outside.specs.declared.links.Peer.{Peer}
use Rattle.udp_link.specs.declared.member.Member.{Member}

-- the peers that a member sends to
abbrev pub peers_of : Member → List Peer
peers_of m = take m.count m.peers

-- the peers of a member that listens, where each member stands at its place
unfoldable pub peers_in : List (Option Member) → ℕ → Option (List Peer)
peers_in members member = option_map peers_of (option_flatten (slice_get members member))

-- where it is bound
unfoldable pub place_in : List (Option Member) → ℕ → Option Peer
place_in members member = option_map (λ m. m.place) (option_flatten (slice_get members member))

-- how many peers a member listens with
abbrev pub listening_in : List (Option Member) → ℕ → Option ℕ
listening_in members member = option_map length (peers_in members member)

-- The address of a peer.
use Rattle.std.specs.Prelude.{◌≡◌}
use Rattle.std.specs.Net.Addr.{ipv4_octets}
use Rattle.std.specs.Net.Socket.{v4_ip, v4_port}
use Rattle.std.specs.declared.net.socket_addr.SocketAddr.{SocketAddr}
use Rattle.std.specs.declared.net.socket_addr.SocketAddr.TheVariants.{V4, V6}
use Rattle.outside.specs.declared.links.Peer.{Peer}

-- an IPv4 address of the peer's octets, and its port
abbrev pub IsAddressOf : Peer → SocketAddr → Type 0
IsAddressOf peer (V4 a) = (ipv4_octets (v4_ip a) ≡ peer.ip) × (v4_port a ≡ peer.port)
IsAddressOf peer (V6 a) = ⊥

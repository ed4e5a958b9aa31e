-- The packet that a scan tells of.
use Rattle.std.specs.Prelude.{◌≡◌, ℕ, ◌≤◌, length, List, drop, Result, Ok, Err}
use Rattle.msg_core.specs.declared.packet.Packet.{Packet}
use Rattle.msg_core.specs.declared.packet.Stray.{Stray}
use Rattle.packet_mean.specs.declared.here.Here.{Here}
use Rattle.packet_full.specs.declared.scan.Scan.{Scan}

-- A scan of a datagram that a member takes: its preamble is the member's, and its body begins at a place of the
-- datagram.
abbrev pub packet_scanned : Here → List ℕ → Scan → Packet
packet_scanned here bytes scan = record {
  group = here.group;
  stamp = here.stamp;
  view = here.view;
  sender = scan.sender;
  dest = scan.dest;
  message = record { headers = scan.headers; body = drop scan.body bytes };
}

-- What reading into a scan answers: the packet received is the one that the scan tells of, whatever else is answered;
-- or the answer is the cause for which none is received.
abbrev pub Scans : {A : Type 0} → Here → List ℕ → Result Packet Stray → Result A Stray → Scan → Type 0
Scans here bytes is_received (Ok _) scan = is_received ≡ Ok (packet_scanned here bytes scan)
Scans here bytes is_received (Err cause) scan = is_received ≡ Err cause

-- What is left of a datagram is no longer than the datagram, and that is no longer than the longest one.
pub record IsAfter (body bytes : List ℕ) : Type 0 where
  pub less : length body ≤ length bytes
  pub few : length bytes ≤ 8619

use Rattle.std.proofs.Common.{[]}
use Rattle.packet_mean.specs.Spelling.{full_bytes}
use Rattle.packet_laws.proofs.Once.{one_full_spelling}
use Rattle.packet_laws.proofs.Strays.{received_as_meant}
use Rattle.packet_full.proofs.laws.written_is_read.Goals as goal

pub returns : goal.returns
returns c = λ stack here packet is. received_as_meant stack [] here (full_bytes packet) packet
    (one_full_spelling stack [] packet is).0

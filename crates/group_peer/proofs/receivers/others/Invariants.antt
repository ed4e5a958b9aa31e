use Rattle.std.specs.Prelude.{◌≡◌, ◌<◌, ◌+◌, ◌^◌}
use Rattle.msg_core.specs.declared.packet.Dest.TheVariants.{All}
use Rattle.run_mean.specs.Journal.{receivers}
use Rattle.group_peer.specs.Heads.{bits_of}
use Rattle.group_peer.proofs.Others.{bits_from}
use Rattle.group_peer.proofs.receivers.others.Given as goal

abbrev pub invariant-loop-id : goal.invariant-loop-id
invariant-loop-id l =
    (l.mask < 2 ^ l.id) × (bits_of (receivers l.from l.view All) ≡ l.mask + bits_from l.view l.from l.id)

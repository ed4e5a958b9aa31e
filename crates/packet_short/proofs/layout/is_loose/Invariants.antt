use Rattle.std.proofs.Common.{◌≡◌, drop}
use Rattle.packet_short.specs.Laid.{is_loose}
use Rattle.packet_short.proofs.layout.is_loose.Given as goal

abbrev pub invariant-loop-field : goal.invariant-loop-field
invariant-loop-field l = is_loose (drop l.field-index l.planned) ≡ is_loose l.planned

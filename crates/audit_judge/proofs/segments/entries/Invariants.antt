use Rattle.std.proofs.Common.{take}
use Rattle.audit_judge.specs.Entries.{numbered_lines}
use Rattle.audit_judge.proofs.Deliveries.{Follows}
use Rattle.audit_judge.proofs.segments.entries.Given as goal

abbrev pub invariant-loop-index : goal.invariant-loop-index
invariant-loop-index l = Follows l.segments l.entries.items (take l.index (numbered_lines l.lines))

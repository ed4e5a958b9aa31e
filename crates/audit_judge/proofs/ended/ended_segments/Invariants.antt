use Rattle.std.proofs.Common.{◌+◌, take}
use Rattle.std.specs.Prelude.{nat_eq}
use Rattle.std.specs.HashMap as hash
use Rattle.audit_judge.specs.Entries.{numbered_lines}
use Rattle.audit_judge.proofs.Endings.{Leads}
use Rattle.audit_judge.proofs.ended.ended_segments.Given as goal

abbrev pub invariant-loop-index : goal.invariant-loop-index
invariant-loop-index l = Leads (l.index + 1) l.segments (hash.get nat_eq l.held) l.all.items
    (take l.index (numbered_lines l.lines))

use Rattle.std.proofs.Common.{take}
use Rattle.std.specs.HashMap as hash
use Rattle.audit_judge.specs.Lacks.{Counts, same_content_key}
use Rattle.audit_judge.proofs.Ranks.{shown_entries}
use Rattle.audit_judge.proofs.contents.count.Given as goal

abbrev pub invariant-loop-delivery : goal.invariant-loop-delivery
invariant-loop-delivery l =
    Counts (hash.get same_content_key l.counts) (shown_entries (take l.delivery-index l.deliveries))

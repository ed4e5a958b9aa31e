use Rattle.std.proofs.Common.{◌≡◌, List, take}
use Rattle.std.specs.Prelude.{map}
use Rattle.std.specs.HashMap as hash
use Rattle.audit_mean.specs.Segment as segment
use Rattle.audit_mean.specs.Finding.{least}
use Rattle.audit_judge.specs.Lacks.{Counts, ranked_shown, same_content_key, surplus}
use Rattle.audit_judge.proofs.lacks.first_surplus.Given as goal

abbrev pub invariant-loop-delivery : goal.invariant-loop-delivery
invariant-loop-delivery l = (all : List segment.Entry) → Counts (hash.get same_content_key l.counts) all →
    l.found ≡ least (surplus l.line all (map ranked_shown (take l.delivery-index l.deliveries)))

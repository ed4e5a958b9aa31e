use Rattle.std.proofs.Common.{subst}
use Rattle.std.specs.Prelude.{map}
use Rattle.std.specs.HashMap as hash
use Rattle.audit_judge.specs.Lacks.{Counts, ended_shown, ranked_shown, same_content_key}
use Rattle.audit_judge.proofs.First.{lack_further}
use Rattle.audit_judge.proofs.lacks.lack_of.Goals as goal

pub loop-other-preserved : goal.loop-other-preserved
loop-other-preserved c =
    let counts = subst (λ ds. Counts (hash.get same_content_key c.in_ok-counts.counts)
    (map (λ placed. placed.entry) (map ranked_shown ds))) c.as_slice.ensures.value c.in_ok-counts.ensures in
    lack_further (ended_shown c.args.one.now) c.args.ended.now c.loop-other.other-index _ c.other-item.result
    c.loop-other.found c.lack_from-lack.result _ c.loop-other-test.true c.other-item.is c.loop-other.invariant
    (c.lack_from-lack.ensures counts) c.first_of-found.ensures

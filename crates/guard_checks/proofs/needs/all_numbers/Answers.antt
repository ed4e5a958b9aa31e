use Rattle.guard_checks.proofs.Within.{next_within}
use Rattle.guard_checks.proofs.needs.all_numbers.Goals as goal

pub loop-checks-preserved : goal.loop-checks-preserved
loop-checks-preserved c = next_within c.args.all.now c.loop-checks.checks-index c.checks-item.result _ _ _
    c.loop-checks-test.true c.checks-item.is
    c.larger-most.ensures.first c.larger-most.ensures.second c.loop-checks.invariant c.case_numbers.ensures

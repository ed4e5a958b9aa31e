use Rattle.std.proofs.Common.{rules}
use Rattle.code_tests.proofs.Needed.{place_next}
use Rattle.code_tests.proofs.guards.first_failing.Goals as goal

pub passes_one-requires-clause-place : goal.passes_one-requires-clause-place
passes_one-requires-clause-place c = place_next c.args.tests.now c.loop-k.k _ _ _ c.loop-k-test.true
    c.loop-k.invariant.1 (search rules)

pub returns-then-not-passes_one-clause-numbers : goal.returns-then-not-passes_one-clause-numbers
returns-then-not-passes_one-clause-numbers c = search (rules, place_next)

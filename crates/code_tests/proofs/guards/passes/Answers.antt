use Rattle.std.proofs.Common.{rules, refl}
use Rattle.code_tests.specs.Registers.{input_of}
use Rattle.code_tests.proofs.Needed.{few_made, place_first}
use Rattle.code_tests.proofs.Tests.{misses}
use Rattle.code_tests.proofs.guards.passes.Goals as goal

pub passes_one-requires-clause-place : goal.passes_one-requires-clause-place
passes_one-requires-clause-place c = place_first _ _ _ _ _ c.in-Some.ensures.some c.loop-test.invariant.1 _
    (search rules)

pub returns-then-not-passes_one-clause-passes : goal.returns-then-not-passes_one-clause-passes
returns-then-not-passes_one-clause-passes c =
    misses (input_of c.args.given.now) _ _ _ _ _ _ _ c.in-Some.ensures.some c.loop-test.invariant.0
    c.if-not-passes_one.ensures.passes refl

pub returns-then-not-passes_one-clause-numbers : goal.returns-then-not-passes_one-clause-numbers
returns-then-not-passes_one-clause-numbers c =
    few_made _ _ _ _ _ c.in-Some.ensures.some c.loop-test.invariant.1 _ c.if-not-passes_one.ensures.numbers

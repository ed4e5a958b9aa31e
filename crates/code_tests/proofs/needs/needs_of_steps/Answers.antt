use Rattle.std.proofs.Common.{rules}
use Rattle.code_tests.proofs.Needed.{all_steps, steps_next}
use Rattle.code_tests.proofs.needs.needs_of_steps.Goals as goal

pub loop-step-preserved : goal.loop-step-preserved
loop-step-preserved c = (
  λ hs. steps_next hs c.args.steps.now c.loop-step.step-index _ _ _ _ _ _ c.loop-step-test.true c.step-item.is
      (c.loop-step.invariant.0 hs)
      (c.makes.ensures.makes hs) (c.keeps.ensures.keeps hs) (c.takes.ensures.takes hs),
  search rules,
  search rules,
  search rules,
)

pub returns-clause-needed : goal.returns-clause-needed
returns-clause-needed c = λ hs. all_steps hs c.args.steps.now c.loop-step.step-index _ (search rules)
    (c.loop-step.invariant.0 hs)

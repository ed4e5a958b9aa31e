use Rattle.stack_judge.specs.Answer.{stack_tree}
use Rattle.pack_judge.proofs.Judging.{sound_judged}
use Rattle.pack_judge.proofs.read.read_bypasses.Goals as goal

pub returns-clause-of_stack : goal.returns-clause-of_stack
returns-clause-of_stack c = λ sound. sound_judged (stack_tree c.args.stack.now) c.args.text.now c.read_with.result
    sound c.read_with.ensures

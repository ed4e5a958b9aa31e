use Rattle.stack_judge.specs.Answer.{stack_tree}
use Rattle.stack_judge.proofs.Judged.{accepted_is}
use Rattle.stack_judge.proofs.stack.Stack.law_accepted.Goals as goal

pub returns : goal.returns
returns c = accepted_is (stack_tree c.args.self.now) c.args.self.now.accepted

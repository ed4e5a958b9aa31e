use Rattle.std.proofs.Common.{rules, refl}
use Rattle.stack_judge.specs.Answer.{stack_tree}
use Rattle.pack_read.proofs.OpenCase.{added}
use Rattle.pack_read.proofs.open.Open.add.Goals as goal

pub returns : goal.returns
returns c = added (stack_tree c.args.stack.now) c.args.line.now c.args.self.now c.said.new.self
    (record c.said.new.self { left = c.in_ok-self.field-0 }) c.put.new.self c.said.result c.in_ok-operation.operation
    c.in_ok-self.field-0
    c.requires c.said.ensures (search rules) (search rules) refl (search rules)

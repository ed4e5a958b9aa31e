use Rattle.std.proofs.Common.{ap, length}
use Rattle.stack_judge.specs.Answer.{stack_tree}
use Rattle.report_lines.proofs.LaidOut.{fronts_more}
use Rattle.report_lines.proofs.fronts.Fronts.push.Goals as goal

pub returns-clause-fronts : goal.returns-clause-fronts
returns-clause-fronts c =
    fronts_more (stack_tree c.args.stack.now) c.args.header.now c.args.self.now.texts c.args.self.now.begins.items _ _ _
    c.in_ok-push_front.ensures (ap length c.slice.ensures) c.in_ok-push.ensures.items

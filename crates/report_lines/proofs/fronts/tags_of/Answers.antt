use Rattle.std.proofs.Common.{arith, rules}
use Rattle.stack_judge.specs.Answer.{stack_tree}
use Rattle.report_lines.proofs.LaidOut.{headers_count, tags_all, tags_most}
use Rattle.report_lines.proofs.fronts.tags_of.Goals as goal

pub returns-then-count-lt255 : goal.returns-then-count-lt255
returns-then-count-lt255 c =
    tags_all (stack_tree c.args.stack.now) c.args.place c.len-count.result
    (headers_count (stack_tree c.args.stack.now) c.args.place c.deref.result.now _ (search rules)
    (omega (arith, c.len-count.ensures, c.deref.result.now.headers.ok))) c.if-count-lt255.true

pub returns-else-count-lt255 : goal.returns-else-count-lt255
returns-else-count-lt255 c =
    tags_most (stack_tree c.args.stack.now) c.args.place c.len-count.result
    (headers_count (stack_tree c.args.stack.now) c.args.place c.deref.result.now _ (search rules)
    (omega (arith, c.len-count.ensures, c.deref.result.now.headers.ok))) c.if-count-lt255.false

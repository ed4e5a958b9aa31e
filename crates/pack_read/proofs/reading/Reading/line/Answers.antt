use Rattle.std.proofs.Common.{rules}
use Rattle.stack_judge.specs.Answer.{stack_tree}
use Rattle.pack_read.proofs.Steps.{idle_line}
use Rattle.pack_read.proofs.reading.Reading.line.Goals as goal

pub returns-in-Idle : goal.returns-in-Idle
returns-in-Idle c = idle_line (stack_tree c.args.stack.now) c.args.self.now c.idle_line.new.self c.args.line.now
    c.idle_line.result
    (search rules) (c.idle_line.ensures (stack_tree c.args.stack.now))

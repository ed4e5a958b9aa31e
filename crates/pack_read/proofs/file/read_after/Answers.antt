use Rattle.std.proofs.Common.{rules}
use Rattle.stack_judge.specs.Answer.{stack_tree}
use Rattle.pack_mean.specs.File.{traces_from}
use Rattle.pack_read.specs.Lines.{lines_left}
use Rattle.pack_read.specs.Files.{begun_after}
use Rattle.pack_read.proofs.Steps.{ended_read}
use Rattle.pack_read.proofs.file.read_after.Goals as goal

pub returns : goal.returns
returns c = ended_read (stack_tree c.args.stack.now) c.loop-line.reading c.loop-line.number
    (lines_left c.loop-line.line-iterator)
    (traces_from (stack_tree c.args.stack.now) (begun_after c.args.due.now) 2 (lines_left c.args.lines)) c.finish.result
    (search rules) c.loop-line.invariant.0 (c.finish.ensures (stack_tree c.args.stack.now))

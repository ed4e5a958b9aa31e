use Rattle.std.proofs.Common.{rules, refl}
use Rattle.stack_judge.specs.Answer.{stack_tree}
use Rattle.pack_read.proofs.Steps.{case_added}
use Rattle.pack_read.proofs.reading.Reading.case_line.Goals as goal

pub returns-then-not-begins : goal.returns-then-not-begins
returns-then-not-begins c = case_added (stack_tree c.args.stack.now) c.args.self.now
    (record {
      stage = c.args.self.now.stage;
      due = c.args.self.now.due;
      current = c.add.new.self;
      traces = c.args.self.now.traces;
    }) c.args.line.now c.add.result c.requires.stage refl refl refl (search rules) c.add.ensures

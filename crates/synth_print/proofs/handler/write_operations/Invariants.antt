use Rattle.std.proofs.Common.{◌≡◌, ◌≤◌, take}
use Rattle.stack_judge.specs.Answer.{stack_tree}
use Rattle.outside.specs.Lines.{Gains}
use Rattle.outside.specs.Tells.{tells_of}
use Rattle.synth_print.specs.Lines.{all_done, bare}
use Rattle.synth_print.specs.Source.{operations_in}
use Rattle.synth_print.specs.Texts.{written_of}
use Rattle.synth_print.proofs.Loops.{so_far}
use Rattle.synth_print.proofs.handler.write_operations.Given as goal

abbrev pub invariant-loop-k : goal.invariant-loop-k
invariant-loop-k g l = record {
  gained : Gains
      (tells_of g.O.Sink l.initial.out)
      (tells_of g.O.Sink l.out)
      (all_done l.stacked.source.now.noting (stack_tree l.stacked.stack.now)
      (take l.k (operations_in l.stacked.source.now)));
  written : written_of l.stacked.stack.now l.stacked.source.now l.written ≡
      bare (so_far l.stacked.source.now.noting (stack_tree l.stacked.stack.now)
      (take l.k (operations_in l.stacked.source.now)));
  few : l.written.binds ≤ l.k;
}

use Rattle.std.proofs.Common.{◌≡◌, ◌+◌, ◌≤◌, take}
use Rattle.stack_judge.specs.Answer.{stack_tree}
use Rattle.run_mean.specs.Report.{lines_of_outputs}
use Rattle.outside.specs.Lines.{Gains}
use Rattle.outside.specs.Tells.{tells_of}
use Rattle.stack_shapes.specs.Trees.{plans_tree}
use Rattle.report_text.specs.Numbered.{number_after}
use Rattle.report_text.specs.Told.{annex_of}
use Rattle.report_text.proofs.output.write_outputs.Given as goal

abbrev pub invariant-loop-k : goal.invariant-loop-k
invariant-loop-k g l = record {
  gained : Gains
      (tells_of g.O.Sink l.initial.out)
      (tells_of g.O.Sink l.out)
      (lines_of_outputs (stack_tree l.manner.stack.now) (annex_of l.manner.wire (plans_tree l.manner.plans.now))
      l.issue.id l.issue.first
      (take l.k l.issue.outputs.now.outputs));
  numbered : l.number ≡ number_after l.issue.first (take l.k l.issue.outputs.now.outputs);
  few : l.number ≤ l.issue.first + l.k;
}

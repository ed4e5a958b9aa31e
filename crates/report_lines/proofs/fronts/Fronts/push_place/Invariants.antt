use Rattle.std.proofs.Common.{◌≡◌}
use Rattle.stack_judge.specs.Answer.{stack_tree}
use Rattle.report_lines.specs.Fronts.{AddFronts, headers_to_tag}
use Rattle.report_lines.proofs.fronts.Fronts.push_place.Given as goal

abbrev pub invariant-loop-number : goal.invariant-loop-number
invariant-loop-number l = record {
  fronts : AddFronts (stack_tree l.stack) (headers_to_tag l.place l.number) l.initial.self.texts
      l.initial.self.begins.items
      l.self.texts l.self.begins.items;
  firsts : l.self.firsts.items ≡ l.initial.self.firsts.items;
}

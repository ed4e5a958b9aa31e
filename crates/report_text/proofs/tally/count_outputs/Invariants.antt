use Rattle.std.proofs.Common.{◌≡◌, ◌+◌, ◌*◌, ◌≤◌, take}
use Rattle.std.specs.List.{fold}
use Rattle.report_text.specs.Counts.{output_counted, total}
use Rattle.report_text.proofs.tally.count_outputs.Given as goal

abbrev pub invariant-loop-k : goal.invariant-loop-k
invariant-loop-k l = record {
  is : l.counts ≡ fold output_counted l.initial.counts (take l.k l.outputs.outputs);
  few : total l.counts ≤ total l.initial.counts + 2 * l.k;
  events : l.counts.events ≡ l.initial.counts.events;
}

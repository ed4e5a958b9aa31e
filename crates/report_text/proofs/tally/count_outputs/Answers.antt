use Rattle.std.proofs.Common.{arith, sym, ap, ◌∙◌, Some}
use Rattle.step_outputs.specs.Views.{output_meant}
use Rattle.report_text.proofs.Tallied.{counted_more}
use Rattle.report_text.proofs.tally.count_outputs.Goals as goal

pub loop-k-preserved : goal.loop-k-preserved
loop-k-preserved c = record {
  is = counted_more c.args.counts.now c.args.outputs.now.outputs c.loop-k.k
      (output_meant c.here-here.result c.at.result) _ _
      c.loop-k.invariant.is c.count_output.ensures.is (omega (arith, c.loop-k-test.true, c.len-k-end.ensures))
      (c.at.ensures ∙ ap (λ here. Some (output_meant here c.at.result)) (sym c.here-here.ensures));
  few = omega (arith, c.count_output.ensures.few, c.loop-k.invariant.few);
  events = c.count_output.ensures.events ∙ c.loop-k.invariant.events;
}

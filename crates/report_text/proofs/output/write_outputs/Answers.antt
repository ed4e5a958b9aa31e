use Rattle.std.proofs.Common.{arith, sym, ap, ◌∙◌, Some}
use Rattle.std.proofs.lemmas.Result.{err_from_is_err_and}
use Rattle.stack_judge.specs.Answer.{stack_tree}
use Rattle.step_outputs.specs.Views.{output_meant}
use Rattle.stack_shapes.specs.Trees.{plans_tree}
use Rattle.report_text.specs.Told.{annex_of}
use Rattle.report_text.proofs.Numbered.{number_more, outputs_gain, outputs_cut}
use Rattle.report_text.proofs.output.write_outputs.Goals as goal

pub loop-k-preserved : goal.loop-k-preserved
loop-k-preserved g c =
    let manner = c.args.manner in
    let issue = c.args.issue in
    let at = c.at-output.ensures ∙ ap (λ here. Some (output_meant here c.at-output.result)) (sym c.here-here.ensures) in
    record {
      gained = outputs_gain (stack_tree manner.stack.now) (annex_of manner.wire (plans_tree manner.plans.now)) issue.id
          issue.first c.loop-k.k c.loop-k.number
          issue.outputs.now.outputs (output_meant c.here-here.result c.at-output.result) _ _ _
          c.loop-k.invariant.gained c.in_ok-write_output.ensures c.loop-k.invariant.numbered
          (omega (arith, c.loop-k-test.true, c.len-k-end.ensures)) at;
      numbered = number_more issue.outputs.now.outputs issue.first c.loop-k.k c.loop-k.number _ _
          c.loop-k.invariant.numbered c.number_following-number.ensures.is
          (omega (arith, c.loop-k-test.true, c.len-k-end.ensures)) at;
      few = omega (arith, c.number_following-number.ensures.few, c.loop-k.invariant.few);
    }

pub returns-in_err-write_output : goal.returns-in_err-write_output
returns-in_err-write_output g c =
    let manner = c.args.manner in
    let issue = c.args.issue in
    let at = c.at-output.ensures ∙ ap (λ here. Some (output_meant here c.at-output.result)) (sym c.here-here.ensures) in
    let p = err_from_is_err_and c.from_residual.result c.from_residual.ensures.1 in
    rw (p.1, p.2) (outputs_cut (stack_tree manner.stack.now) (annex_of manner.wire (plans_tree manner.plans.now))
    issue.id issue.first c.loop-k.k c.loop-k.number
    issue.outputs.now.outputs (output_meant c.here-here.result c.at-output.result) _ _ _ _
    c.loop-k.invariant.gained c.in_err-write_output.ensures c.loop-k.invariant.numbered
    (omega (arith, c.loop-k-test.true, c.len-k-end.ensures)) at)

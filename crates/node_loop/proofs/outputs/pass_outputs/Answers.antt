use Rattle.std.proofs.Common.{◌∙◌, arith, refl, sym, ap, Some}
use Rattle.std.proofs.lemmas.Result.{err_from_is_err_and}
use Rattle.stack_judge.specs.Answer.{stack_tree}
use Rattle.stack_shapes.specs.Trees.{plans_tree}
use Rattle.report_text.proofs.Numbered.{number_more}
use Rattle.step_outputs.specs.Views.{output_meant}
use Rattle.node_loop.proofs.Handing.{outputs_begin, outputs_cut, outputs_pass, sendable_at}
use Rattle.node_loop.proofs.outputs.pass_outputs.Goals as goal

pub loop-k-init : goal.loop-k-init
loop-k-init g c = record {
  passed = outputs_begin (stack_tree c.args.source.stack.now) (plans_tree c.args.source.plans.now) c.args.source.id
      c.args.source.number c.args.outputs.now.outputs _;
  numbered = refl;
  few = omega arith;
  listening = λ m. refl;
}

pub pass_output-requires : goal.pass_output-requires
pass_output-requires g c =
    let at = c.at-output.ensures ∙ ap (λ here. Some (output_meant here c.at-output.result)) (sym c.here-here.ensures) in
    record {
      sendable = sendable_at (plans_tree c.args.source.plans.now) c.args.source.id c.args.outputs.now.outputs c.loop-k.k
          (output_meant c.here-here.result c.at-output.result) _ _ at (c.loop-k.invariant.listening c.args.source.id)
          c.requires.sendable;
    }

pub returns-in_err-pass_output-clause-handed : goal.returns-in_err-pass_output-clause-handed
returns-in_err-pass_output-clause-handed g c =
    let at = c.at-output.ensures ∙ ap (λ here. Some (output_meant here c.at-output.result)) (sym c.here-here.ensures) in
    let p = err_from_is_err_and c.from_residual.result c.from_residual.ensures.1 in
    rw (p.1, p.2) (outputs_cut (stack_tree c.args.source.stack.now) (plans_tree c.args.source.plans.now)
    c.args.source.id c.args.source.number c.args.outputs.now.outputs
    c.loop-k.k c.loop-k.number (output_meant c.here-here.result c.at-output.result) _ _ _ _ c.loop-k.invariant.passed
    c.in_err-pass_output.ensures.handed c.loop-k.invariant.numbered
    (omega (arith, c.loop-k-test.true, c.len-k-end.ensures)) at)

pub loop-k-preserved : goal.loop-k-preserved
loop-k-preserved g c =
    let at = c.at-output.ensures ∙ ap (λ here. Some (output_meant here c.at-output.result)) (sym c.here-here.ensures) in
    record {
      passed = outputs_pass (stack_tree c.args.source.stack.now) (plans_tree c.args.source.plans.now) c.args.source.id
          c.args.source.number c.args.outputs.now.outputs
          c.loop-k.k c.loop-k.number (output_meant c.here-here.result c.at-output.result) _ _ _
          c.loop-k.invariant.passed
          c.in_ok-pass_output.ensures.handed c.loop-k.invariant.numbered
          (omega (arith, c.loop-k-test.true, c.len-k-end.ensures)) at;
      numbered = number_more c.args.outputs.now.outputs c.args.source.number c.loop-k.k c.loop-k.number _ _
          c.loop-k.invariant.numbered c.number_following-number.ensures.is
          (omega (arith, c.loop-k-test.true, c.len-k-end.ensures)) at;
      few = omega (arith, c.number_following-number.ensures.few, c.loop-k.invariant.few);
      listening = λ m. c.in_ok-pass_output.ensures.listening m ∙ c.loop-k.invariant.listening m;
    }

use Rattle.std.proofs.Common.{refl}
use Rattle.std.proofs.lemmas.Result.{err_from_is_err_and}
use Rattle.std.specs.Prelude.{[], Ok}
use Rattle.stack_judge.specs.Answer.{stack_tree}
use Rattle.stack_shapes.specs.Trees.{plans_tree}
use Rattle.step_outputs.specs.Views.{output_meant}
use Rattle.node_loop.proofs.Handing.{none_handed, output_cut, output_handled, packet_handed, sendable_takes}
use Rattle.node_loop.proofs.Passing.{passes_none}
use Rattle.node_loop.proofs.outputs.pass_output.Goals as goal

pub returns-in_err-put_output-clause-handed : goal.returns-in_err-put_output-clause-handed
returns-in_err-put_output-clause-handed g c =
    let p = err_from_is_err_and c.from_residual.result c.from_residual.ensures.1 in
    rw (p.1, p.2) (output_cut (stack_tree c.args.source.stack.now) (plans_tree c.args.source.plans.now) c.args.source.id
    c.args.source.number
    (output_meant c.args.here.now c.args.output.now) _ _ _ c.in_err-put_output.ensures refl refl refl)

pub hand_on-requires : goal.hand_on-requires
hand_on-requires g c = record {
  peers = sendable_takes c.args.source.id _ _ _ _ _
      (packet_handed (plans_tree c.args.source.plans.now) c.args.source.id c.args.here.now c.args.output.now
      c.in-Packet.packet c.in-Packet.is)
      refl c.requires.sendable;
}

pub returns-in-Packet-clause-handed : goal.returns-in-Packet-clause-handed
returns-in-Packet-clause-handed g c =
    output_handled (stack_tree c.args.source.stack.now) (plans_tree c.args.source.plans.now) c.args.source.id
    c.args.source.number
    (output_meant c.args.here.now c.args.output.now) _ _ _ c.hand_on.result _ c.in_ok-put_output.ensures refl refl refl
    (packet_handed (plans_tree c.args.source.plans.now) c.args.source.id c.args.here.now c.args.output.now
    c.in-Packet.packet c.in-Packet.is)
    c.hand_on.ensures.handed

pub returns-in_default : goal.returns-in_default
returns-in_default g c = record {
  handed = output_handled (stack_tree c.args.source.stack.now) (plans_tree c.args.source.plans.now) c.args.source.id
      c.args.source.number
      (output_meant c.args.here.now c.args.output.now) _ _ _ (Ok tt) [] c.in_ok-put_output.ensures refl refl refl
      (none_handed (plans_tree c.args.source.plans.now) c.args.source.id c.args.here.now c.args.output.now
      c.in_default.not-Packet)
      record { failed = []; passed = passes_none _ };
  listening = λ m. refl;
}

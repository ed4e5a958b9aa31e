use Rattle.std.proofs.Common.{◌∙◌, ap, sym, Some}
use Rattle.stack_shapes.specs.Trees.{plans_tree}
use Rattle.step_outputs.specs.Views.{output_meant}
use Rattle.group_world.proofs.Spelled.{spelled_next}
use Rattle.group_world.proofs.packets.Packets.keep.Goals as goal

pub loop-k-preserved : goal.loop-k-preserved
loop-k-preserved c = spelled_next (plans_tree c.args.plans.now) c.args.self.now c.loop-k.self c.put_output.new.self
    c.args.out.now.outputs c.loop-k.k
    _
    (c.at.ensures ∙ ap (λ h. Some (output_meant h c.at.result)) (sym c.here-here.ensures))
    c.loop-k.invariant c.in_ok-put_output.ensures

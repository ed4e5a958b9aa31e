use Rattle.std.proofs.Common.{refl}
use Rattle.shape_core.specs.Cases.{case_trees}
use Rattle.stack_shapes.proofs.Begins.{begins}
use Rattle.stack_shapes.proofs.starts.PlanStarts.count.Goals as goal

pub returns : goal.returns
returns c stack casts sends =
    begins stack (case_trees c.args.cast.now) (case_trees c.args.send.now) _ _ _ _ _ _ casts sends
    c.packets_of-first_send.ensures.is
    c.packets_of.ensures.is c.packets_of-2.ensures.is refl refl refl

use Rattle.std.proofs.Common.{arith, refl}
use Rattle.std.specs.Prelude.{[], ◌∷◌}
use Rattle.node_loop.proofs.Passing.{lines_handled}
use Rattle.node_loop.proofs.outputs.pass_stepped.Goals as goal

pub returns-in-Taken-clause-handed : goal.returns-in-Taken-clause-handed
returns-in-Taken-clause-handed g c = rw c.in-Taken.is (c.pass_taken.ensures.handed c.in-Taken.common)

pub returns-in-Refused-clause-handed : goal.returns-in-Refused-clause-handed
returns-in-Refused-clause-handed g c =
    rw c.in-Refused.is (lines_handled _ _ (_ ∷ []) c.write_refusal.result (omega arith) c.write_refusal.ensures refl
    refl refl)

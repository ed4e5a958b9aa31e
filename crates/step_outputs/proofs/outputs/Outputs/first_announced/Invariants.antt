use Rattle.std.proofs.Common.{◌≡◌, [], take}
use Rattle.step_outputs.proofs.Announced.{all_announced}
use Rattle.step_outputs.proofs.outputs.Outputs.first_announced.Given as goal

abbrev pub invariant-loop-kept : goal.invariant-loop-kept
invariant-loop-kept l = all_announced (take l.kept-index l.kept-items) ≡ []

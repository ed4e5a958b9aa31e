use Rattle.std.proofs.Common.{◌≡◌, ◌++◌, take, drop}
use Rattle.step_outputs.specs.Kept.{numbered_outputs}
use Rattle.step_outputs.proofs.list.number_all.Given as goal

abbrev pub invariant-loop-kept : goal.invariant-loop-kept
invariant-loop-kept l = numbered_outputs l.count l.first l.fn.list ≡ take l.kept-index l.list ++
    numbered_outputs l.count l.next (drop l.kept-index l.list)

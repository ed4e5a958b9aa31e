use Rattle.std.proofs.Common.{◌≡◌, ◌+◌, ◌++◌, map, drop}
use Rattle.synth.specs.Cases.{cases_tree}
use Rattle.pack_read.specs.Files.{bare, due_tree}
use Rattle.pack_judge.specs.Due.{all_due, plan_varying}
use Rattle.pack_judge.proofs.due.plans_due.Given as goal

abbrev pub invariant-loop-number : goal.invariant-loop-number
invariant-loop-number l =
    map due_tree l.due.items ++
    map bare (all_due (2 + l.number) (map plan_varying (drop l.number l.plans)) (map cases_tree (drop l.number l.own)))
    ≡
    map due_tree l.fn.due.items ++ map bare (all_due 2 (map plan_varying l.plans) (map cases_tree l.own))

use Rattle.bound_run.proofs.Answered.{held_so, held_to_so}
use Rattle.bound_run.proofs.checking.answer.Goals as goal

pub returns-in-Holds : goal.returns-in-Holds
returns-in-Holds c =
    held_so c.args.scene.now c.args.scripts c.holds_line.result c.held.result (rw c.in-Holds.is at c.requires)
    c.holds_line.ensures c.held.ensures

pub returns-in-HoldsTo : goal.returns-in-HoldsTo
returns-in-HoldsTo c =
    let found = rw c.in-HoldsTo.is at c.requires in
    held_to_so c.args.scene.now c.in-HoldsTo.most c.args.scripts c.holds_to_line.result c.held-in-HoldsTo.result found.0
    found.1
    c.holds_to_line.ensures c.held-in-HoldsTo.ensures

pub broken-requires : goal.broken-requires
broken-requires c = rw c.deref.ensures.value (rw c.in-Breach.is at c.requires)

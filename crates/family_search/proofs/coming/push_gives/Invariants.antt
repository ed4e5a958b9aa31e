use Rattle.family_search.specs.Coming.{AreGiven}
use Rattle.family_search.proofs.coming.push_gives.Given as goal

abbrev pub invariant-loop-id : goal.invariant-loop-id
invariant-loop-id l = AreGiven l.packet l.id l.initial.all.items l.all.items

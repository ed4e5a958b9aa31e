use Rattle.family_search.specs.Coming.{HaveActs, AreAll}
use Rattle.family_search.proofs.coming.candidates.Given as goal

abbrev pub invariant-loop-index : goal.invariant-loop-index
invariant-loop-index l = HaveActs l.index l.all.items

abbrev pub invariant-loop-packet : goal.invariant-loop-packet
invariant-loop-packet l = AreAll l.acts l.packet l.members l.all.items

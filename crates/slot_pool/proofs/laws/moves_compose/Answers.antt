use Rattle.slot_pool.proofs.References.{moved-same, moved-chain, moved-beside, moved-before, moved-reordered}
use Rattle.slot_pool.proofs.laws.moves_compose.Goals as goal

pub returns-clause-same : goal.returns-clause-same
returns-clause-same c = moved-same

pub returns-clause-chain : goal.returns-clause-chain
returns-clause-chain c = moved-chain

pub returns-clause-beside : goal.returns-clause-beside
returns-clause-beside c = moved-beside

pub returns-clause-before : goal.returns-clause-before
returns-clause-before c = moved-before

pub returns-clause-reordered : goal.returns-clause-reordered
returns-clause-reordered c = moved-reordered

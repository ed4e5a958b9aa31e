use Rattle.slot_pool.proofs.References.{puts-moves, keep-moves, end-moves}
use Rattle.slot_pool.proofs.laws.calls_move_references.Goals as goal

pub returns-clause-put : goal.returns-clause-put
returns-clause-put c = puts-moves

pub returns-clause-keep : goal.returns-clause-keep
returns-clause-keep c = keep-moves

pub returns-clause-give_back : goal.returns-clause-give_back
returns-clause-give_back c = end-moves

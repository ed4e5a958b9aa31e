use Rattle.pool_laws.proofs.Room.{not_full, room_at_first, room_after_put}
use Rattle.pool_laws.proofs.pools_have_room.Goals as goal

pub returns-clause-not_full : goal.returns-clause-not_full
returns-clause-not_full c = not_full

pub returns-clause-first : goal.returns-clause-first
returns-clause-first c = room_at_first

pub returns-clause-put : goal.returns-clause-put
returns-clause-put c = room_after_put

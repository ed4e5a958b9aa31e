-- Lemmas that go together, for the functions whose goals want them.
use Rattle.group_peer.proofs.Stepped.{made, same_place}
use Rattle.group_peer.proofs.Tells.{room_at, tells_output, has_no_room}

-- For `step_member`.
pub ruleset of_step = (made, same_place)

-- For `tell_output`.
pub ruleset of_output = (room_at, tells_output, has_no_room)

-- Lemmas that go together, for the functions whose goals want them.
use Rattle.peer_handle.proofs.Opens.{few_members, has_member, runs, is_made, not_made, has_one, no_member}
use Rattle.peer_handle.proofs.Opens.{none_kept, opens_stack, refuses_file}

-- For `make`.
pub ruleset of_make = (few_members, has_member, runs, is_made, not_made)

-- For `open`.
pub ruleset of_open = (has_one, no_member, none_kept, opens_stack, refuses_file)

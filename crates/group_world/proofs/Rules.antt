-- Lemmas that go together, for the functions whose goals want them.
use Rattle.group_world.proofs.Arena.{starts_before, ends_within, part_at}

-- For `part`.
pub ruleset of_part = (starts_before, ends_within, part_at)

-- Lemmas that go together, for the functions whose goals want them.
use Rattle.slot_pool.proofs.Spots.{length_joined, spot_at_joined, spot_short}

-- For `body`.
pub ruleset of_body = (length_joined, spot_at_joined, spot_short)

-- Lemmas that go together, for the functions whose goals want them.
use Rattle.layer_eval.proofs.Sizes.{cut_bytes, tail_bytes, join_bytes}

-- For `size`.
pub ruleset of_size = (cut_bytes, tail_bytes, join_bytes)

-- Lemmas that go together, for the functions whose goals want them.
use Rattle.pack_words.proofs.Places.{none_first, header_after, no_header}

-- For `header_tag`.
pub ruleset of_header_tag = (none_first, header_after, no_header)

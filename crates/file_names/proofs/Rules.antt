-- Lemmas that go together, for the functions whose goals want them.
use Rattle.file_scope.proofs.Layers.{within_file, within_made, made_at, made_within}
use Rattle.file_scope.proofs.Finds.{finds_none, finds_both, finds_row, finds_three}
use Rattle.file_names.proofs.Lookups.{given_within, given_at, given_nowhere}

-- For `place`.
pub ruleset of_place = (within_file, within_made, made_at)

-- For `written` and `library`.
pub ruleset made_row = (made_within, made_at)

-- For `expression`, `queue`, `message`, `built`.
pub ruleset three_found = (finds_none, finds_both, finds_row, finds_three)

-- For `statement`.
pub ruleset row_found = (finds_none, finds_both, finds_row)

-- For `given_value`.
pub ruleset of_given_value = (given_within, given_at, given_nowhere)

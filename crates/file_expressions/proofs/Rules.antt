-- Lemmas that go together, for the functions whose goals want them.
use Rattle.file_scope.proofs.Finds.{finds_none, finds_both}
use Rattle.file_scope.proofs.Parts.{three_parts, four_parts}

-- For `expression`, `built`.
pub ruleset parts_found = (finds_none, finds_both, three_parts, four_parts)

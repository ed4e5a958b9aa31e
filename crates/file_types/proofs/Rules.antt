-- Lemmas that go together, for the functions whose goals want them.
use Rattle.file_scope.proofs.Finds.{finds_none, part_more}
use Rattle.file_types.proofs.Arguments.{one_after, none_after, item_more, items_end}
use Rattle.file_scope.proofs.Layers.{made_within, made_at}

-- For `after_first`.
pub ruleset of_after_first = (finds_none, one_after, none_after)

-- For `written`.
pub ruleset of_written = (finds_none, part_more, made_within, made_at)

-- For `each_item`.
pub ruleset of_each_item = (finds_none, item_more, items_end)

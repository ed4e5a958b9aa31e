-- Lemmas that go together, for the functions whose goals want them.
use Rattle.file_scope.proofs.Sorted.{first_sort, rest_sort, no_sort}

-- For `item_sort`.
pub ruleset of_item_sort = (first_sort, rest_sort, no_sort)

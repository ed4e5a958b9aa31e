use Rattle.std.proofs.Common.{rules}
use Rattle.file_scope.proofs.Finds.{finds_both, finds_none, finds_row}
use Rattle.file_names.proofs.uses.+uses.Goals as goal

pub expression-returns-in-Some : goal.expression-returns-in-Some
expression-returns-in-Some t c = rw (c.in-Named.is, c.in-Some.is) (search (rules, finds_both, finds_none, finds_row))

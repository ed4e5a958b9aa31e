use Rattle.std.proofs.Common.{rules}
use Rattle.file_scope.proofs.Finds.{finds_both}
use Rattle.file_expressions.proofs.expressions.+types.Goals as goal

pub expression-returns-in-Some : goal.expression-returns-in-Some
expression-returns-in-Some t c = rw (c.in-Named.is, c.in-Some.is) (search (rules, finds_both))

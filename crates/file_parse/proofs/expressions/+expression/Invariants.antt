use Rattle.std.proofs.Common.{◌+◌, ◌*◌, length}
use Rattle.file_parse.proofs.expressions.+expression.Given as goal

abbrev pub decreases-apply : goal.decreases-apply
decreases-apply l = 4 * length l.tokens.now + 1

abbrev pub decreases-binary : goal.decreases-binary
decreases-binary l = 4 * length l.tokens.now + 2

abbrev pub decreases-boxed : goal.decreases-boxed
decreases-boxed l = 4 * length l.tokens.now + 1

abbrev pub decreases-boxed_index : goal.decreases-boxed_index
decreases-boxed_index l = 4 * length l.tokens.now

abbrev pub decreases-boxed_message : goal.decreases-boxed_message
decreases-boxed_message l = 4 * length l.tokens.now + 2

abbrev pub decreases-built : goal.decreases-built
decreases-built l = 4 * length l.tokens.now

abbrev pub decreases-cut : goal.decreases-cut
decreases-cut l = 4 * length l.tokens.now + 1

abbrev pub decreases-expression : goal.decreases-expression
decreases-expression l = 4 * length l.tokens.now

abbrev pub decreases-held : goal.decreases-held
decreases-held l = 4 * length l.tokens.now + 1

abbrev pub decreases-item : goal.decreases-item
decreases-item l = 4 * length l.tokens.now + 1

abbrev pub decreases-join : goal.decreases-join
decreases-join l = 4 * length l.tokens.now + 1

abbrev pub decreases-message : goal.decreases-message
decreases-message l = 4 * length l.tokens.now + 1

abbrev pub decreases-named : goal.decreases-named
decreases-named l = 4 * length l.tokens.now + 1

abbrev pub decreases-two_expressions : goal.decreases-two_expressions
decreases-two_expressions l = 4 * length l.tokens.now + 2

abbrev pub decreases-pick : goal.decreases-pick
decreases-pick l = 4 * length l.tokens.now + 1

abbrev pub decreases-queue : goal.decreases-queue
decreases-queue l = 4 * length l.tokens.now + 1

abbrev pub decreases-row : goal.decreases-row
decreases-row l = 4 * length l.tokens.now

abbrev pub decreases-rows : goal.decreases-rows
decreases-rows l = 4 * length l.tokens.now + 1

abbrev pub decreases-size : goal.decreases-size
decreases-size l = 4 * length l.tokens.now + 1

abbrev pub decreases-tail : goal.decreases-tail
decreases-tail l = 4 * length l.tokens.now + 1

use Rattle.std.proofs.Common.{◌+◌, ◌*◌, length}
use Rattle.layer_ast.specs.Print as print
use Rattle.layer_ast.specs.View.{statement_trees}
use Rattle.grammar_laws.specs.Machine.{statements}
use Rattle.file_parse.specs.Reading.{Gathers}
use Rattle.file_parse.proofs.statements.+statement.Given as goal

abbrev pub decreases-block : goal.decreases-block
decreases-block l = 4 * length l.tokens.now

abbrev pub decreases-condition : goal.decreases-condition
decreases-condition l = 4 * length l.tokens.now + 2

abbrev pub decreases-each : goal.decreases-each
decreases-each l = 4 * length l.tokens.now + 1

abbrev pub decreases-else_block : goal.decreases-else_block
decreases-else_block l = 4 * length l.tokens.now + 1

abbrev pub decreases-otherwise : goal.decreases-otherwise
decreases-otherwise l = 4 * length l.tokens.now + 1

abbrev pub decreases-push : goal.decreases-push
decreases-push l = 4 * length l.tokens.now + 2

abbrev pub decreases-statement : goal.decreases-statement
decreases-statement l = 4 * length l.tokens.now

abbrev pub decreases-statements : goal.decreases-statements
decreases-statements l = 4 * length l.tokens.now + 1

abbrev pub decreases-take : goal.decreases-take
decreases-take l = 4 * length l.tokens.now + 2

abbrev pub invariant-statements-loop-alloc : goal.invariant-statements-loop-alloc
invariant-statements-loop-alloc l =
    Gathers print.statements statements l.room l.fn.tokens (statement_trees l.all.items) l.rest

abbrev pub decreases-statements-loop-alloc : goal.decreases-statements-loop-alloc
decreases-statements-loop-alloc l = length l.rest

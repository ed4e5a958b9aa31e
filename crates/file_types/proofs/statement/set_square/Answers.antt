use Rattle.layer_ast.specs.View.{expression_tree}
use Rattle.fault_mean.specs.ExpressionFaults.{number_faults}
use Rattle.file_scope.specs.Scope.{scope_of}
use Rattle.std.proofs.Common.{rules}
use Rattle.file_types.proofs.Assignments.{of_three}
use Rattle.file_types.proofs.statement.set_square.Goals as goal

pub returns : goal.returns
returns c = of_three (number_faults (scope_of c.args.scope.now)) c.args.found.now c.note_unless.new.found
    c.expression.new.found
    c.expression-2.new.found c.expression-3.new.found _ (expression_tree c.args.row.now)
    (expression_tree c.args.column.now)
    (expression_tree c.args.set.value.now) (search rules) c.expression.ensures c.expression-2.ensures
    c.expression-3.ensures

-- The faults of types of the statements of a block.
use Rattle.std.specs.Prelude.{List, ◌++◌, flat_map}
use Rattle.layer_ast.specs.Tree.{StatementTree, StatementTrees}
use Rattle.fault_mean.specs.Faults.{TypeFault}
use Rattle.fault_mean.specs.Scope.{Scope, Standing, standing_in, standing_inside}
use Rattle.fault_mean.specs.TypeFaults.{statement_type_faults}

-- The faults of a statement that stands in a scope.
abbrev pub standing_faults : Standing → List TypeFault
standing_faults s = statement_type_faults s.scope s.statement

-- The faults of the statements of a block that stands in a scope.
abbrev pub block_faults : Scope → StatementTrees → List TypeFault
block_faults scope block = flat_map standing_faults (standing_in scope block)

-- The faults of the statements inside a statement.
abbrev pub inner_faults : Scope → StatementTree → List TypeFault
inner_faults scope statement = flat_map standing_faults (standing_inside scope statement)

-- The faults of a statement, and of those inside it.
abbrev pub statement_faults : Scope → StatementTree → List TypeFault
statement_faults scope statement = statement_type_faults scope statement ++ inner_faults scope statement

-- The faults of the statements of a block.
use Rattle.std.specs.Prelude.{List, ◌++◌, flat_map}
use Rattle.layer_ast.specs.Tree.{StatementTree, StatementTrees}
use Rattle.fault_mean.specs.Faults.{NameFault}
use Rattle.fault_mean.specs.Limits.{maximum_in}
use Rattle.fault_mean.specs.NameFaults.{size_faults, statement_name_faults, twice_among}
use Rattle.fault_mean.specs.Scope.{Scope, declared_names, standing_in, standing_inside, visible}

-- The faults of the statements of a block that stands in a scope.
abbrev pub block_faults : Scope → StatementTrees → List NameFault
block_faults scope block = flat_map statement_name_faults (standing_in scope block)

-- The faults of a statement, and of those inside it.
abbrev pub statement_faults : Scope → StatementTree → List NameFault
statement_faults scope statement =
    statement_name_faults (record { scope = scope; statement = statement })
    ++ flat_map statement_name_faults (standing_inside scope statement)

-- Those of what a statement declares, of its maximum, if it has one, and of the statements inside it.
abbrev pub inner_faults : Scope → StatementTree → List NameFault
inner_faults scope statement =
    twice_among (visible scope) (declared_names statement)
    ++ flat_map size_faults (maximum_in statement)
    ++ flat_map statement_name_faults (standing_inside scope statement)

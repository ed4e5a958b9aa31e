-- The names after a block of a statement.
use Rattle.layer_ast.specs.Tree.{StatementTrees}
use Rattle.file_mean.specs.Names.{Names}
use Rattle.file_mean.specs.Statements.{after_block, after_all}

-- The names after a block: those before its statement, with the slots that are taken at the end of the block. The block
-- begins with the names `inner`.
abbrev pub past : Names → Names → StatementTrees → Names
past names inner block = after_block names (after_all block inner)

use Rattle.std.proofs.Common.{◌+◌, ◌*◌}
use Rattle.symbol_compare.proofs.values.+values.Given as goal

-- A node weighs more than the steps from it to those that it names.
abbrev pub decreases-node_value : goal.decreases-node_value
decreases-node_value l = 8 * l.node + 5

abbrev pub decreases-node_values : goal.decreases-node_values
decreases-node_values l = 8 * l.above + l.many

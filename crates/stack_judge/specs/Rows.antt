-- How many rows with messages a member of a view of n keeps at most.
use Rattle.std.specs.Prelude.{ℕ}
use Rattle.std.specs.List.{sum_by}
use Rattle.layer_mean.specs.Tree.{CellTree, LayerTree}
use Rattle.stack_mean.specs.Acceptance.{message_rows}

-- In a cell.
abbrev pub rows_of_cell : ℕ → CellTree → ℕ
rows_of_cell n cell = message_rows n cell.form

-- In a layer.
abbrev pub rows_of_layer : ℕ → LayerTree → ℕ
rows_of_layer n layer = sum_by (rows_of_cell n) layer.cells

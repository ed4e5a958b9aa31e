use Rattle.std.proofs.Common.{◌≡◌, ◌≤◌, map, take}
use Rattle.layer_mean.specs.Tree.{CellTree}
use Rattle.typed_layer.specs.View.{cell_tree}
use Rattle.desk_needs.specs.Layouts.{rows_kept}
use Rattle.live_layer.specs.Fits.{rows_most}
use Rattle.live_layer.proofs.makes.rows_at_most.Given as goal

abbrev pub invariant-loop-cell : goal.invariant-loop-cell
invariant-loop-cell l =
    (l.rows ≡ rows_most (map (λ (c : CellTree). rows_kept c.form) (map cell_tree (take l.cell-index l.cells)))) ×
    (l.rows ≤ 32768)

use Rattle.std.proofs.Common.{◌≡◌, filter_map, map, take}
use Rattle.layer_ast.specs.View as written
use Rattle.file_mean.specs.Layers as spec
use Rattle.typed_layer.specs.View.{cell_tree}
use Rattle.file_slots.specs.Place.{placed_of}
use Rattle.file_lower.proofs.cell.cells.Given as goal

abbrev pub invariant-loop-declaration : goal.invariant-loop-declaration
invariant-loop-declaration l =
    map cell_tree l.all.items ≡
    filter_map (spec.cell_in (placed_of l.place))
    (map written.declaration_tree (take l.declaration-index l.declarations))

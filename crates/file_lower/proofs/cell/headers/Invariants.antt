use Rattle.std.proofs.Common.{◌≡◌, filter_map, map, take}
use Rattle.layer_ast.specs.View as written
use Rattle.file_mean.specs.Layers as spec
use Rattle.typed_layer.specs.View.{header_tree}
use Rattle.file_lower.proofs.cell.headers.Given as goal

abbrev pub invariant-loop-declaration : goal.invariant-loop-declaration
invariant-loop-declaration l =
    map header_tree l.all.items ≡ filter_map spec.header_in
    (map written.declaration_tree (take l.declaration-index l.declarations))

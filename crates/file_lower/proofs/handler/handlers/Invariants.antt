use Rattle.std.proofs.Common.{◌≡◌, All, map, take}
use Rattle.layer_ast.specs.View as written
use Rattle.file_mean.specs.Layers as spec
use Rattle.typed_layer.specs.Table.{IsTagged}
use Rattle.typed_layer.specs.View.{handler_tree}
use Rattle.file_slots.specs.Place.{placed_of}
use Rattle.file_lower.proofs.handler.handlers.Given as goal

abbrev pub invariant-loop-h : goal.invariant-loop-h
invariant-loop-h l =
    (map handler_tree l.made.items ≡
    map (spec.handler_of (placed_of l.place)) (map written.handler_tree (take l.h-index l.all)))
    × All IsTagged l.made.items

use Rattle.std.proofs.Common.{flat_map, map, take}
use Rattle.layer_ast.specs.View.{handler_tree, layer_tree}
use Rattle.fault_mean.specs.TypeFaults.{handler_type_faults}
use Rattle.file_expressions.specs.Found.{Finds}
use Rattle.file_types.proofs.handler.handlers.Given as goal

abbrev pub invariant-loop-h : goal.invariant-loop-h
invariant-loop-h l = Finds l.initial.found
    (flat_map (handler_type_faults (layer_tree l.layer)) (map handler_tree (take l.h-index l.layer.handlers.items)))
    l.found

use Rattle.std.proofs.Common.{◌≡◌, [], flat_map, fold, map, take}
use Rattle.layer_ast.specs.View.{handler_tree, layer_tree}
use Rattle.fault_mean.specs.NameFaults.{handler_name_faults}
use Rattle.file_names.specs.Found.{Finds}
use Rattle.file_names.specs.Gathered.{maxima_of, noted_words}
use Rattle.file_names.proofs.handler.handlers.Given as goal

abbrev pub invariant-loop-h : goal.invariant-loop-h
invariant-loop-h l =
    Finds l.initial.found
    (flat_map (handler_name_faults (layer_tree l.worded.layer.now))
    (map handler_tree (take l.h-index l.worded.layer.now.handlers.items)))
    l.found
    × (l.maxima ≡ fold noted_words []
    (flat_map maxima_of (map handler_tree (take l.h-index l.worded.layer.now.handlers.items))))

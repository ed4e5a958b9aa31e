-- The faults of a handler, part by part.
use Rattle.std.specs.Prelude.{List, [], ◌∷◌, ◌++◌}
use Rattle.std.specs.Option.{option_map_or}
use Rattle.layer_ast.specs.Tree.{HandlerTree, LayerTree}
use Rattle.fault_mean.specs.Faults.{NameFault}
use Rattle.fault_mean.specs.NameFaults.{expected_uses, twice_among, uses_faults}
use Rattle.fault_mean.specs.Scope.{head_names, head_scope, layer_scope, visible}
use Rattle.fault_mean.specs.Uses.{of_name}
use Rattle.file_names.specs.Blocks.{block_faults}

-- Those of its head, which uses the popped header's name and declares its own names.
abbrev pub head_part : LayerTree → HandlerTree → List NameFault
head_part layer handler =
    uses_faults (layer_scope layer) (option_map_or (λ p. of_name p.name ∷ []) handler.popped [])
    ++ twice_among (visible (layer_scope layer)) (head_names handler)

-- Those of its head, its condition and its block.
abbrev pub block_part : LayerTree → HandlerTree → List NameFault
block_part layer handler =
    head_part layer handler
    ++ uses_faults (head_scope layer handler) (expected_uses handler.expected)
    ++ block_faults (head_scope layer handler) handler.block

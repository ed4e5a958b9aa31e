-- The layer that a header names.
use Rattle.std.specs.Prelude.{Option, Some, None}
use denote.Ref.{Bor}
use Rattle.layer_mean.specs.Tree.{LayerTree, no_layer}
use Rattle.typed_layer.specs.View.{layer_tree}
use Rattle.typed_layer.specs.declared.tree.TypedLayer.{TypedLayer}

-- The tree of a borrowed layer; where there is none, the layer without a name.
abbrev pub layer_or_none : Option (Bor TypedLayer) → LayerTree
layer_or_none None = no_layer
layer_or_none (Some layer) = layer_tree layer.now

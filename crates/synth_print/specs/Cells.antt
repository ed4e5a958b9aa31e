-- Layers and cells as lines name them.
use Rattle.std.specs.Prelude.{Bool, true, false, Option, Some, None, option_map}
use denote.Ref.{Bor}
use Rattle.layer_words.specs.declared.sorts.Shape.TheVariants.{One}
use Rattle.layer_mean.specs.Tree.{Form, numbers, queue, CellTree, LayerTree, no_layer}
use Rattle.typed_layer.specs.View.{cell_tree, layer_tree}
use Rattle.typed_layer.specs.declared.tree.Cell.{Cell}
use Rattle.typed_layer.specs.declared.tree.TypedLayer.{TypedLayer}

-- The tree of a borrowed layer; where there is none, the layer without a name.
abbrev pub layer_or_none : Option (Bor TypedLayer) → LayerTree
layer_or_none None = no_layer
layer_or_none (Some layer) = layer_tree layer.now

-- The tree of a cell that is borrowed.
abbrev pub cell_shown : Option (Bor Cell) → Option CellTree
cell_shown None = None
cell_shown (Some cell) = Some (cell_tree cell.now)

-- What a cell is, where there is one.
abbrev pub form_shown : Option CellTree → Option Form
form_shown cell = option_map (λ cell. cell.form) cell

-- Whether a cell is told without an index.
abbrev pub is_single : Option Form → Bool
is_single (Some (numbers One initial)) = true
is_single (Some (queue capacity items)) = true
is_single _ = false

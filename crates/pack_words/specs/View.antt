-- What lines name, as the code finds it in a stack.
use Rattle.std.specs.Prelude.{ℕ, List, [], ◌∷◌, Option, Some, None, map, option_map}
use denote.Ref.{Bor}
use Rattle.stack_judge.specs.Answer.{stack_tree}
use Rattle.layer_mean.specs.Tree.{CellTree, Form, ItemsTree, LayerTree, no_layer}
use Rattle.pack_mean.specs.Named.{Named, items_at, no_items, place_of}
use Rattle.typed_layer.specs.View.{cell_tree, items_tree, layer_tree}
use Rattle.typed_layer.specs.declared.tree.Cell.{Cell}
use Rattle.typed_layer.specs.declared.tree.Items.{Items}
use Rattle.typed_layer.specs.declared.tree.TypedLayer.{TypedLayer}
use Rattle.pack_words.specs.declared.scope.Scope.{Scope}
use Rattle.pack_words.specs.declared.spot.Spot.{Spot}

-- The tree of a layer that is borrowed, and of none the layer without a name.
abbrev pub layer_shown : Option (Bor TypedLayer) → LayerTree
layer_shown None = no_layer
layer_shown (Some layer) = layer_tree layer.now

-- The tree of a cell that is borrowed, and what it is.
abbrev pub cell_shown : Option (Bor Cell) → Option CellTree
cell_shown None = None
cell_shown (Some cell) = Some (cell_tree cell.now)

abbrev pub form_shown : Option CellTree → Option Form
form_shown cell = option_map (λ cell. cell.form) cell

-- What borrowed rows have; where there are none, nothing.
abbrev pub items_shown : Option (Bor Items) → ItemsTree
items_shown None = no_items
items_shown (Some items) = items_tree items.now

-- The place and the number of a cell.
abbrev pub pair_of : Spot → ℕ × ℕ
pair_of spot = (spot.place, spot.cell)

-- What the rows of a queue have.
abbrev pub row_of : List LayerTree → Spot → ItemsTree
row_of stack spot = items_at stack spot.place spot.cell

-- The layers of a line's stack, and what it may name.
abbrev pub layers_in : Scope → List LayerTree
layers_in s = stack_tree s.stack.now

abbrev pub named_in : Scope → Named
named_in s = record {
  fields = s.fields;
  binds = s.binds;
  notes = s.notes;
  rows =
      map (row_of (layers_in s)) s.rows.now;
}

-- Which number of a row a name is.
abbrev pub item_in : ItemsTree → List (List ℕ) → Option ℕ
item_in items (word ∷ []) = place_of word items.numbers
item_in items _ = None

-- The stack that a file means.
use Rattle.std.specs.Prelude.{ℕ, ◌+◌, ◌-◌, List, map, length}
use Rattle.std.specs.List.{enumerate_from, range_with_len}
use Rattle.std.specs.Option.{option_map_or}
use Rattle.msg_core.specs.declared.message.Header.{Header}
use Rattle.layer_ast.specs.Tree as ast
use Rattle.layer_mean.specs.Tree.{LayerTree, no_layer}
use Rattle.layer_mean.specs.Visit.{none_header}
use Rattle.fault_mean.specs.Places.{layer_at}
use Rattle.file_mean.specs.Layers.{layer_of}

-- The header `none` of each place above the one of this number, in a stack of `places` places, the lowest first.
abbrev pub blank_above : ℕ → ℕ → List Header
blank_above place places = map none_header (range_with_len (place + 1) (places - (place + 1)))

-- The layer at a place, which has this number.
abbrev pub placed_layer : ast.FileTree → ℕ → ast.PlaceTree → LayerTree
placed_layer file number place = option_map_or
    (λ layer. layer_of (record {
      layer = layer;
      given = place.given;
      blank = blank_above number (length file.places);
    }))
    (layer_at file place) no_layer

-- The stack that a file means: the layer at each place, lowest first. (For a file with a fault of names or types,
-- nothing uses what it says.)
unfoldable pub stack_of : ast.FileTree → List LayerTree
stack_of file = map (λ x. placed_layer file x.0 x.1) (enumerate_from 0 file.places)

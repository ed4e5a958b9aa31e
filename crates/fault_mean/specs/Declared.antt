-- What a layer's own names stand for: its params, cells and headers share one space of names, visible in the whole
-- layer.
use Rattle.std.specs.Prelude.{ℕ, ◌+◌, Bool, true, false, List, [], ◌∷◌, bytes_eq, Option, Some, None, option_map}
use Rattle.std.specs.List.{find, filter, position}
use Rattle.layer_ast.specs.declared.names.Name.{Name}
use Rattle.layer_words.specs.declared.words.Word.{Word}
use Rattle.layer_ast.specs.Tree.{DeclarationTree, param, int, rows_cell, rows_array, header, ItemTree, ItemsTree}
use Rattle.layer_ast.specs.Tree.{LayerTree, NamesTree}

-- The name that a declaration declares.
abbrev pub declared_name : DeclarationTree → Name
declared_name (param at name value) = name
declared_name (int at name shape initial) = name
declared_name (rows_cell at name capacity items) = name
declared_name (rows_array at name capacity items) = name
declared_name (header at name fields ending) = name

-- Whether a declaration declares a cell: numbers, a queue, or an array of queues.
abbrev pub is_cell : DeclarationTree → Bool
is_cell (param at name value) = false
is_cell (header at name fields ending) = false
is_cell _ = true

-- Whether a declaration declares a header.
abbrev pub is_header : DeclarationTree → Bool
is_header (header at name fields ending) = true
is_header _ = false

-- Whether a declaration declares a param.
abbrev pub is_param : DeclarationTree → Bool
is_param (param at name value) = true
is_param _ = false

-- The cells of a layer, in the order of their declarations.
abbrev pub cells_of : LayerTree → List DeclarationTree
cells_of layer = filter is_cell layer.declarations

-- The headers of a layer, in the order of their declarations.
abbrev pub headers_of : LayerTree → List DeclarationTree
headers_of layer = filter is_header layer.declarations

-- Whether a declaration declares this word.
abbrev pub declares : Word → DeclarationTree → Bool
declares word d = bytes_eq (declared_name d).word word

-- The declaration of a word: the first, if there are several.
abbrev pub declaration_of : LayerTree → Word → Option DeclarationTree
declaration_of layer word = find (declares word) layer.declarations

-- The number of a cell, from 0.
abbrev pub cell_number : LayerTree → Word → Option ℕ
cell_number layer word = position (declares word) (cells_of layer)

-- The tag of a header: the first that is declared has tag 1.
abbrev pub header_tag : LayerTree → Word → Option ℕ
header_tag layer word = option_map (λ k. k + 1) (position (declares word) (headers_of layer))

-- The names of a list that may be missing.
abbrev pub names_in : Option NamesTree → List Name
names_in None = []
names_in (Some names) = names.first ∷ names.rest

-- The items of a row.
abbrev pub items_in : ItemsTree → List ItemTree
items_in items = items.first ∷ items.rest

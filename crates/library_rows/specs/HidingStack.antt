-- A file with a layer that hides the library's layer of the same name, and with a layer of the library at two places;
-- and the stack that it means.
use Rattle.std.specs.Prelude.{ℕ, List, [], ◌∷◌, ◌++◌, codes}
use Rattle.layer_ast.specs.Reader.{file_of}
use Rattle.layer_ast.specs.Tree.{FileTree}
use Rattle.layer_mean.specs.Tree as mean
use Rattle.library_rows.specs.Bottom as bottom
use Rattle.library_rows.specs.OrderStack.{bottom_layer}

-- Its text.
abbrev pub text : List ℕ
text =
    codes "layer local { }\n"
    ++ codes "stack { bottom; local; bottom; }\n"

-- The file.
abbrev pub file : FileTree
file = record (file_of text) {
  library = bottom.layer ∷ [];
}

-- The stack that it means: its own layer has no cells, headers and handlers.
abbrev pub stack : List mean.LayerTree
stack =
    bottom_layer
    ∷ record { name = codes "local"; cells = []; headers = []; handlers = [] }
    ∷ bottom_layer
    ∷ []

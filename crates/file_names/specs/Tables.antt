-- The tables of a file's words.
use Rattle.std.specs.Prelude.{◌≡◌, map}
use Rattle.layer_ast.specs.Tree.{FileTree}
use Rattle.file_scope.specs.Words.{own_words}
use Rattle.file_names.specs.declared.tables.Tables.{Tables}

-- Tables have, for each layer of a file and for each that the library brings, the words that it declares.
abbrev pub IsTables : Tables → FileTree → Type 0
IsTables tables file = (tables.layers.items ≡ map own_words file.layers) ×
    (tables.library.items ≡ map own_words file.library)

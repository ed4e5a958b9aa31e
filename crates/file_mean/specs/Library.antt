-- What the library brings to a file, and when a text is a file.
use Rattle.std.specs.Prelude.{◌≡◌, ℕ, List, [], ◌∷◌, map, filter, filter_map, Bool, not, bytes_eq, None}
use Rattle.std.specs.List.{AllZip, list_any}
use Rattle.layer_words.specs.declared.words.Word.{Word}
use Rattle.layer_ast.specs.Cut.{text_tokens}
use Rattle.layer_ast.specs.Print as printed
use Rattle.layer_ast.specs.Spells.{Fits, Spells}
use Rattle.layer_ast.specs.Tree.{LayerTree, FileTree}
use Rattle.file_library.specs.Library.{library_text}

-- A text spells a layer: it has no bad token, and its tokens are the layer's and stand where the layer says.
pub record SpellsLayer (text : List ℕ) (layer : LayerTree) : Type 0 where
  pub good : (text_tokens text).bad_at ≡ None
  pub fits : Fits (printed.layer layer []) (text_tokens text).tokens

-- Whether no layer of a file has a name.
abbrev pub lacks : FileTree → Word → Bool
lacks file word = not (list_any (λ layer. bytes_eq layer.name.word word) file.layers)

-- Words in order, each once.
abbrev pub each_once : List Word → List Word
each_once [] = []
each_once (word ∷ rest) = word ∷ filter (λ other. not (bytes_eq other word)) (each_once rest)

-- The texts of the library that a file calls for: those of the names that its places name and it lacks, each once, in
-- the order of its places.
abbrev pub called_for : FileTree → List (List ℕ)
called_for file = filter_map library_text (each_once (filter (lacks file) (map (λ place. place.name.word) file.places)))

-- A file has what the library brings: for each text that it calls for, the layer that the text spells.
abbrev pub HasLibrary : FileTree → Type 0
HasLibrary file = AllZip SpellsLayer (called_for file) file.library

-- A text is a file: it spells the file, which has what the library brings.
pub record IsFile (text : List ℕ) (file : FileTree) : Type 0 where
  pub spelled : Spells text file
  pub library : HasLibrary file

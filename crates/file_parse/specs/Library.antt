-- What it means to bring a file the layers of the library, place by place.
use Rattle.std.specs.Prelude.{◌≡◌, ◌≢◌, ℕ, ◌≤◌, List, [], ◌∷◌, ◌++◌, length, filter, filter_map, Bool, bytes_eq, None}
use Rattle.std.specs.List.{AllZip, list_any}
use Rattle.file_mean.specs.Library.{SpellsLayer, lacks, each_once}
use Rattle.layer_words.specs.declared.words.Word.{Word}
use Rattle.layer_ast.specs.Cut.{text_tokens}
use Rattle.layer_ast.specs.Spells.{longest_file}
use Rattle.layer_ast.specs.Tree.{LayerTree, FileTree}
use Rattle.file_library.specs.Library.{library_text}
use Rattle.grammar_laws.specs.Machine.{a_layer, accepted, run}

-- the machine takes the tokens of a text as those of one layer
pub record IsLayerText (text : List ℕ) : Type 0 where
  pub small : length text ≤ longest_file
  pub good : (text_tokens text).bad_at ≡ None
  pub taken : run 100 (a_layer ∷ []) (text_tokens text).tokens ≡ accepted

-- a file of these layers, with no places yet
abbrev pub of_layers : List LayerTree → FileTree
of_layers layers = record { layers = layers; places = []; library = [] }

-- the texts of the library that these words call for in a file with these layers
abbrev pub called_texts : List LayerTree → List Word → List (List ℕ)
called_texts layers words = filter_map library_text (each_once (filter (lacks (of_layers layers)) words))

-- whether a word is one of these
abbrev pub has : List Word → Word → Bool
has words word = list_any (λ other. bytes_eq other word) words

-- what was brought for these words so far; `seen` has the same names of the library as the words
pub record Brought (layers : List LayerTree) (words seen : List Word) (brought : List LayerTree) : Type 0 where
  pub spelled : AllZip SpellsLayer (called_texts layers words) brought
  pub known : (word : Word) → library_text word ≢ None → has seen word ≡ has words word

-- one more word is dealt with
pub record BringsFor (layers : List LayerTree) (word : Word) (seen_before seen_after : List Word)
    (before following : List LayerTree) : Type 0 where
  pub brings : (words : List Word) → Brought layers words seen_before before →
      Brought layers (words ++ word ∷ []) seen_after following

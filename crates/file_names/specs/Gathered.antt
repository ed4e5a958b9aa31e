-- What the statements of a handler declare, and the sizes of a layer that are names.
use Rattle.std.specs.Prelude.{◌≡◌, ℕ, if◌then◌else◌, is_some, List, [], ◌∷◌, ◌++◌, flat_map, fold}
use Rattle.layer_ast.specs.declared.names.Name.{Name}
use Rattle.layer_ast.specs.Tree.{SizeTree, fixed, sized, StatementTree, push, take, when, choose, each, StatementTrees}
use Rattle.layer_ast.specs.Tree.{none, more, DeclarationTree, HandlerTree, LayerTree}
use Rattle.fault_mean.specs.Limits.{LimitedSize, capacity_in, maximum_in}
use Rattle.fault_mean.specs.Scope.{declared_names}
use Rattle.file_scope.specs.Words.{place_of}
use Rattle.file_names.specs.declared.sizes.Sizes.{Sizes}

abbrev mutual
  -- The statements inside a statement.
  pub statements_inside : StatementTree → List StatementTree
  statements_inside (push at q items otherwise) = statements_in otherwise
  statements_inside (take at q names block otherwise) = statements_in block ++ statements_in otherwise
  statements_inside (when at likely condition block) = statements_in block
  statements_inside (choose at likely condition block otherwise) = statements_in block ++ statements_in otherwise
  statements_inside (each at name below most block) = statements_in block
  statements_inside _ = []

  -- The statements of a block and those inside them, in text order.
  pub statements_in : StatementTrees → List StatementTree
  statements_in none = []
  statements_in (more statement rest) = statement ∷ (statements_inside statement ++ statements_in rest)

-- Words with one more, unless it is among them.
abbrev pub noted_words : List (List ℕ) → List ℕ → List (List ℕ)
noted_words words word = if is_some (place_of word words) then words else words ++ word ∷ []

-- The words of those sizes that are names.
abbrev pub size_words : SizeTree → List (List ℕ)
size_words (fixed at value) = []
size_words (sized name) = name.word ∷ []

abbrev pub words_of : List LimitedSize → List (List ℕ)
words_of = flat_map (λ l. size_words l.size)

abbrev pub capacity_words : DeclarationTree → List (List ℕ)
capacity_words declaration = words_of (capacity_in declaration)

abbrev pub maximum_words : StatementTree → List (List ℕ)
maximum_words statement = words_of (maximum_in statement)

abbrev pub maxima_of : HandlerTree → List (List ℕ)
maxima_of handler = flat_map maximum_words (statements_in handler.block)

-- What statements add to names and to words: the names that they declare, and the words of their maxima.
unfoldable pub Gathers : List Name → List (List ℕ) → List StatementTree → List Name → List (List ℕ) → Type 0
Gathers names maxima statements names' maxima' =
    (names' ≡ names ++ flat_map declared_names statements) ×
    (maxima' ≡ fold noted_words maxima (flat_map maximum_words statements))

-- The names that are capacities and maxima in a layer, each once.
abbrev pub sizes_of : LayerTree → Sizes
sizes_of layer = record {
  capacities = fold noted_words [] (flat_map capacity_words layer.declarations);
  maxima = fold noted_words [] (flat_map maxima_of layer.handlers);
}

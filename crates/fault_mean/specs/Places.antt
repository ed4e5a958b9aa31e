-- What the places of a stack name, and the values that they give to params.
use Rattle.std.specs.Prelude.{ℕ, List, ◌++◌, map, flat_map, filter_map, bytes_eq, find, Option, Some, None, option_map}
use Rattle.std.specs.Prelude.{option_and_then, unwrap_or, is_some, if◌then◌else◌}
use Rattle.std.specs.Option.{option_or}
use Rattle.layer_words.specs.declared.places.At.{At}
use Rattle.layer_words.specs.declared.words.Word.{Word}
use Rattle.layer_ast.specs.Tree.{DeclarationTree, param, GivenTree, LayerTree, PlaceTree, FileTree}
use Rattle.fault_mean.specs.Declared.{declaration_of}

-- The layer of a list that has this name.
abbrev pub layer_among : List LayerTree → Word → Option LayerTree
layer_among layers word = find (λ layer. bytes_eq layer.name.word word) layers

-- The layer that a place names: one of the file, or else one of the library.
abbrev pub layer_at : FileTree → PlaceTree → Option LayerTree
layer_at file place = option_or (layer_among file.layers place.name.word) (layer_among file.library place.name.word)

-- The value that is given to a param: the first, if several are.
abbrev pub given_value : List GivenTree → Word → Option ℕ
given_value given word = option_map (λ g. g.value) (find (λ g. bytes_eq g.name.word word) given)

-- The value that a declaration declares for a param.
abbrev pub declared_value : DeclarationTree → Option ℕ
declared_value (param at name value) = Some value
declared_value _ = None

-- The value of a param of a layer at a place that gives these: the given one, or else the declared one.
abbrev pub param_value : LayerTree → List GivenTree → Word → Option ℕ
param_value layer given word =
    option_map (λ value. unwrap_or (given_value given word) value)
    (option_and_then declared_value (declaration_of layer word))

-- A layer that is judged: one that the file writes, or one of the library, whose faults are moved to the place that
-- names it.
pub data Judged : Type 0 where
  written : (layer : LayerTree) → Judged
  called : (at : At) (layer : LayerTree) → Judged

-- The layer of the library that a place names, unless a layer of the file hides it.
abbrev pub called_at : FileTree → PlaceTree → Option Judged
called_at file place = if is_some (layer_among file.layers place.name.word)
    then None
    else option_map (called place.name.at) (layer_among file.library place.name.word)

-- The layers of a file that are judged: each that the file writes, whether or not a place names it, and each of the
-- library for each place that names it.
abbrev pub judged_layers : FileTree → List Judged
judged_layers file = map written file.layers ++ filter_map (called_at file) file.places

-- The faults of a judged layer; those of a layer of the library are moved to the place that names it.
abbrev pub faults_of_judged : {F : Type 0} → (At → F → F) → (LayerTree → List F) → Judged → List F
faults_of_judged moved faults (written layer) = faults layer
faults_of_judged moved faults (called at layer) = map (moved at) (faults layer)

-- The faults of all judged layers of a file: those that the file writes first, then those of the library.
abbrev pub faults_of_layers : {F : Type 0} → (At → F → F) → (LayerTree → List F) → FileTree → List F
faults_of_layers moved faults file = flat_map (faults_of_judged moved faults) (judged_layers file)

-- The limits of a file, and of a layer's text. (Those of places, headers and rows stand beside the headers of
-- messages, those of sizes beside what layers mean.)
use Rattle.std.specs.Prelude.{ℕ, Bool, true, ◌&&◌, nat_le, if◌then◌else◌, List, [], ◌∷◌, ◌++◌, flat_map, filter, drop}
use Rattle.std.specs.Option.{option_map_or}
use Rattle.layer_words.specs.declared.places.At.{At}
use Rattle.layer_ast.specs.Tree.{DeclarationTree, rows_cell, rows_array, ItemTree, LayerTree, PlaceTree, SizeTree}
use Rattle.layer_ast.specs.Tree.{fixed, sized, StatementTree, each}
use Rattle.layer_mean.specs.Limits.{largest_capacity, longest_loop}
use Rattle.fault_mean.specs.Kinds.{a_number, allows}
use Rattle.fault_mean.specs.Places.{param_value}
use Rattle.fault_mean.specs.Scope.{layer_statements}
use Rattle.msg_core.specs.Headers.{most_fields}

-- The most layers that a file declares.
abbrev pub most_layers : ℕ
most_layers = 64

-- The most params that a layer declares.
abbrev pub most_params : ℕ
most_params = 16

-- The most cells that a layer declares.
abbrev pub most_cells : ℕ
most_cells = 16

-- The most handlers of a layer.
abbrev pub most_handlers : ℕ
most_handlers = 64

-- The most names that a handler declares, at its head and in its blocks.
abbrev pub most_names : ℕ
most_names = 64

-- The numbers of a row beyond the most.
abbrev pub numbers_beyond : List ItemTree → List ItemTree
numbers_beyond items = drop most_fields (filter (λ i. allows a_number i.sort) items)

-- The messages of a row that aren't its last item.
abbrev pub messages_inside : List ItemTree → List ItemTree
messages_inside [] = []
messages_inside (last ∷ []) = []
messages_inside (i ∷ next ∷ rest) = (if allows a_number i.sort then [] else i ∷ []) ++ messages_inside (next ∷ rest)

-- A size, with the largest number that it may be; the least is 1.
pub record LimitedSize : Type 0 where
  pub size : SizeTree
  pub most : ℕ

-- Whether a number is within the limit of a size.
abbrev pub is_within : ℕ → ℕ → Bool
is_within most number = nat_le 1 number && nat_le number most

-- The size that a declaration has: the capacity of a queue, or of each queue of an array.
abbrev pub capacity_in : DeclarationTree → List LimitedSize
capacity_in (rows_cell at name capacity items) = record { size = capacity; most = largest_capacity } ∷ []
capacity_in (rows_array at name capacity items) = record { size = capacity; most = largest_capacity } ∷ []
capacity_in _ = []

-- The size that a statement has, without those in its blocks: the maximum of a loop.
abbrev pub maximum_in : StatementTree → List LimitedSize
maximum_in (each at name below most block) = record { size = most; most = longest_loop } ∷ []
maximum_in _ = []

-- All sizes of a layer.
abbrev pub sizes_in : LayerTree → List LimitedSize
sizes_in layer = flat_map capacity_in layer.declarations ++
    flat_map (λ s. maximum_in s.statement) (layer_statements layer)

-- The place of a size that is a number outside its limit.
abbrev pub number_outside : ℕ → SizeTree → List At
number_outside most (fixed at number) = if is_within most number then [] else at ∷ []
number_outside most (sized name) = []

-- Whether a size that is a param of the layer is within its limit at a place of the stack; any other size counts as
-- within it.
abbrev pub is_within_at : LayerTree → PlaceTree → SizeTree → ℕ → Bool
is_within_at layer place (fixed at number) most = true
is_within_at layer place (sized name) most = option_map_or (is_within most) (param_value layer place.given name.word)
    true

-- The first fault of a file's names, in text order.
use Rattle.std.specs.Prelude.{ℕ, Bool, true, false, ◌&&◌, if◌then◌else◌, List, [], ◌∷◌, ◌++◌, map, flat_map, filter}
use Rattle.std.specs.Prelude.{drop, bytes_eq, Option, Some, None}
use Rattle.std.specs.List.{list_any}
use Rattle.std.specs.Option.{option_map_or}
use denote.Enum.Bare.{sameb}
use Rattle.layer_words.specs.contracts.events.Dir as dir_row
use Rattle.layer_words.specs.contracts.events.Kind as kind_row
use Rattle.layer_ast.specs.declared.names.Name.{Name}
use Rattle.layer_ast.specs.Tree.{PoppedTree, Expected, common, HandlerTree, DeclarationTree, int, rows_cell, rows_array}
use Rattle.layer_ast.specs.Tree.{ItemTree, LayerTree, PlaceTree, FileTree}
use Rattle.fault_mean.specs.Declared.{declared_name, is_cell, is_header, is_param}
use Rattle.fault_mean.specs.Earliest.{earliest, unless}
use Rattle.fault_mean.specs.Faults.{NameFault, unknown, twice, too_many, name_key, name_fault_at}
use Rattle.fault_mean.specs.Forms.{declared_as, items_of, labels_of, row_of}
use Rattle.fault_mean.specs.Limits.{LimitedSize, capacity_in, is_within_at, maximum_in, messages_inside, number_outside}
use Rattle.fault_mean.specs.Limits.{numbers_beyond, sizes_in, most_layers, most_params, most_cells, most_handlers}
use Rattle.fault_mean.specs.Limits.{most_names}
use Rattle.fault_mean.specs.Places.{faults_of_layers, layer_at}
use Rattle.fault_mean.specs.Scope.{Scope, Standing, declared_names, handler_names, handler_statements, head_names}
use Rattle.fault_mean.specs.Scope.{head_scope}
use Rattle.fault_mean.specs.Scope.{is_visible, layer_scope, visible}
use Rattle.fault_mean.specs.Uses.{Use, of_name, of_label, uses, size_uses, statement_uses}
use Rattle.msg_core.specs.Headers.{most_places, most_declared, most_fields}

-- The items of a list that are the same as one before them in the list, or as one of the `earlier` items.
abbrev pub repetitions : {A : Type 0} → (A → A → Bool) → List A → List A → List A
repetitions same earlier [] = []
repetitions same earlier (x ∷ rest) = (if list_any (same x) earlier then x ∷ [] else []) ++
    repetitions same (x ∷ earlier) rest

-- Whether two names are the same word.
abbrev pub same_word : Name → Name → Bool
same_word a b = bytes_eq a.word b.word

-- Names declared beside earlier ones, which must all differ.
abbrev pub twice_among : List Name → List Name → List NameFault
twice_among earlier names = map (λ name. twice name.at) (repetitions same_word earlier names)

-- Names beyond the first n.
abbrev pub too_many_of : ℕ → List Name → List NameFault
too_many_of most names = map (λ name. too_many name.at) (drop most names)

-- A name that is used must be visible, a label one of its queue's.
abbrev pub use_faults : Scope → Use → List NameFault
use_faults scope (of_name name) = unless (is_visible scope name.word) (unknown name.at)
use_faults scope (of_label queue label) =
    unless (list_any (λ i. same_word i.name label) (row_of scope.layer queue.word)) (unknown label.at)

-- The faults of uses in a scope, in their order.
abbrev pub uses_faults : Scope → List Use → List NameFault
uses_faults scope = flat_map (use_faults scope)

-- A size that is a number must be within its limit.
abbrev pub size_faults : LimitedSize → List NameFault
size_faults l = map too_many (number_outside l.most l.size)

-- The items of a row: no label twice, at most 4 numbers, and a message only as the last.
abbrev pub row_faults : List ItemTree → List NameFault
row_faults items =
    twice_among [] (map (λ i. i.name) items)
    ++ map (λ i. too_many i.name.at) (numbers_beyond items ++ messages_inside items)

-- The names that a declaration uses.
abbrev pub declaration_uses : DeclarationTree → List Use
declaration_uses (int at name shape initial) = option_map_or uses initial []
declaration_uses (rows_cell at name capacity items) = size_uses capacity
declaration_uses (rows_array at name capacity items) = size_uses capacity
declaration_uses _ = []

-- The faults of a declaration; its header has at most 4 fields, with no label twice.
abbrev pub declaration_name_faults : LayerTree → DeclarationTree → List NameFault
declaration_name_faults layer declaration =
    uses_faults (layer_scope layer) (declaration_uses declaration)
    ++ flat_map size_faults (capacity_in declaration)
    ++ row_faults (items_of declaration)
    ++ twice_among [] (labels_of declaration)
    ++ too_many_of most_fields (labels_of declaration)

-- The names of those declarations of which a test holds.
abbrev pub names_where : (DeclarationTree → Bool) → LayerTree → List Name
names_where test layer = map declared_name (filter test layer.declarations)

-- The faults of a layer's own names: none is there twice, and the params, cells and headers are within their limits.
abbrev pub declared_faults : LayerTree → List NameFault
declared_faults layer =
    twice_among [] (map declared_name layer.declarations)
    ++ too_many_of most_params (names_where is_param layer)
    ++ too_many_of most_cells (names_where is_cell layer)
    ++ too_many_of most_declared (names_where is_header layer)
    ++ flat_map (declaration_name_faults layer) layer.declarations

-- Whether two written headers are the same: both are missing, or both have the same name.
abbrev pub same_popped : Option PoppedTree → Option PoppedTree → Bool
same_popped None None = true
same_popped (Some p) (Some q) = same_word p.name q.name
same_popped _ _ = false

-- Whether two handlers are of the same direction, kind and header.
abbrev pub same_events : HandlerTree → HandlerTree → Bool
same_events a b =
    sameb dir_row.the_type a.direction b.direction && sameb kind_row.the_type a.kind b.kind &&
    same_popped a.popped b.popped

-- The faults of a statement, without those in its blocks.
abbrev pub statement_name_faults : Standing → List NameFault
statement_name_faults s =
    uses_faults s.scope (statement_uses s.statement)
    ++ twice_among (visible s.scope) (declared_names s.statement)
    ++ flat_map size_faults (maximum_in s.statement)

-- The names that the condition of a handler uses.
abbrev pub expected_uses : Expected → List Use
expected_uses (common condition) = uses condition
expected_uses _ = []

-- The faults of a handler. The name of the header that it takes off is one of the layer's own names, and it declares no
-- more names than the limit.
abbrev pub handler_name_faults : LayerTree → HandlerTree → List NameFault
handler_name_faults layer handler =
    uses_faults (layer_scope layer) (option_map_or (λ p. of_name p.name ∷ []) handler.popped [])
    ++ twice_among (visible (layer_scope layer)) (head_names handler)
    ++ uses_faults (head_scope layer handler) (expected_uses handler.expected)
    ++ flat_map statement_name_faults (handler_statements layer handler)
    ++ too_many_of most_names (handler_names layer handler)

-- The faults of the names of a layer: it has no more handlers than the limit, and no two of the same direction, kind
-- and header.
abbrev pub layer_name_faults : LayerTree → List NameFault
layer_name_faults layer =
    declared_faults layer
    ++ map (λ h. twice h.at) (repetitions same_events [] layer.handlers)
    ++ map (λ h. too_many h.at) (drop most_handlers layer.handlers)
    ++ flat_map (handler_name_faults layer) layer.handlers

-- The faults of a place that names this layer: it gives no param twice, what it gives are params of the layer, and each
-- size that is a param is within its limit with the param's value there.
abbrev pub place_faults_in : PlaceTree → LayerTree → List NameFault
place_faults_in place layer =
    twice_among [] (map (λ g. g.name) place.given)
    ++ flat_map (λ g. unless (declared_as is_param layer g.name.word) (unknown g.name.at)) place.given
    ++ flat_map (λ l. unless (is_within_at layer place l.size l.most) (too_many place.name.at)) (sizes_in layer)

-- The faults of a place: its layer is one of the file or of the library. What a place of another layer gives isn't
-- judged.
abbrev pub place_faults : FileTree → PlaceTree → List NameFault
place_faults file place = option_map_or (place_faults_in place) (layer_at file place) (unknown place.name.at ∷ [])

-- All faults of a file's names: its layers and places are within their limits, and no two layers have the same name.
abbrev pub name_faults : FileTree → List NameFault
name_faults file =
    twice_among [] (map (λ layer. layer.name) file.layers)
    ++ too_many_of most_layers (map (λ layer. layer.name) file.layers)
    ++ faults_of_layers name_fault_at layer_name_faults file
    ++ too_many_of most_places (map (λ place. place.name) file.places)
    ++ flat_map (place_faults file) file.places

-- The first fault of a file's names in text order, where there is one: of two at one place an unknown name comes first,
-- then a name that is there twice.
abbrev pub name_fault : FileTree → Option NameFault
name_fault file = earliest name_key (name_faults file)

-- The first fault of a file's types, in text order.
use Rattle.std.specs.Prelude.{ℕ, Bool, true, false, not, ◌&&◌, ◌==◌, if◌then◌else◌, List, [], ◌∷◌, ◌++◌, map, flat_map}
use Rattle.std.specs.Prelude.{length, slice_get, Option, Some, None, option_and_then}
use Rattle.std.specs.Option.{option_map_or}
use Rattle.layer_words.specs.declared.places.At.{At}
use Rattle.layer_ast.specs.declared.names.Name.{Name}
use Rattle.layer_words.specs.declared.sorts.Shape.{Shape}
use Rattle.layer_words.specs.declared.sorts.Shape.TheVariants.{One, Array, Square}
use Rattle.layer_words.specs.declared.sorts.Sort.{Sort}
use Rattle.layer_words.specs.declared.sorts.Sort.TheVariants.{Msg, Part}
use Rattle.layer_words.specs.declared.events.Dir.{Dir}
use Rattle.layer_words.specs.declared.events.Dir.TheVariants.{Up, Down}
use Rattle.layer_words.specs.declared.events.Kind.{Kind}
use Rattle.layer_ast.specs.Tree.{ExpressionTree, QueueTree, ArgumentTree, PushedTree, SizeTree, fixed, sized}
use Rattle.layer_ast.specs.Tree.{StatementTree, bind, set, set_square, push, take, when, choose, each, emit, Expected}
use Rattle.layer_ast.specs.Tree.{common, HandlerTree, DeclarationTree, int, rows_cell, rows_array, LayerTree, FileTree}
use Rattle.layer_mean.specs.Event.{carries}
use Rattle.fault_mean.specs.Declared.{is_header, is_param, names_in}
use Rattle.fault_mean.specs.Earliest.{earliest, unless}
use Rattle.fault_mean.specs.Forms.{declared_as, fields_of, is_end, is_numbers, queue_name, row_of}
use Rattle.fault_mean.specs.Kinds.{a_number, arguments_of}
use Rattle.fault_mean.specs.Places.{faults_of_layers}
use Rattle.fault_mean.specs.Scope.{Scope, handler_statements, head_scope, layer_scope, popped_names}
use Rattle.fault_mean.specs.Sorts.{argument_sort, expression_at, is_initial, size_at}
use Rattle.fault_mean.specs.Uses.{arguments_in}
use Rattle.fault_mean.specs.ExpressionFaults.{argument_faults, arguments_faults, number_faults, queue_faults}
use Rattle.fault_mean.specs.Faults.{TypeFault, kind, arity, direction, header, initial, type_key, type_fault_at}

-- A size is a number or a param; if it is neither, the fault stands at this place.
abbrev pub size_type_faults : LayerTree → At → SizeTree → List TypeFault
size_type_faults layer at (fixed _ most) = []
size_type_faults layer at (sized name) = unless (declared_as is_param layer name.word) (kind at)

-- The faults of a declaration.
abbrev pub declaration_type_faults : LayerTree → DeclarationTree → List TypeFault
declaration_type_faults layer (int at name shape (Some e)) =
    number_faults (layer_scope layer) e ++ unless (is_initial layer e) (initial (expression_at e))
declaration_type_faults layer (rows_cell at name capacity items) = size_type_faults layer at capacity
declaration_type_faults layer (rows_array at name capacity items) = size_type_faults layer at capacity
declaration_type_faults layer _ = []

-- Whether headers are put on in this direction: on the way down, as they are taken off on the way up.
abbrev pub pushes : Dir → Bool
pushes Down = true
pushes Up = false

-- Whether a message of this sort may be sent in this direction under a header that ends or passes: a part never goes
-- up, and goes down under a header that ends; a message of the layers above goes down under one that passes.
abbrev pub suits : Dir → Bool → Sort → Bool
suits Up ends Part = false
suits Down false Part = false
suits Down true Msg = false
suits _ ends sort = true

-- The faults of a header that is named after `with`, at the first token of its handler or emission: it is a header,
-- has `fields` fields, and stands where one may.
abbrev pub with_faults : LayerTree → At → Name → ℕ → Bool → List TypeFault
with_faults layer at name fields allowed =
    unless (declared_as is_header layer name.word) (kind at)
    ++ unless (length (fields_of layer name.word) == fields) (arity at)
    ++ unless allowed (direction at)

-- The faults of the header that an emission puts on.
abbrev pub pushed_faults : Scope → At → Dir → Kind → PushedTree → List TypeFault
pushed_faults scope at dir event pushed =
    with_faults scope.layer at pushed.name (length (arguments_in pushed.fields)) (pushes dir && carries event)
    ++ flat_map (argument_faults scope a_number) (arguments_in pushed.fields)

-- Whether the header that an emission puts on ends; without `with` it is the one that every layer has, which passes.
abbrev pub ends_with : LayerTree → Option PushedTree → Bool
ends_with layer pushed = option_map_or (λ p. declared_as is_end layer p.name.word) pushed false

-- The sort of the message of an emission, where it has one and it is known.
abbrev pub sent_sort : Scope → Kind → List ArgumentTree → Option Sort
sent_sort scope event arguments =
    if carries event then option_and_then (argument_sort scope) (slice_get arguments 1) else None

-- The faults of an emission.
abbrev pub emission_faults : Scope → At → Dir → Kind → List ArgumentTree → Option PushedTree → List TypeFault
emission_faults scope at dir event arguments pushed =
    unless (length arguments == length (arguments_of event)) (arity at)
    ++ arguments_faults scope (arguments_of event) arguments
    ++ option_map_or (pushed_faults scope at dir event) pushed []
    ++ unless (option_map_or (suits dir (ends_with scope.layer pushed)) (sent_sort scope event arguments) true)
    (header at)

-- The faults of an assignment to a cell of numbers of this shape, at its word `set`.
abbrev pub set_faults : Scope → At → Shape → Name → List ExpressionTree → List TypeFault
set_faults scope at shape name parts =
    unless (declared_as (is_numbers shape) scope.layer name.word) (kind at) ++ flat_map (number_faults scope) parts

-- The faults of a push or a take of `items` items, at its word.
abbrev pub row_type_faults : Scope → At → QueueTree → ℕ → List TypeFault
row_type_faults scope at q items =
    queue_faults scope at q ++ unless (length (row_of scope.layer (queue_name q).word) == items) (arity at)

-- The sorts that are wanted for a row of a queue: each item's own.
abbrev pub row_sorts : LayerTree → QueueTree → List (List Sort)
row_sorts layer q = map (λ i. i.sort ∷ []) (row_of layer (queue_name q).word)

-- The faults of a statement in a scope, without those in its blocks.
abbrev pub statement_type_faults : Scope → StatementTree → List TypeFault
statement_type_faults scope (bind at name e) = number_faults scope e
statement_type_faults scope (set at name None e) = set_faults scope at One name (e ∷ [])
statement_type_faults scope (set at name (Some index) e) = set_faults scope at Array name (index ∷ e ∷ [])
statement_type_faults scope (set_square at name row column e) = set_faults scope at Square name (row ∷ column ∷ e ∷ [])
statement_type_faults scope (push at q items otherwise) =
    row_type_faults scope at q (length (arguments_in (Some items)))
    ++ arguments_faults scope (row_sorts scope.layer q) (arguments_in (Some items))
statement_type_faults scope (take at q names block otherwise) =
    row_type_faults scope at q (length (names_in (Some names)))
statement_type_faults scope (when at likely condition block) = number_faults scope condition
statement_type_faults scope (choose at likely condition block otherwise) = number_faults scope condition
statement_type_faults scope (each at name below most block) =
    number_faults scope below ++ size_type_faults scope.layer (size_at most) most
statement_type_faults scope (emit at dir event arguments pushed) =
    emission_faults scope at dir event (arguments_in (Some arguments)) pushed

-- The faults of the condition of a handler.
abbrev pub expected_type_faults : Scope → Expected → List TypeFault
expected_type_faults scope (common condition) = number_faults scope condition
expected_type_faults scope _ = []

-- Whether a handler may take a header off: on the way up, with a message.
abbrev pub takes_off : HandlerTree → Bool
takes_off handler = not (pushes handler.direction) && carries handler.kind

-- The faults of a handler.
abbrev pub handler_type_faults : LayerTree → HandlerTree → List TypeFault
handler_type_faults layer handler =
    unless (length (names_in (Some handler.names)) == length (arguments_of handler.kind)) (arity handler.at)
    ++ option_map_or
    (λ p. with_faults layer handler.at p.name (length (popped_names (Some p))) (takes_off handler))
    handler.popped []
    ++ expected_type_faults (head_scope layer handler) handler.expected
    ++ flat_map (λ s. statement_type_faults s.scope s.statement) (handler_statements layer handler)

-- The faults of the types of a layer.
abbrev pub layer_type_faults : LayerTree → List TypeFault
layer_type_faults layer =
    flat_map (declaration_type_faults layer) layer.declarations ++ flat_map (handler_type_faults layer) layer.handlers

-- The first fault of a file's types in text order, where there is one: of those at one place the kind comes first, then
-- the number of arguments or names, the direction, the header, and the initial value.
abbrev pub type_fault : FileTree → Option TypeFault
type_fault file = earliest type_key (faults_of_layers type_fault_at layer_type_faults file)

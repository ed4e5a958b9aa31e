-- Which names are visible where: a layer's own names everywhere in it, a handler's names in its condition and block,
-- and a local from its declaration to the end of its block.
use Rattle.std.specs.Prelude.{Bool, if◌then◌else◌, List, [], ◌∷◌, ◌++◌, map, flat_map, bytes_eq, Option, Some}
use Rattle.std.specs.List.{list_any}
use Rattle.std.specs.Option.{option_map_or}
use Rattle.layer_ast.specs.declared.names.Name.{Name}
use Rattle.layer_words.specs.declared.words.Word.{Word}
use Rattle.layer_words.specs.declared.sorts.Sort.{Sort}
use Rattle.layer_words.specs.declared.sorts.Sort.TheVariants.{Int, Msg, Part}
use Rattle.layer_ast.specs.Tree.{LayerTree, HandlerTree, NamesTree, PoppedTree, QueueTree, StatementTree, bind, push}
use Rattle.layer_ast.specs.Tree.{take, when, choose, each, StatementTrees, none, more}
use Rattle.fault_mean.specs.Declared.{declared_name, names_in}
use Rattle.fault_mean.specs.Forms.{declared_as, is_end, row_of, queue_name}
use Rattle.fault_mean.specs.Kinds.{allows, arguments_of}

-- A local name, and whether it is a number, a message or a part.
pub record Local : Type 0 where
  pub name : Name
  pub sort : Sort

-- The layer whose own names are visible, and the visible locals.
pub record Scope : Type 0 where
  pub layer : LayerTree
  pub locals : List Local

-- The scope outside of handlers: a layer's own names alone.
abbrev pub layer_scope : LayerTree → Scope
layer_scope layer = record { layer = layer; locals = [] }

-- The visible names: those that the layer declares, then the locals.
abbrev pub visible : Scope → List Name
visible scope = map declared_name scope.layer.declarations ++ map (λ l. l.name) scope.locals

-- Whether a word is one of the visible names.
abbrev pub is_visible : Scope → Word → Bool
is_visible scope word = list_any (λ name. bytes_eq name.word word) (visible scope)

-- Names as locals of these sorts in order; further names are numbers.
abbrev pub locals_as : List Sort → List Name → List Local
locals_as sorts [] = []
locals_as [] (name ∷ names) = record { name = name; sort = Int } ∷ locals_as [] names
locals_as (sort ∷ sorts) (name ∷ names) = record { name = name; sort = sort } ∷ locals_as sorts names

-- A scope with further locals.
abbrev pub with_locals : Scope → List Local → Scope
with_locals scope further = record scope { locals = scope.locals ++ further }

-- The names of the fields of the header that a handler takes off.
abbrev pub popped_names : Option PoppedTree → List Name
popped_names popped = option_map_or (λ p. names_in p.fields) popped []

-- The sort of the message after a popped header: a part where the header ends.
abbrev pub sort_after : LayerTree → Option PoppedTree → Sort
sort_after layer popped = option_map_or (λ p. if declared_as is_end layer p.name.word then Part else Msg) popped Msg

-- The names that a handler declares at its head: those of the event's arguments, then those of the fields of the header
-- that it takes off.
abbrev pub head_names : HandlerTree → List Name
head_names handler = names_in (Some handler.names) ++ popped_names handler.popped

-- The sorts of the names that a handler gives to the event's arguments: numbers, and for the message what follows the
-- header that is taken off.
abbrev pub argument_sorts : LayerTree → HandlerTree → List Sort
argument_sorts layer handler =
    map (λ wanted. if allows wanted Msg then sort_after layer handler.popped else Int) (arguments_of handler.kind)

-- The scope of a handler's condition, in which its block begins: the names of its head, where those of header fields
-- are numbers.
abbrev pub head_scope : LayerTree → HandlerTree → Scope
head_scope layer handler = record {
  layer = layer;
  locals = locals_as (argument_sorts layer handler) (names_in (Some handler.names)) ++
      locals_as [] (popped_names handler.popped);
}

-- The scope after a statement in its block: only `let` adds to it.
abbrev pub scope_after : Scope → StatementTree → Scope
scope_after scope (bind at name value) = with_locals scope (locals_as [] (name ∷ []))
scope_after scope _ = scope

-- The scope in which the parts of a row that was taken off a queue have names.
abbrev pub taken_scope : Scope → QueueTree → NamesTree → Scope
taken_scope scope q names =
    with_locals scope (locals_as (map (λ i. i.sort) (row_of scope.layer (queue_name q).word)) (names_in (Some names)))

-- A statement with the scope that it stands in.
pub record Standing : Type 0 where
  pub scope : Scope
  pub statement : StatementTree

abbrev mutual
  -- The statements inside a statement, each in its scope.
  pub standing_inside : Scope → StatementTree → List Standing
  standing_inside scope (push at q items otherwise) = standing_in scope otherwise
  standing_inside scope (take at q names block otherwise) =
      standing_in (taken_scope scope q names) block ++ standing_in scope otherwise
  standing_inside scope (when at likely condition block) = standing_in scope block
  standing_inside scope (choose at likely condition block otherwise) = standing_in scope block ++ standing_in
      scope otherwise
  standing_inside scope (each at name below most block) = standing_in
      (with_locals scope (locals_as [] (name ∷ []))) block
  standing_inside scope _ = []

  -- The statements of a block and those inside them, in text order, each in its scope.
  pub standing_in : Scope → StatementTrees → List Standing
  standing_in scope none = []
  standing_in scope (more statement rest) =
      record { scope = scope; statement = statement }
      ∷ (standing_inside scope statement ++ standing_in (scope_after scope statement) rest)

-- The statements of a handler's block and those inside them, in text order, each in its scope.
abbrev pub handler_statements : LayerTree → HandlerTree → List Standing
handler_statements layer handler = standing_in (head_scope layer handler) handler.block

-- The statements of all handlers of a layer, in text order, each in its scope.
abbrev pub layer_statements : LayerTree → List Standing
layer_statements layer = flat_map (handler_statements layer) layer.handlers

-- The names that a statement declares.
abbrev pub declared_names : StatementTree → List Name
declared_names (bind at name value) = name ∷ []
declared_names (take at q names block otherwise) = names_in (Some names)
declared_names (each at name below most block) = name ∷ []
declared_names _ = []

-- All names that a handler declares, in text order, whether or not they are visible together.
abbrev pub handler_names : LayerTree → HandlerTree → List Name
handler_names layer handler = head_names handler ++
    flat_map (λ s. declared_names s.statement) (handler_statements layer handler)

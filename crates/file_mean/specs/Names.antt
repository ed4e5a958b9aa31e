-- What the names of a layer file stand for: params and cells of a layer at a place, and the slots of what a handler
-- declares.
use Rattle.std.specs.Prelude.{ℕ, ◌+◌, ◌-◌, List, [], ◌++◌, map, take, length, zip, Bool, true, false, bytes_eq, Option}
use Rattle.std.specs.Prelude.{Some, None, option_and_then, unwrap_or}
use Rattle.std.specs.List.{last_or, position, range_with_len}
use Rattle.std.specs.Map.{lookup}
use Rattle.std.specs.Option.{option_map_or}
use Rattle.msg_core.specs.declared.message.Header.{Header}
use Rattle.layer_ast.specs.declared.names.Name.{Name}
use Rattle.layer_words.specs.declared.words.Word.{Word}
use Rattle.layer_words.specs.declared.sorts.Sort.{Sort}
use Rattle.layer_words.specs.declared.sorts.Sort.TheVariants.{Int, Msg, Part}
use Rattle.layer_ast.specs.Tree.{DeclarationTree, rows_cell, rows_array, ItemTree, LayerTree, GivenTree, SizeTree}
use Rattle.layer_ast.specs.Tree.{fixed, sized}
use Rattle.layer_mean.specs.Tree.{Carried, part, whole}
use Rattle.fault_mean.specs.Declared.{declaration_of, cell_number, header_tag}
use Rattle.fault_mean.specs.Places.{param_value}

-- A layer at a place of a stack, with the params that the place gives and the header `none` of each place above, lowest
-- first.
pub record Placed : Type 0 where
  pub layer : LayerTree
  pub given : List GivenTree
  pub blank : List Header

-- The value of a size: a number, or that of a param.
abbrev pub size_value : Placed → SizeTree → ℕ
size_value p (fixed at value) = value
size_value p (sized name) = unwrap_or (param_value p.layer p.given name.word) 0

-- The number of the cell of a name, from 0; 0 where it names none.
abbrev pub cell_of : Placed → Name → ℕ
cell_of p name = unwrap_or (cell_number p.layer name.word) 0

-- The tag of the header of a name; 0, that of `none`, where it names no declared header.
abbrev pub tag_of : Placed → Name → ℕ
tag_of p name = unwrap_or (header_tag p.layer name.word) 0

-- The capacity, in rows, of the queue that a declaration declares, or of each queue of its array; 0 for any other
-- declaration.
abbrev pub capacity_declared : Placed → DeclarationTree → ℕ
capacity_declared p (rows_cell at name capacity items) = size_value p capacity
capacity_declared p (rows_array at name capacity items) = size_value p capacity
capacity_declared p _ = 0

-- The capacity, in rows, of the queue of a name, or of each queue of its array; 0 where it names none.
abbrev pub capacity_of : Placed → Name → ℕ
capacity_of p queue = option_map_or (capacity_declared p) (declaration_of p.layer queue.word) 0

-- What an item of a sort carries: a part, a message of the layers above, or, as a number, nothing.
abbrev pub carried_as : List Header → Sort → Option Carried
carried_as blank Int = None
carried_as blank Msg = Some (whole blank)
carried_as blank Part = Some part

-- What the rows of these items carry: their last item says so.
abbrev pub carried_in : Placed → List ItemTree → Option Carried
carried_in p items = option_and_then (λ i. carried_as p.blank i.sort) (last_or None items)

-- The place of an item among those of its row.
abbrev pub item_number : List ItemTree → Name → ℕ
item_number items label = unwrap_or (position (λ i. bytes_eq i.name.word label.word) items) 0

-- Of things that each stand for a number, except the last where it stands for a message: those of the numbers.
abbrev pub numbers_among : {A : Type 0} → Bool → List A → List A
numbers_among true xs = take (length xs - 1) xs
numbers_among false xs = xs

-- The last of some things, where it stands for a message.
abbrev pub message_among : {A : Type 0} → Bool → List A → Option A
message_among true xs = last_or None xs
message_among false xs = None

-- How many slots of a scope are taken by numbers, and how many by messages.
pub record Slots : Type 0 where
  pub numbers : ℕ
  pub messages : ℕ

-- The names that are visible at a statement, each with its slot, the newest first; and the slots that are taken. Every
-- name that a handler declares has a slot of its own, in the order of the text, even where it is no longer visible.
pub record Names : Type 0 where
  pub place : Placed
  pub numbers : List (Word × ℕ)
  pub messages : List (Word × ℕ)
  pub taken : Slots

-- A layer's own names alone.
abbrev pub own_names : Placed → Names
own_names p = record { place = p; numbers = []; messages = []; taken = record { numbers = 0; messages = 0 } }

-- Names in the slots from a first one on.
abbrev pub in_slots : ℕ → List Name → List (Word × ℕ)
in_slots first names = zip (map (λ name. name.word) names) (range_with_len first (length names))

-- Names with new ones for numbers, in the next free slots of numbers.
abbrev pub with_numbers : List Name → Names → Names
with_numbers new names = record names {
  numbers = in_slots names.taken.numbers new ++ names.numbers;
  taken = record { numbers = names.taken.numbers + length new; messages = names.taken.messages };
}

-- Names with new ones for messages, in the next free slots of messages.
abbrev pub with_messages : List Name → Names → Names
with_messages new names = record names {
  messages = in_slots names.taken.messages new ++ names.messages;
  taken = record { numbers = names.taken.numbers; messages = names.taken.messages + length new };
}

-- The slot of a visible number, if the name is one.
abbrev pub number_slot : Names → Name → Option ℕ
number_slot names name = lookup (bytes_eq name.word) names.numbers

-- The slot of a visible message; 0 where the name isn't one.
abbrev pub message_slot : Names → Name → ℕ
message_slot names name = unwrap_or (lookup (bytes_eq name.word) names.messages) 0

-- What a layer of a file means at a place of its stack.
use Rattle.std.specs.Prelude.{ℕ, ◌-◌, List, ◌++◌, map, length, filter_map, is_some, Option, Some, None, option_to_list}
use Rattle.std.specs.Option.{option_map_or, option_zip}
use Rattle.layer_ast.specs.Tree as ast
use Rattle.layer_mean.specs.Event.{carries}
use Rattle.layer_mean.specs.Tree.{number, Expected, always, common, rare, HandlerTree, ItemsTree, numbers, queue}
use Rattle.layer_mean.specs.Tree.{queues, CellTree, HeaderTree, LayerTree}
use Rattle.fault_mean.specs.Declared.{items_in, names_in}
use Rattle.fault_mean.specs.Forms.{is_end}
use Rattle.fault_mean.specs.Scope.{popped_names}
use Rattle.file_mean.specs.Names.{Placed, Names, own_names, with_numbers, with_messages, tag_of, size_value}
use Rattle.file_mean.specs.Names.{numbers_among, message_among, carried_in}
use Rattle.file_mean.specs.Values.{number_of}
use Rattle.file_mean.specs.Statements.{after_all, statements_of}

-- The header that a handler takes off, by its tag: without one it is `none`, which has tag 0.
abbrev pub popped_tag : Placed → Option ast.PoppedTree → ℕ
popped_tag p popped = option_map_or (λ h. tag_of p h.name) popped 0

-- The names that a handler brings: its event's numbers, then the fields of the header that it takes off, and its
-- message.
abbrev pub handler_names : Placed → ast.HandlerTree → Names
handler_names p h =
    let has_message = carries h.kind in
    with_messages (option_to_list (message_among has_message (names_in (Some h.names))))
    (with_numbers (numbers_among has_message (names_in (Some h.names)) ++ popped_names h.popped) (own_names p))

-- When a handler goes as predicted.
abbrev pub expected_of : Names → ast.Expected → Expected
expected_of names ast.always = always
expected_of names (ast.common condition) = common (number_of names condition)
expected_of names ast.rare = rare

-- A handler.
unfoldable pub handler_of : Placed → ast.HandlerTree → HandlerTree
handler_of p h =
    let entry = handler_names p h in
    let end = after_all h.block entry in
    record {
      direction = h.direction;
      kind = h.kind;
      tag = popped_tag p h.popped;
      expected = expected_of entry h.expected;
      numbers = end.taken.numbers - entry.taken.numbers;
      messages = end.taken.messages - entry.taken.messages;
      block = statements_of entry h.block;
    }

-- The items of a queue's rows.
abbrev pub row_items : Placed → List ast.ItemTree → ItemsTree
row_items p items =
    let words = map (λ i. i.name.word) items in
    let has_message = is_some (carried_in p items) in
    record {
      numbers = numbers_among has_message words;
      message = option_zip (message_among has_message words) (carried_in p items);
    }

-- The cell that a declaration declares, if it does; an initial value that isn't written is 0.
abbrev pub cell_in : Placed → ast.DeclarationTree → Option CellTree
cell_in p (ast.int at name shape initial) =
    Some (record {
      name = name.word;
      form = numbers shape (option_map_or (number_of (own_names p)) initial (number 0));
    })
cell_in p (ast.rows_cell at name capacity items) =
    Some (record { name = name.word; form = queue (size_value p capacity) (row_items p (items_in items)) })
cell_in p (ast.rows_array at name capacity items) =
    Some (record { name = name.word; form = queues (size_value p capacity) (row_items p (items_in items)) })
cell_in p _ = None

-- The header that a declaration declares, if it does.
abbrev pub header_in : ast.DeclarationTree → Option HeaderTree
header_in (ast.header at name fields ending) =
    Some (record {
      name = name.word;
      fields = length (names_in fields);
      ends =
          is_end (ast.header at name fields ending);
    })
header_in _ = None

-- A layer at its place: cells and headers in the order of their declarations, and its handlers.
unfoldable pub layer_of : Placed → LayerTree
layer_of p = record {
  name = p.layer.name.word;
  cells = filter_map (cell_in p) p.layer.declarations;
  headers = filter_map header_in p.layer.declarations;
  handlers = map (handler_of p) p.layer.handlers;
}

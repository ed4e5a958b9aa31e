-- Expressions and messages of a layer file with numbers for names.
use Rattle.std.specs.Prelude.{ℕ, List, Option, option_map, unwrap_or}
use Rattle.std.specs.Option.{option_or}
use Rattle.layer_ast.specs.declared.names.Name.{Name}
use Rattle.layer_ast.specs.Tree as ast
use Rattle.layer_mean.specs.Tree.{Carried, part, ExpressionTree, number, me, count, ltime, local, element, square, rows}
use Rattle.layer_mean.specs.Tree.{item, size, binary, apply, pick, MessageTree, message, nothing, held, cut, tail, join}
use Rattle.fault_mean.specs.Forms.{queue_name, row_of}
use Rattle.fault_mean.specs.Places.{param_value}
use Rattle.file_mean.specs.Names.{Names, cell_of, carried_in, item_number, number_slot, message_slot}

-- The number of a name: one that the handler declares, the value of a param, or a cell of one number.
abbrev pub named_number : Names → Name → ExpressionTree
named_number names name = unwrap_or
    (option_or (option_map local (number_slot names name))
    (option_map number (param_value names.place.layer names.place.given name.word)))
    (element (cell_of names.place name) (number 0))

-- The items of the rows of a queue.
abbrev pub queue_row : Names → ast.QueueTree → List ast.ItemTree
queue_row names q = row_of names.place.layer (queue_name q).word

-- What the rows of a queue carry beside their numbers, if anything: a part, or a message of the layers above.
abbrev pub queue_carries : Names → ast.QueueTree → Option Carried
queue_carries names q = carried_in names.place (queue_row names q)

-- The number, from 0, of the cell of a queue, or of the array to which it belongs.
abbrev pub queue_cell : Names → ast.QueueTree → ℕ
queue_cell names q = cell_of names.place (queue_name q)

abbrev mutual
  -- The number of an expression.
  pub number_of : Names → ast.ExpressionTree → ExpressionTree
  number_of names (ast.number at value) = number value
  number_of names (ast.me at) = me
  number_of names (ast.members at) = count
  number_of names (ast.ltime at) = ltime
  number_of names (ast.named name) = named_number names name
  number_of names (ast.element name index) = element (cell_of names.place name) (number_of names index)
  number_of names (ast.square name row column) =
      square (cell_of names.place name) (number_of names row) (number_of names column)
  number_of names (ast.rows at q) = rows (queue_cell names q) (queue_index names q)
  number_of names (ast.item at q row label) = item (queue_cell names q) (queue_index names q) (number_of names row)
      (item_number (queue_row names q) label)
  number_of names (ast.size at m) = size (message_of names m)
  number_of names (ast.binary at left operator right) = binary operator (number_of names left) (number_of names right)
  number_of names (ast.apply at function operand) = apply function (number_of names operand)
  number_of names (ast.pick at condition first second) =
      pick (number_of names condition) (number_of names first) (number_of names second)

  -- The index of a queue among those of its cell: a queue that is alone has 0.
  pub queue_index : Names → ast.QueueTree → ExpressionTree
  queue_index names (ast.queue name) = number 0
  queue_index names (ast.queue_at name index) = number_of names index

  -- The message of a message expression.
  pub message_of : Names → ast.MessageTree → MessageTree
  message_of names (ast.bare name) = message (message_slot names name)
  message_of names (ast.built b) = built_of names b

  -- The message of a message expression that is no bare name.
  pub built_of : Names → ast.BuiltTree → MessageTree
  built_of names (ast.nothing at) = nothing
  built_of names (ast.held at q row) = held (queue_cell names q) (queue_index names q) (number_of names row)
      (unwrap_or (queue_carries names q) part)
  built_of names (ast.cut at m from length) = cut (message_of names m) (number_of names from) (number_of names length)
  built_of names (ast.tail at m from) = tail (message_of names m) (number_of names from)
  built_of names (ast.join at first second) = join (message_of names first) (message_of names second)

-- An argument as a number; what can only be a message gives 0.
abbrev pub argument_number : Names → ast.ArgumentTree → ExpressionTree
argument_number names (ast.value e) = number_of names e
argument_number names (ast.content b) = number 0

-- An argument as a message: a bare name is that of a message of the scope; any other number expression gives no bytes.
abbrev pub argument_message : Names → ast.ArgumentTree → MessageTree
argument_message names (ast.value (ast.named name)) = message (message_slot names name)
argument_message names (ast.value e) = nothing
argument_message names (ast.content b) = built_of names b

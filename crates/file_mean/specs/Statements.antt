-- Statements of a layer file with numbers for names.
use Rattle.std.specs.Prelude.{ℕ, List, [], ◌∷◌, map, length, is_some, Option, Some, option_map, option_to_list}
use Rattle.std.specs.List.{range_with_len}
use Rattle.std.specs.Option.{option_map_or}
use Rattle.layer_ast.specs.declared.names.Name.{Name}
use Rattle.layer_words.specs.declared.events.Dir.{Dir}
use Rattle.layer_words.specs.declared.events.Kind.{Kind}
use Rattle.layer_ast.specs.Tree as ast
use Rattle.layer_mean.specs.Event.{carries}
use Rattle.layer_mean.specs.Tree.{ExpressionTree, number, EmissionTree, RowTree, TakenTree, StatementTree, bind, assign}
use Rattle.layer_mean.specs.Tree.{assign_square, push, take, branch, each, emit, StatementTrees, none, more}
use Rattle.fault_mean.specs.Declared.{names_in}
use Rattle.fault_mean.specs.Forms.{queue_name}
use Rattle.fault_mean.specs.Uses.{arguments_in}
use Rattle.file_mean.specs.Names.{Names, cell_of, tag_of, capacity_of, size_value, numbers_among, message_among}
use Rattle.file_mean.specs.Names.{with_numbers, with_messages}
use Rattle.file_mean.specs.Values.{number_of, queue_carries, queue_cell, queue_index, argument_number, argument_message}

-- The tag of the header that an emission puts on: without one it is `none`, which has tag 0.
abbrev pub pushed_tag : Names → Option ast.PushedTree → ℕ
pushed_tag names pushed = option_map_or (λ p. tag_of names.place p.name) pushed 0

-- The fields of the header that an emission puts on: none without one.
abbrev pub pushed_fields : Names → Option ast.PushedTree → List ExpressionTree
pushed_fields names pushed = option_map_or (λ p. map (argument_number names) (arguments_in p.fields)) pushed []

-- An emission: its last argument is its message, where events of its kind carry one.
abbrev pub emission_of : Names → Dir → Kind → List ast.ArgumentTree → Option ast.PushedTree → EmissionTree
emission_of names direction kind arguments pushed = record {
  direction = direction;
  kind = kind;
  numbers = map (argument_number names) (numbers_among (carries kind) arguments);
  content = option_map
      (λ m. record {
        message = argument_message names m;
        tag = pushed_tag names pushed;
        fields = pushed_fields names pushed;
      })
      (message_among (carries kind) arguments);
}

-- The row that is pushed on a queue: its last item is its message, where the queue's rows carry one.
abbrev pub pushed_row : Names → ast.QueueTree → List ast.ArgumentTree → RowTree
pushed_row names q items =
    let has_message = is_some (queue_carries names q) in
    record {
      numbers = map (argument_number names) (numbers_among has_message items);
      message = option_map (argument_message names) (message_among has_message items);
    }

-- The names that are visible once a row is taken from a queue: the row's parts have new slots.
abbrev pub with_taken : ast.QueueTree → List Name → Names → Names
with_taken q new names =
    let has_message = is_some (queue_carries names q) in
    with_messages (option_to_list (message_among has_message new)) (with_numbers (numbers_among has_message new) names)

-- The slots that a row taken from a queue fills: the next free ones of numbers, and where its rows carry a message, the
-- next free one of messages.
abbrev pub taken_row : Names → ast.QueueTree → List Name → TakenTree
taken_row names q new = record {
  numbers = range_with_len names.taken.numbers (length (numbers_among (is_some (queue_carries names q)) new));
  message = option_map (λ carried. (names.taken.messages, carried)) (queue_carries names q);
}

-- The names after a block, from those before it and those at its end: what the block declared is no longer visible, but
-- keeps its slots.
abbrev pub after_block : Names → Names → Names
after_block names inner = record names { taken = inner.taken }

abbrev mutual
  -- The names after a statement: those that it declares for the rest of its block are visible, and the slots of all
  -- that it declares are taken.
  pub following : ast.StatementTree → Names → Names
  following (ast.bind at name value) names = with_numbers (name ∷ []) names
  following (ast.push at q items otherwise) names = after_block names (after_all otherwise names)
  following (ast.take at q new block otherwise) names =
      after_block names (after_all otherwise
      (after_block names (after_all block (with_taken q (names_in (Some new)) names))))
  following (ast.when at likely condition block) names = after_block names (after_all block names)
  following (ast.choose at likely condition block otherwise) names =
      after_block names (after_all otherwise (after_block names (after_all block names)))
  following (ast.each at name below most block) names =
      after_block names (after_all block (with_numbers (name ∷ []) names))
  following _ names = names

  -- The names after the statements of a block.
  pub after_all : ast.StatementTrees → Names → Names
  after_all ast.none names = names
  after_all (ast.more statement rest) names = after_all rest (following statement names)

-- The cell and the index that an assignment writes; a cell of one number has index 0.
abbrev pub index_of : Names → Option ast.ExpressionTree → ExpressionTree
index_of names index = option_map_or (number_of names) index (number 0)

abbrev mutual
  -- A statement. A second block's slots come after those of the first.
  pub statement_of : Names → ast.StatementTree → StatementTree
  statement_of names (ast.bind at name value) = bind names.taken.numbers (number_of names value)
  statement_of names (ast.set at name index value) =
      assign (cell_of names.place name) (index_of names index) (number_of names value)
  statement_of names (ast.set_square at name row column value) = assign_square (cell_of names.place name)
      (number_of names row) (number_of names column) (number_of names value)
  statement_of names (ast.push at q items otherwise) = push (queue_cell names q) (queue_index names q)
      (capacity_of names.place (queue_name q)) (pushed_row names q (arguments_in (Some items)))
      (statements_of names otherwise)
  statement_of names (ast.take at q new block otherwise) =
      let inner = with_taken q (names_in (Some new)) names in
      take (queue_cell names q) (queue_index names q) (taken_row names q (names_in (Some new)))
      (statements_of inner block)
      (statements_of (after_block names (after_all block inner)) otherwise)
  statement_of names (ast.when at likely condition block) =
      branch likely (number_of names condition) (statements_of names block) none
  statement_of names (ast.choose at likely condition block otherwise) =
      branch likely (number_of names condition) (statements_of names block)
      (statements_of (after_block names (after_all block names)) otherwise)
  statement_of names (ast.each at name below most block) = each names.taken.numbers (number_of names below)
      (size_value names.place most) (statements_of (with_numbers (name ∷ []) names) block)
  statement_of names (ast.emit at direction kind arguments pushed) =
      emit (emission_of names direction kind (arguments_in (Some arguments)) pushed)

  -- The statements of a block, in order.
  pub statements_of : Names → ast.StatementTrees → StatementTrees
  statements_of names ast.none = none
  statements_of names (ast.more statement rest) =
      more (statement_of names statement) (statements_of (following statement names) rest)

-- The faults of the types of expressions and arguments.
use Rattle.std.specs.Prelude.{Bool, true, false, not, List, [], ◌++◌, flat_map, find, length, zip, bytes_eq, Option}
use Rattle.std.specs.Prelude.{is_some, option_map}
use Rattle.std.specs.Option.{option_map_or}
use Rattle.layer_words.specs.declared.places.At.{At}
use Rattle.layer_ast.specs.declared.names.Name.{Name}
use Rattle.layer_words.specs.declared.sorts.Shape.TheVariants.{Array, Square}
use Rattle.layer_words.specs.declared.sorts.Sort.{Sort}
use Rattle.layer_words.specs.declared.sorts.Sort.TheVariants.{Int}
use Rattle.layer_ast.specs.Tree.{ExpressionTree, named, element, square, rows, item, size, binary, apply, pick}
use Rattle.layer_ast.specs.Tree.{QueueTree, queue, queue_at, MessageTree, bare, built, BuiltTree, nothing, held, cut}
use Rattle.layer_ast.specs.Tree.{tail, join, ArgumentTree, value, content, LayerTree}
use Rattle.fault_mean.specs.Earliest.{unless}
use Rattle.fault_mean.specs.Faults.{TypeFault, kind}
use Rattle.fault_mean.specs.Forms.{declared_as, is_numbers, is_queue, is_queue_array, queue_name, row_of}
use Rattle.fault_mean.specs.Kinds.{a_message, a_msg, a_number, a_part, allows}
use Rattle.fault_mean.specs.Scope.{Scope}
use Rattle.fault_mean.specs.Sorts.{argument_at, argument_sort, expression_at, held_sort, message_at, message_sort}
use Rattle.fault_mean.specs.Sorts.{name_sort}

-- Whether a sort, where one is known, is one of these.
abbrev pub may_be : List Sort → Option Sort → Bool
may_be wanted sort = option_map_or (allows wanted) sort true

-- Whether a sort is known and is one of these.
abbrev pub must_be : List Sort → Option Sort → Bool
must_be wanted sort = option_map_or (allows wanted) sort false

-- Whether `at` may read this label: an item of that name is a number.
abbrev pub reads_number : LayerTree → QueueTree → Name → Bool
reads_number layer q label =
    must_be a_number (option_map (λ i. i.sort)
    (find (λ i. bytes_eq i.name.word label.word) (row_of layer (queue_name q).word)))

abbrev mutual
  -- The faults of an expression, which is to be a number.
  pub number_faults : Scope → ExpressionTree → List TypeFault
  number_faults scope (named name) = unless (must_be a_number (name_sort scope name.word)) (kind name.at)
  number_faults scope (element name index) =
      unless (declared_as (is_numbers Array) scope.layer name.word) (kind name.at) ++ number_faults scope index
  number_faults scope (square name row column) =
      unless (declared_as (is_numbers Square) scope.layer name.word) (kind name.at)
      ++ number_faults scope row
      ++ number_faults scope column
  number_faults scope (rows at q) = queue_faults scope at q
  number_faults scope (item at q row label) =
      queue_faults scope at q ++ unless (reads_number scope.layer q label) (kind at) ++ number_faults scope row
  number_faults scope (size at message) = message_faults scope message
  number_faults scope (binary at left operator right) = number_faults scope left ++ number_faults scope right
  number_faults scope (apply at function operand) = number_faults scope operand
  number_faults scope (pick at condition first second) =
      number_faults scope condition ++ number_faults scope first ++ number_faults scope second
  number_faults scope _ = []

  -- The faults of the mention of a queue after the word at this place.
  pub queue_faults : Scope → At → QueueTree → List TypeFault
  queue_faults scope at (queue name) = unless (declared_as is_queue scope.layer name.word) (kind at)
  queue_faults scope at (queue_at name index) =
      unless (declared_as is_queue_array scope.layer name.word) (kind at) ++ number_faults scope index

  -- The faults of what is to be a message.
  pub message_faults : Scope → MessageTree → List TypeFault
  message_faults scope (bare name) = unless (must_be a_message (name_sort scope name.word)) (kind name.at)
  message_faults scope (built b) = built_faults scope b

  -- The faults of a message that is no bare name: a tail isn't of a part, and a join is of a part and a message.
  pub built_faults : Scope → BuiltTree → List TypeFault
  built_faults scope (nothing at) = []
  built_faults scope (held at q row) =
      queue_faults scope at q ++ unless (is_some (held_sort scope q)) (kind at) ++ number_faults scope row
  built_faults scope (cut at message from length) =
      message_faults scope message ++ number_faults scope from ++ number_faults scope length
  built_faults scope (tail at message from) =
      unless (not (must_be a_part (message_sort scope message))) (kind at)
      ++ message_faults scope message
      ++ number_faults scope from
  built_faults scope (join at first second) =
      unless (may_be a_part (message_sort scope first)) (kind (message_at first))
      ++ unless (may_be a_msg (message_sort scope second)) (kind (message_at second))
      ++ message_faults scope first
      ++ message_faults scope second

-- The faults of an argument, which is to be of one of these sorts.
abbrev pub argument_faults : Scope → List Sort → ArgumentTree → List TypeFault
argument_faults scope wanted (value (named name)) = unless (must_be wanted (name_sort scope name.word)) (kind name.at)
argument_faults scope wanted (value e) = unless (allows wanted Int) (kind (expression_at e)) ++ number_faults scope e
argument_faults scope wanted (content b) =
    unless (may_be wanted (argument_sort scope (content b))) (kind (argument_at (content b))) ++ built_faults scope b

-- The faults of arguments, each of which is to be of one of the sorts listed for it.
abbrev pub arguments_faults : Scope → List (List Sort) → List ArgumentTree → List TypeFault
arguments_faults scope wanted arguments = flat_map (λ x. argument_faults scope x.0 x.1) (zip wanted arguments)

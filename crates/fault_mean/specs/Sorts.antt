-- What names and messages are: numbers, messages of the layers above, or parts.
use Rattle.std.specs.Prelude.{Bool, true, false, ◌&&◌, ◌||◌, if◌then◌else◌, find, bytes_eq, Option, Some, None}
use Rattle.std.specs.Prelude.{option_map}
use Rattle.std.specs.Option.{option_or}
use Rattle.layer_words.specs.declared.places.At.{At}
use Rattle.layer_words.specs.declared.words.Word.{Word}
use Rattle.layer_words.specs.declared.sorts.Shape.TheVariants.{One}
use Rattle.layer_words.specs.declared.sorts.Sort.{Sort}
use Rattle.layer_words.specs.declared.sorts.Sort.TheVariants.{Int, Msg, Part}
use Rattle.layer_ast.specs.Tree.{ExpressionTree, number, me, members, ltime, named, element, square, rows, item, size}
use Rattle.layer_ast.specs.Tree.{binary, apply, pick, MessageTree, bare, built, BuiltTree, nothing, held, cut, tail}
use Rattle.layer_ast.specs.Tree.{join, ArgumentTree, value, content, DeclarationTree, LayerTree, QueueTree, SizeTree}
use Rattle.layer_ast.specs.Tree.{fixed, sized}
use Rattle.fault_mean.specs.Declared.{is_param}
use Rattle.fault_mean.specs.Forms.{declared_as, is_numbers, queue_name, row_of}
use Rattle.fault_mean.specs.Kinds.{a_message, allows}
use Rattle.fault_mean.specs.Scope.{Scope}

-- The place of the first token of an expression.
abbrev pub expression_at : ExpressionTree → At
expression_at (number at _) = at
expression_at (me at) = at
expression_at (members at) = at
expression_at (ltime at) = at
expression_at (named name) = name.at
expression_at (element name index) = name.at
expression_at (square name row column) = name.at
expression_at (rows at q) = at
expression_at (item at q row label) = at
expression_at (size at message) = at
expression_at (binary at left operator right) = at
expression_at (apply at function operand) = at
expression_at (pick at condition first second) = at

-- The place of the first token of a message that is no bare name.
abbrev pub built_at : BuiltTree → At
built_at (nothing at) = at
built_at (held at q row) = at
built_at (cut at message from length) = at
built_at (tail at message from) = at
built_at (join at first second) = at

-- The place of the first token of a message.
abbrev pub message_at : MessageTree → At
message_at (bare name) = name.at
message_at (built b) = built_at b

-- The place of the first token of an argument.
abbrev pub argument_at : ArgumentTree → At
argument_at (value e) = expression_at e
argument_at (content b) = built_at b

-- The place of the first token of a size.
abbrev pub size_at : SizeTree → At
size_at (fixed at _) = at
size_at (sized name) = name.at

-- Whether a declaration declares a number: a param, or a cell that is one number.
abbrev pub is_number : DeclarationTree → Bool
is_number declaration = is_param declaration || is_numbers One declaration

-- The sort of a visible name, where it stands for a number or a message.
abbrev pub name_sort : Scope → Word → Option Sort
name_sort scope word = option_or
    (option_map (λ l. l.sort) (find (λ l. bytes_eq l.name.word word) scope.locals))
    (if declared_as is_number scope.layer word then Some Int else None)

-- The sort of the message in the rows of a queue, where they have one.
abbrev pub held_sort : Scope → QueueTree → Option Sort
held_sort scope q = option_map (λ i. i.sort)
    (find (λ i. allows a_message i.sort) (row_of scope.layer (queue_name q).word))

-- The sort of a message that is no bare name, by its outermost form, where that says one.
abbrev pub built_sort : Scope → BuiltTree → Option Sort
built_sort scope (nothing at) = Some Part
built_sort scope (held at q row) = held_sort scope q
built_sort scope (cut at message from length) = Some Part
built_sort scope (tail at message from) = Some Msg
built_sort scope (join at first second) = Some Msg

-- The sort of a message: that of its bare name, or by its outermost form, where these say one.
abbrev pub message_sort : Scope → MessageTree → Option Sort
message_sort scope (bare name) = name_sort scope name.word
message_sort scope (built b) = built_sort scope b

-- The sort of an argument: that of a bare name, a number for any other expression, or that of a message, where these
-- say one.
abbrev pub argument_sort : Scope → ArgumentTree → Option Sort
argument_sort scope (value (named name)) = name_sort scope name.word
argument_sort scope (value e) = Some Int
argument_sort scope (content b) = built_sort scope b

-- Whether an initial value is made of numbers, params, `me`, `n`, `ltime`, operators and functions alone.
abbrev pub is_initial : LayerTree → ExpressionTree → Bool
is_initial layer (number at _) = true
is_initial layer (me at) = true
is_initial layer (members at) = true
is_initial layer (ltime at) = true
is_initial layer (named name) = declared_as is_param layer name.word
is_initial layer (binary at left operator right) = is_initial layer left && is_initial layer right
is_initial layer (apply at function operand) = is_initial layer operand
is_initial layer (pick at condition first second) =
    is_initial layer condition && is_initial layer first && is_initial layer second
is_initial layer _ = false

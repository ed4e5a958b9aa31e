-- A machine with a stack that reads the tokens of a file from left to right, one token after another: what it expects
-- next lies on the stack. It joins the readers to the printer; no promise of the parser speaks of it.
use Rattle.std.specs.Prelude.{ℕ, suc, Bool, true, false, ◌&&◌, if◌then◌else◌, List, [], ◌∷◌, ◌++◌, length, Option, Some}
use Rattle.std.specs.Prelude.{None}
use denote.Enum.Bare.{sameb}
use Rattle.layer_words.specs.contracts.signs.Sign.{the_type}
use Rattle.layer_ast.specs.declared.tokens.Lexed.{Lexed}
use Rattle.layer_words.specs.declared.signs.Sign.{Sign}
use Rattle.layer_words.specs.declared.signs.Sign.TheVariants as sign
use Rattle.layer_ast.specs.declared.tokens.Token.{Token}
use Rattle.layer_ast.specs.declared.tokens.Token.TheVariants as token
use Rattle.layer_ast.specs.Depth.{room_after}

-- what is expected: a given sign, a part of the grammar, an optional part, or a repetition
pub data Symbol : Type 0 where
  one : (s : Sign) → Symbol
  a_name : Symbol
  a_number : Symbol
  a_kind : Symbol
  a_size : Symbol
  a_sort : Symbol
  an_ending : Symbol
  an_operator : Symbol
  an_expression : Symbol
  an_index : Symbol
  a_message : Symbol
  a_built : Symbol
  an_argument : Symbol
  more_arguments : Symbol
  some_arguments : Symbol
  a_pushed : Symbol
  a_likely : Symbol
  an_otherwise : Symbol
  a_statement : Symbol
  statements : Symbol
  more_names : Symbol
  some_names : Symbol
  a_popped : Symbol
  an_expected : Symbol
  a_handler : Symbol
  handlers : Symbol
  a_square : Symbol
  a_shape : Symbol
  an_initial : Symbol
  a_capacity : Symbol
  more_items : Symbol
  a_cell : Symbol
  a_declaration : Symbol
  declarations : Symbol
  a_layer : Symbol
  layers : Symbol
  more_given : Symbol
  some_given : Symbol
  a_place : Symbol
  places : Symbol

-- what an expected symbol does at a token: it takes the token and then expects others, it is left out, or there is no
-- way on
pub data Move : Type 0 where
  eats : (expected : List Symbol) → Move
  skips : Move
  refuses : Move

-- a token is this sign
abbrev pub is_sign : Sign → Token → Bool
is_sign s (token.Sign t) = sameb the_type t s
is_sign s _ = false

-- an optional part that begins as another part and goes on with these symbols
abbrev pub begun : List Symbol → Move → Move
begun following (eats expected) = eats (expected ++ following)
begun following _ = skips

-- one part or else another
abbrev pub or_else : Move → Move → Move
or_else (eats expected) other = eats expected
or_else _ other = other

-- a name
abbrev pub name_move : Token → Move
name_move (token.Name _) = eats []
name_move _ = refuses

-- a number
abbrev pub number_move : Token → Move
number_move (token.Number _) = eats []
number_move _ = refuses

-- a kind
abbrev pub kind_move : Token → Move
kind_move (token.Kind _) = eats []
kind_move _ = refuses

-- a size
abbrev pub size_move : Token → Move
size_move (token.Number _) = eats []
size_move (token.Name _) = eats []
size_move _ = refuses

-- the sort of an item
abbrev pub sort_move : Token → Move
sort_move (token.Sign sign.Int) = eats []
sort_move (token.Sign sign.Msg) = eats []
sort_move (token.Sign sign.Part) = eats []
sort_move _ = refuses

-- whether the headers of the layers above follow a header
abbrev pub ending_move : Token → Move
ending_move (token.Sign sign.Passes) = eats []
ending_move (token.Sign sign.Ends) = eats []
ending_move _ = refuses

-- an operator
abbrev pub operator_move : Token → Move
operator_move (token.Sign sign.Plus) = eats []
operator_move (token.Sign sign.Minus) = eats []
operator_move (token.Sign sign.Star) = eats []
operator_move (token.Sign sign.Equal) = eats []
operator_move (token.Sign sign.NotEqual) = eats []
operator_move (token.Sign sign.Less) = eats []
operator_move (token.Sign sign.LessEqual) = eats []
operator_move (token.Sign sign.Greater) = eats []
operator_move (token.Sign sign.GreaterEqual) = eats []
operator_move (token.Sign sign.And) = eats []
operator_move (token.Sign sign.Or) = eats []
operator_move (token.Sign sign.Ampersand) = eats []
operator_move (token.Sign sign.Bar) = eats []
operator_move (token.Sign sign.Caret) = eats []
operator_move _ = refuses

-- what a function is applied to
abbrev pub operand : List Symbol
operand = one sign.LeftParen ∷ an_expression ∷ one sign.RightParen ∷ []

-- an expression
abbrev pub expression_move : Token → Move
expression_move (token.Number _) = eats []
expression_move (token.Name _) = eats (an_index ∷ an_index ∷ [])
expression_move (token.Sign sign.Me) = eats []
expression_move (token.Sign sign.N) = eats []
expression_move (token.Sign sign.Ltime) = eats []
expression_move (token.Sign sign.Len) = eats (one sign.LeftParen ∷ a_name ∷ an_index ∷ one sign.RightParen ∷ [])
expression_move (token.Sign sign.AtRow) =
    eats (
    one sign.LeftParen ∷ a_name ∷ an_index ∷ one sign.Comma ∷ an_expression ∷ one sign.RightParen ∷ one sign.Dot ∷
    a_name ∷ []
    )
expression_move (token.Sign sign.Size) = eats (one sign.LeftParen ∷ a_message ∷ one sign.RightParen ∷ [])
expression_move (token.Sign sign.LeftParen) =
    eats (an_expression ∷ an_operator ∷ an_expression ∷ one sign.RightParen ∷ [])
expression_move (token.Sign sign.Not) = eats operand
expression_move (token.Sign sign.Bit) = eats operand
expression_move (token.Sign sign.Count) = eats operand
expression_move (token.Sign sign.Lowest) = eats operand
expression_move (token.Sign sign.Pick) =
    eats (
    one sign.LeftParen ∷ an_expression ∷ one sign.Comma ∷ an_expression ∷ one sign.Comma ∷ an_expression
    ∷ one sign.RightParen ∷ []
    )
expression_move _ = refuses

-- an index in square brackets, where there is one
abbrev pub index_move : Token → Move
index_move (token.Sign sign.LeftBracket) = eats (an_expression ∷ one sign.RightBracket ∷ [])
index_move _ = skips

-- a message that is no bare name
abbrev pub built_move : Token → Move
built_move (token.Sign sign.Nothing) = eats []
built_move (token.Sign sign.Held) =
    eats (one sign.LeftParen ∷ a_name ∷ an_index ∷ one sign.Comma ∷ an_expression ∷ one sign.RightParen ∷ [])
built_move (token.Sign sign.Cut) =
    eats (
    one sign.LeftParen ∷ a_message ∷ one sign.Comma ∷ an_expression ∷ one sign.Comma ∷ an_expression
    ∷ one sign.RightParen ∷ []
    )
built_move (token.Sign sign.Tail) =
    eats (one sign.LeftParen ∷ a_message ∷ one sign.Comma ∷ an_expression ∷ one sign.RightParen ∷ [])
built_move (token.Sign sign.Join) =
    eats (one sign.LeftParen ∷ a_message ∷ one sign.Comma ∷ a_message ∷ one sign.RightParen ∷ [])
built_move _ = refuses

-- a message
abbrev pub message_move : Token → Move
message_move t = or_else (built_move t) (name_move t)

-- an argument
abbrev pub argument_move : Token → Move
argument_move t = or_else (built_move t) (expression_move t)

-- arguments, each after a comma
abbrev pub more_arguments_move : Token → Move
more_arguments_move (token.Sign sign.Comma) = eats (an_argument ∷ more_arguments ∷ [])
more_arguments_move _ = skips

-- the header that an emission puts on, where it does
abbrev pub pushed_move : Token → Move
pushed_move (token.Sign sign.With) =
    eats (a_name ∷ one sign.LeftParen ∷ some_arguments ∷ one sign.RightParen ∷ [])
pushed_move _ = skips

-- what says which way a condition is predicted to go, where it does
abbrev pub likely_move : Token → Move
likely_move (token.Sign sign.Rare) = eats []
likely_move (token.Sign sign.Two) = eats []
likely_move _ = skips

-- statements in braces
abbrev pub a_block : List Symbol
a_block = one sign.LeftBrace ∷ statements ∷ one sign.RightBrace ∷ []

-- the other way of a condition, where there is one
abbrev pub otherwise_move : Token → Move
otherwise_move (token.Sign sign.Else) = eats a_block
otherwise_move _ = skips

-- what follows the direction of an emission
abbrev pub emission : List Symbol
emission =
    a_kind ∷ one sign.LeftParen ∷ an_argument ∷ more_arguments ∷ one sign.RightParen ∷ a_pushed ∷ one sign.Semicolon
    ∷ []

-- a statement
abbrev pub statement_move : Token → Move
statement_move (token.Sign sign.Let) =
    eats (a_name ∷ one sign.Assign ∷ an_expression ∷ one sign.Semicolon ∷ [])
statement_move (token.Sign sign.Set) =
    eats (a_name ∷ an_index ∷ an_index ∷ one sign.Assign ∷ an_expression ∷ one sign.Semicolon ∷ [])
statement_move (token.Sign sign.Push) =
    eats (
    a_name ∷ an_index ∷ one sign.LeftParen ∷ an_argument ∷ more_arguments ∷ one sign.RightParen ∷ one sign.Else ∷
    a_block
    )
statement_move (token.Sign sign.Take) =
    eats (
    a_name ∷ an_index ∷ one sign.LeftParen ∷ a_name ∷ more_names ∷ one sign.RightParen ∷ a_block ++ one sign.Else ∷
    a_block
    )
statement_move (token.Sign sign.If) = eats (a_likely ∷ an_expression ∷ a_block ++ an_otherwise ∷ [])
statement_move (token.Sign sign.Each) =
    eats (a_name ∷ one sign.Below ∷ an_expression ∷ one sign.Max ∷ a_size ∷ a_block)
statement_move (token.Sign sign.Up) = eats emission
statement_move (token.Sign sign.Down) = eats emission
statement_move _ = refuses

-- names, each after a comma
abbrev pub more_names_move : Token → Move
more_names_move (token.Sign sign.Comma) = eats (a_name ∷ more_names ∷ [])
more_names_move _ = skips

-- the header that a handler takes off, where it does
abbrev pub popped_move : Token → Move
popped_move (token.Sign sign.With) = eats (a_name ∷ one sign.LeftParen ∷ some_names ∷ one sign.RightParen ∷ [])
popped_move _ = skips

-- when a handler is predicted, where it isn't always
abbrev pub expected_move : Token → Move
expected_move (token.Sign sign.Common) = eats (an_expression ∷ [])
expected_move (token.Sign sign.Rare) = eats []
expected_move _ = skips

-- what follows the direction of a handler
abbrev pub handling : List Symbol
handling =
    a_kind ∷ one sign.LeftParen ∷ a_name ∷ more_names ∷ one sign.RightParen ∷ a_popped ∷ an_expected ∷ a_block

-- a handler
abbrev pub handler_move : Token → Move
handler_move (token.Sign sign.Up) = eats handling
handler_move (token.Sign sign.Down) = eats handling
handler_move _ = refuses

-- what says that an array is a square one, where it does
abbrev pub square_move : Token → Move
square_move (token.Sign sign.Star) = eats (one sign.N ∷ [])
square_move _ = skips

-- what says that a cell is an array or a square array, where it does
abbrev pub shape_move : Token → Move
shape_move (token.Sign sign.LeftBracket) = eats (one sign.N ∷ a_square ∷ one sign.RightBracket ∷ [])
shape_move _ = skips

-- the initial value of a cell, where there is one
abbrev pub initial_move : Token → Move
initial_move (token.Sign sign.Assign) = eats (an_expression ∷ [])
initial_move _ = skips

-- between its square brackets, the capacity of a queue, or that it is an array of queues, and their capacity
abbrev pub capacity_move : Token → Move
capacity_move (token.Sign sign.N) = eats (one sign.RightBracket ∷ one sign.LeftBracket ∷ a_size ∷ [])
capacity_move t = size_move t

-- an item of a queue's rows
abbrev pub an_item : List Symbol
an_item = a_name ∷ one sign.Colon ∷ a_sort ∷ []

-- items, each after a comma
abbrev pub more_items_move : Token → Move
more_items_move (token.Sign sign.Comma) = eats (an_item ++ more_items ∷ [])
more_items_move _ = skips

-- the declaration of a cell or of a queue, after its first word
abbrev pub cell_move : Token → Move
cell_move (token.Sign sign.Int) = eats (a_name ∷ a_shape ∷ an_initial ∷ one sign.Semicolon ∷ [])
cell_move (token.Sign sign.Queue) =
    eats (
    a_name ∷ one sign.LeftBracket ∷ a_capacity ∷ one sign.RightBracket ∷ one sign.Of ∷ one sign.LeftParen
    ∷ an_item ++ more_items ∷ one sign.RightParen ∷ one sign.Semicolon ∷ []
    )
cell_move _ = refuses

-- a declaration
abbrev pub declaration_move : Token → Move
declaration_move (token.Sign sign.Param) =
    eats (a_name ∷ one sign.Assign ∷ a_number ∷ one sign.Semicolon ∷ [])
declaration_move (token.Sign sign.State) = eats (a_cell ∷ [])
declaration_move (token.Sign sign.Header) =
    eats (a_name ∷ one sign.LeftParen ∷ some_names ∷ one sign.RightParen ∷ an_ending ∷ one sign.Semicolon ∷ [])
declaration_move _ = refuses

-- a layer
abbrev pub layer_move : Token → Move
layer_move (token.Sign sign.Layer) =
    eats (a_name ∷ one sign.LeftBrace ∷ declarations ∷ handlers ∷ one sign.RightBrace ∷ [])
layer_move _ = refuses

-- a param that a place gives
abbrev pub a_given : List Symbol
a_given = a_name ∷ one sign.Assign ∷ a_number ∷ []

-- given params, each after a comma
abbrev pub more_given_move : Token → Move
more_given_move (token.Sign sign.Comma) = eats (a_given ++ more_given ∷ [])
more_given_move _ = skips

-- the params that a place gives, in parentheses, where it gives any
abbrev pub some_given_move : Token → Move
some_given_move (token.Sign sign.LeftParen) = eats (a_given ++ more_given ∷ one sign.RightParen ∷ [])
some_given_move _ = skips

-- a place of the stack
abbrev pub place_move : Token → Move
place_move (token.Name _) = eats (some_given ∷ one sign.Semicolon ∷ [])
place_move _ = refuses

-- what an expected symbol does at a token
abbrev pub move : Symbol → Token → Move
move (one s) t = if is_sign s t then eats [] else refuses
move a_name t = name_move t
move a_number t = number_move t
move a_kind t = kind_move t
move a_size t = size_move t
move a_sort t = sort_move t
move an_ending t = ending_move t
move an_operator t = operator_move t
move an_expression t = expression_move t
move an_index t = index_move t
move a_message t = message_move t
move a_built t = built_move t
move an_argument t = argument_move t
move more_arguments t = more_arguments_move t
move some_arguments t = begun (more_arguments ∷ []) (argument_move t)
move a_pushed t = pushed_move t
move a_likely t = likely_move t
move an_otherwise t = otherwise_move t
move a_statement t = statement_move t
move statements t = begun (statements ∷ []) (statement_move t)
move more_names t = more_names_move t
move some_names t = begun (more_names ∷ []) (name_move t)
move a_popped t = popped_move t
move an_expected t = expected_move t
move a_handler t = handler_move t
move handlers t = begun (handlers ∷ []) (handler_move t)
move a_square t = square_move t
move a_shape t = shape_move t
move an_initial t = initial_move t
move a_capacity t = capacity_move t
move more_items t = more_items_move t
move a_cell t = cell_move t
move a_declaration t = declaration_move t
move declarations t = begun (declarations ∷ []) (declaration_move t)
move a_layer t = layer_move t
move layers t = begun (layers ∷ []) (layer_move t)
move more_given t = more_given_move t
move some_given t = some_given_move t
move a_place t = place_move t
move places t = begun (places ∷ []) (place_move t)

-- the symbols that may be left out
abbrev pub is_optional : Symbol → Bool
is_optional an_index = true
is_optional more_arguments = true
is_optional some_arguments = true
is_optional a_pushed = true
is_optional a_likely = true
is_optional an_otherwise = true
is_optional statements = true
is_optional more_names = true
is_optional some_names = true
is_optional a_popped = true
is_optional an_expected = true
is_optional handlers = true
is_optional a_square = true
is_optional a_shape = true
is_optional an_initial = true
is_optional more_items = true
is_optional declarations = true
is_optional layers = true
is_optional more_given = true
is_optional some_given = true
is_optional places = true
is_optional _ = false

-- whether each symbol of a stack may be left out
abbrev pub all_optional : List Symbol → Bool
all_optional [] = true
all_optional (s ∷ stack) = is_optional s && all_optional stack

-- the stack after a token that its first symbol moved at, given what the rest of the stack makes of the token
abbrev pub stack_after : Move → List Symbol → Option (List Symbol) → Option (List Symbol)
stack_after (eats expected) stack skipped = Some (expected ++ stack)
stack_after skips stack skipped = skipped
stack_after refuses stack skipped = None

-- the stack after a token, where the stack takes it
abbrev pub feed : List Symbol → Token → Option (List Symbol)
feed [] t = None
feed (s ∷ stack) t = stack_after (move s t) stack (feed stack t)

-- how a run ends: at the end of a file, or refused with `left` tokens left
pub data Outcome : Type 0 where
  accepted : Outcome
  refused : (left : ℕ) → Outcome

-- one token of a run, where `left` tokens are left
abbrev pub step : Option ℕ → Option (List Symbol) → ℕ → (ℕ → List Symbol → Outcome) → Outcome
step None _ left go = refused left
step (Some room) None left go = refused left
step (Some room) (Some stack) left go = go room stack

-- the run over tokens, with room for n brackets
abbrev pub run : ℕ → List Symbol → List Lexed → Outcome
run room stack [] = if all_optional stack then accepted else refused 0
run room stack (t ∷ tokens) =
    step (room_after t.token room) (feed stack t.token) (suc (length tokens))
    (λ left expected. run left expected tokens)

-- the stack at the start of a file
abbrev pub start : List Symbol
start = layers ∷ one sign.Stack ∷ one sign.LeftBrace ∷ a_place ∷ places ∷ one sign.RightBrace ∷ []

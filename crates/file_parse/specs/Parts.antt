-- How the parts that are no trees of their own are printed.
use Rattle.std.specs.Prelude.{◌≡◌, Bool, true, false, List, [], ◌∷◌, Option, Some, None, option_map, Result, Ok, Err}
use Rattle.std.specs.Borrow.{Bor}
use Rattle.layer_words.specs.declared.places.At.{At}
use Rattle.layer_ast.specs.declared.names.Name.{Name}
use Rattle.layer_ast.specs.declared.tokens.Lexed.{Lexed}
use Rattle.layer_words.specs.declared.signs.Sign.TheVariants.{LeftParen, RightParen, LeftBracket, RightBracket, Comma}
use Rattle.layer_words.specs.declared.signs.Sign.TheVariants.{Semicolon, Assign, Star, N, Else, If, Set, State, Queue}
use Rattle.layer_words.specs.declared.signs.Sign.TheVariants.{Of}
use Rattle.layer_ast.specs.declared.syntax.Block.{Block}
use Rattle.layer_ast.specs.declared.syntax.Declaration.{Declaration}
use Rattle.layer_ast.specs.declared.syntax.Expression.{Expression}
use Rattle.layer_ast.specs.declared.syntax.Items.{Items}
use Rattle.layer_words.specs.declared.sorts.Likely.{Likely}
use Rattle.layer_ast.specs.declared.syntax.Statement.{Statement}
use Rattle.layer_ast.specs.Print.{expression, queue, index, names, some_names, arguments, some_arguments, likely, block}
use Rattle.layer_ast.specs.Print.{statement, item, more_items, declaration}
use Rattle.layer_ast.specs.Print as print
use Rattle.layer_ast.specs.Printed.{Printed, plain, placed_sign, name}
use Rattle.layer_ast.specs.Spells.{Fits}
use Rattle.layer_ast.specs.Tree.{ExpressionTree, QueueTree, NamesTree, ArgumentsTree, StatementTrees, SizeTree}
use Rattle.layer_ast.specs.Tree.{ItemsTree, GivenTree}
use Rattle.layer_ast.specs.View.{expression_tree, queue_tree, statement_tree, block_tree, size_tree, items_tree}
use Rattle.layer_ast.specs.View.{declaration_tree}
use Rattle.grammar_laws.specs.Machine.{more_given}
use Rattle.grammar_laws.specs.Parts.{otherwise, capacity}
use Rattle.file_parse.specs.Reading.{ReadsFlat, StopsFlat}
use Rattle.file_parse.specs.declared.declarations.QueueCapacity.{QueueCapacity}
use Rattle.file_parse.specs.declared.declarations.QueueCapacity.TheVariants.{One, OfArray}
use Rattle.file_parse.specs.declared.expressions.Element.{Element}
use Rattle.file_parse.specs.declared.expressions.Pair.{Pair}
use Rattle.file_parse.specs.declared.expressions.QueueRow.{QueueRow}
use Rattle.file_parse.specs.declared.readers.Fault.{Fault}
use Rattle.file_parse.specs.declared.readers.Fault.TheVariants.{Refused, Memory}

-- one index or two in square brackets, where there are any
abbrev pub print_indices : Option Element → List Printed → List Printed
print_indices None k = k
print_indices (Some i) k =
    plain LeftBracket ∷ expression (expression_tree i.row)
    (plain RightBracket ∷ index (option_map expression_tree i.column) k)

-- two numbers
pub record PairTree : Type 0 where
  pub first : ExpressionTree
  pub second : ExpressionTree

abbrev pub pair_tree : Pair → PairTree
pair_tree pair = record { first = expression_tree pair.first.value; second = expression_tree pair.second.value }

abbrev pub print_pair : PairTree → List Printed → List Printed
print_pair pair k = expression pair.first (plain Comma ∷ expression pair.second k)

-- a queue and the number of one of its rows
pub record RowTree : Type 0 where
  pub queue : QueueTree
  pub row : ExpressionTree

abbrev pub row_tree : QueueRow → RowTree
row_tree row = record { queue = queue_tree row.queue; row = expression_tree row.row.value }

abbrev pub print_row : RowTree → List Printed → List Printed
print_row row k =
    plain LeftParen ∷ queue row.queue (plain Comma ∷ expression row.row (plain RightParen ∷ k))

-- names in parentheses
abbrev pub names_within : NamesTree → List Printed → List Printed
names_within ns k = plain LeftParen ∷ names ns (plain RightParen ∷ k)

-- names in parentheses, which may be empty
abbrev pub some_names_within : Option NamesTree → List Printed → List Printed
some_names_within ns k = plain LeftParen ∷ some_names ns (plain RightParen ∷ k)

-- arguments in parentheses
abbrev pub arguments_within : ArgumentsTree → List Printed → List Printed
arguments_within es k = plain LeftParen ∷ arguments es (plain RightParen ∷ k)

-- arguments in parentheses, which may be empty
abbrev pub some_arguments_within : Option ArgumentsTree → List Printed → List Printed
some_arguments_within es k = plain LeftParen ∷ some_arguments es (plain RightParen ∷ k)

-- `else` and statements in braces
abbrev pub block_after_else : StatementTrees → List Printed → List Printed
block_after_else b k = plain Else ∷ block b k

-- what is assigned, to the end of a statement
abbrev pub print_assigned : ExpressionTree → List Printed → List Printed
print_assigned value k = plain Assign ∷ expression value (plain Semicolon ∷ k)

-- a statement assigns a value to what has this name and these indices
pub record AssignmentPrints (at : At) (n : Name) (element : Option Element) (value : Expression) (s : Statement) : Type
    0 where
  pub spelled : (k : List Printed) (tokens : List Lexed) →
      Fits (
      placed_sign Set at ∷ name n
      ∷ print_indices element (plain Assign ∷ expression (expression_tree value) (plain Semicolon ∷ k))
      ) tokens →
      Fits (statement (statement_tree s) k) tokens

-- a statement is a condition with this block, and with this other way where there is one
pub record DecisionPrints (at : At) (l : Likely) (condition : Expression) (first : Block) (other : Option Block)
    (s : Statement) : Type 0 where
  pub spelled : (k : List Printed) (tokens : List Lexed) →
      Fits (
      placed_sign If at
      ∷ likely l (expression (expression_tree condition)
      (block (block_tree first) (otherwise (option_map block_tree other) k)))
      ) tokens →
      Fits (statement (statement_tree s) k) tokens

-- what says that an array is a square one, where it does
abbrev pub print_square : Bool → List Printed → List Printed
print_square true k = plain Star ∷ plain N ∷ k
print_square false k = k

-- the capacity of a queue: whether it is an array of queues, and their capacity
abbrev pub capacity_tree : QueueCapacity → Bool × SizeTree
capacity_tree (One size) = (false, size_tree size)
capacity_tree (OfArray size) = (true, size_tree size)

-- the capacity of a queue in square brackets
abbrev pub print_capacity : Bool × SizeTree → List Printed → List Printed
print_capacity c k = plain LeftBracket ∷ capacity c (plain RightBracket ∷ k)

-- the items of a queue's rows to the end of its declaration
abbrev pub print_items : ItemsTree → List Printed → List Printed
print_items is k =
    plain Of ∷ plain LeftParen ∷ item is.first (more_items is.rest (plain RightParen ∷ plain Semicolon ∷ k))

-- a declaration is that of a queue, or of an array of queues, with this capacity and these items
pub record QueuePrints (at : At) (n : Name) (size : QueueCapacity) (items : Items) (d : Declaration) : Type 0 where
  pub spelled : (k : List Printed) (tokens : List Lexed) →
      Fits (
      placed_sign State at ∷ plain Queue ∷ name n
      ∷ print_capacity (capacity_tree size) (print_items (items_tree items) k)
      ) tokens →
      Fits (declaration (declaration_tree d) k) tokens

-- the params that a place gives: a first one, and those read after it
pub record ReadsGiven (first : GivenTree) (tokens : List Lexed) (all : List GivenTree) (rest : List Lexed) : Type 0
  where
    pub more : List GivenTree
    pub is : all ≡ first ∷ more
    pub read : ReadsFlat print.more_given (more_given ∷ []) (λ room. room) tokens more rest

-- what the reader of params after a first one answers
abbrev pub ParsesGiven : {A : Type 0} → (A → List GivenTree) → GivenTree → List Lexed →
    Result (A × Bor (List Lexed)) Fault → Type 0
ParsesGiven view first tokens (Ok r) = ReadsGiven first tokens (view r.0) r.1.now
ParsesGiven view first tokens (Err Memory) = Unit {0}
ParsesGiven view first tokens (Err (Refused n)) = StopsFlat (more_given ∷ []) tokens n

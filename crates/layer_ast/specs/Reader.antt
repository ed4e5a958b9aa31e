-- A reader for texts that are worked out. It guesses the file that a text spells; that the text does spell this file is
-- proved for each text. No law speaks of the reader, and of a text that is no file it may say anything. Each part of it
-- takes a number of turns, the tokens, and what is to be made of what it reads and of the tokens after that.
use Rattle.std.specs.Prelude.{ℕ, zero, suc, ◌+◌, Bool, true, false, not, List, [], ◌∷◌, ◌++◌, map, filter, take, drop}
use Rattle.std.specs.Prelude.{get_or, Option, Some, None}
use Rattle.std.specs.List.{take_while, prefix_len}
use Rattle.layer_words.specs.declared.places.At.{At}
use Rattle.layer_ast.specs.declared.names.Name.{Name}
use Rattle.layer_words.specs.declared.events.Dir.{Dir}
use Rattle.layer_words.specs.declared.events.Dir.TheVariants.{Up, Down}
use Rattle.layer_words.specs.declared.events.Kind.{Kind}
use Rattle.layer_words.specs.declared.events.Kind.TheVariants.{Cast}
use Rattle.layer_ast.specs.declared.tokens.Lexed.{Lexed}
use Rattle.layer_words.specs.declared.signs.Sign.TheVariants as sign
use Rattle.layer_ast.specs.declared.tokens.Token.{Token}
use Rattle.layer_ast.specs.declared.tokens.Token.TheVariants as token
use Rattle.layer_ast.specs.declared.syntax.Ending.{Ending}
use Rattle.layer_ast.specs.declared.syntax.Ending.TheVariants.{Passes, Ends}
use Rattle.layer_words.specs.declared.operators.Function.{Function}
use Rattle.layer_words.specs.declared.operators.Function.TheVariants.{Not, Bit, Count, Lowest}
use Rattle.layer_words.specs.declared.sorts.Likely.{Likely}
use Rattle.layer_words.specs.declared.sorts.Likely.TheVariants.{First, Else, Two}
use Rattle.layer_words.specs.declared.operators.Operator.{Operator}
use Rattle.layer_words.specs.declared.operators.Operator.TheVariants as operators
use Rattle.layer_words.specs.declared.sorts.Shape.{Shape}
use Rattle.layer_words.specs.declared.sorts.Shape.TheVariants.{One, Array, Square}
use Rattle.layer_words.specs.declared.sorts.Sort.{Sort}
use Rattle.layer_words.specs.declared.sorts.Sort.TheVariants.{Int, Msg, Part}
use Rattle.layer_ast.specs.Cut.{piece, text_tokens}
use Rattle.layer_ast.specs.Samples.{at}
use Rattle.layer_words.specs.Spelling.{reserved, kinds, symbols}
use Rattle.layer_ast.specs.Cut.{word_token, symbol_at}
use Rattle.layer_ast.specs.Tree as expected
use Rattle.layer_ast.specs.Tree.{ExpressionTree, number, me, members, ltime, named, element, square, rows, item, size}
use Rattle.layer_ast.specs.Tree.{binary, apply, pick, QueueTree, queue, queue_at, MessageTree, bare, built, nothing}
use Rattle.layer_ast.specs.Tree.{held, tail, join, ArgumentTree, value, content, NamesTree, ArgumentsTree, PoppedTree}
use Rattle.layer_ast.specs.Tree.{PushedTree, SizeTree, fixed, sized, StatementTree, bind, set, set_square, push, when}
use Rattle.layer_ast.specs.Tree.{choose, each, emit, StatementTrees, none, more, Expected, HandlerTree, ItemTree}
use Rattle.layer_ast.specs.Tree.{ItemsTree, DeclarationTree, param, int, rows_cell, rows_array, header, LayerTree}
use Rattle.layer_ast.specs.Tree.{GivenTree, PlaceTree, FileTree}

-- the token at an index, and its word, number, kind, name and size, where it is one
abbrev nth : ℕ → List Lexed → Lexed
nth i ls = get_or ls i record { token = token.Number 0; at = at 0 0 }

abbrev word_of : Token → List ℕ
word_of (token.Name word) = word
word_of _ = []

abbrev number_of : Token → ℕ
number_of (token.Number v) = v
number_of _ = 0

abbrev kind_of : Token → Kind
kind_of (token.Kind k) = k
kind_of _ = Cast

abbrev name : ℕ → List Lexed → Name
name i ls = record { at = (nth i ls).at; word = word_of (nth i ls).token }

abbrev size_of : Lexed → Token → SizeTree
size_of l (token.Number v) = fixed l.at v
size_of l _ = sized record { at = l.at; word = word_of l.token }

-- what one token says: an operator, a sort, an ending, how likely a condition is
abbrev operator_of : Token → Operator
operator_of (token.Sign sign.Plus) = operators.Add
operator_of (token.Sign sign.Minus) = operators.Subtract
operator_of (token.Sign sign.Star) = operators.Multiply
operator_of (token.Sign sign.Equal) = operators.Equal
operator_of (token.Sign sign.NotEqual) = operators.NotEqual
operator_of (token.Sign sign.Less) = operators.Less
operator_of (token.Sign sign.LessEqual) = operators.LessOrEqual
operator_of (token.Sign sign.Greater) = operators.Greater
operator_of (token.Sign sign.GreaterEqual) = operators.GreaterOrEqual
operator_of (token.Sign sign.And) = operators.And
operator_of (token.Sign sign.Or) = operators.Or
operator_of (token.Sign sign.Ampersand) = operators.BitAnd
operator_of (token.Sign sign.Bar) = operators.BitOr
operator_of _ = operators.BitXor

abbrev sort_of : Token → Sort
sort_of (token.Sign sign.Msg) = Msg
sort_of (token.Sign sign.Part) = Part
sort_of _ = Int

abbrev ending_of : Token → Ending
ending_of (token.Sign sign.Ends) = Ends
ending_of _ = Passes

abbrev likely_of : Token → Likely
likely_of (token.Sign sign.Rare) = Else
likely_of (token.Sign sign.Two) = Two
likely_of _ = First

abbrev past_likely : Token → ℕ
past_likely (token.Sign sign.Rare) = 1
past_likely (token.Sign sign.Two) = 1
past_likely _ = 0

abbrev is_close : Token → Bool
is_close (token.Sign sign.RightParen) = true
is_close _ = false

abbrev is_name : Token → Bool
is_name (token.Name _) = true
is_name _ = false

-- the names before the next closing parenthesis, and what stands after that
abbrev listed : List Lexed → List Name
listed ls = map (λ l. record { at = l.at; word = word_of l.token })
    (filter (λ l. is_name l.token) (take_while (λ l. not (is_close l.token)) ls))

abbrev past : List Lexed → List Lexed
past ls = drop (prefix_len (λ l. not (is_close l.token)) ls + 1) ls

abbrev some_names : List Name → Option NamesTree
some_names [] = None
some_names (n ∷ ns) = Some record { first = n; rest = ns }

abbrev names : List Name → NamesTree
names [] = record { first = name 0 []; rest = [] }
names (n ∷ ns) = record { first = n; rest = ns }

abbrev some_arguments : List ArgumentTree → Option ArgumentsTree
some_arguments [] = None
some_arguments (a ∷ rest) = Some record { first = a; rest = rest }

abbrev arguments : List ArgumentTree → ArgumentsTree
arguments [] = record { first = value (number (at 0 0) 0); rest = [] }
arguments (a ∷ rest) = record { first = a; rest = rest }

-- a queue, a cell and an assignment, by the indexes after their name
abbrev queue_of : Name → Option ExpressionTree → QueueTree
queue_of n None = queue n
queue_of n (Some i) = queue_at n i

abbrev cell_of : Name → Option ExpressionTree → Option ExpressionTree → ExpressionTree
cell_of n None _ = named n
cell_of n (Some i) None = element n i
cell_of n (Some i) (Some j) = square n i j

abbrev set_of : At → Name → Option ExpressionTree → Option ExpressionTree → ExpressionTree → StatementTree
set_of p n (Some i) (Some j) v = set_square p n i j v
set_of p n i _ v = set p n i v

abbrev Then : Type 0 → Type 0
Then X = X → List Lexed → FileTree

abbrev mutual
  -- expressions
  expression : ℕ → List Lexed → Then ExpressionTree → FileTree
  expression (suc f) ls k = expression_at f (nth 0 ls).token (nth 0 ls).at (drop 1 ls) k
  expression zero ls k = k (number (at 0 0) 0) []

  expression_at : ℕ → Token → At → List Lexed → Then ExpressionTree → FileTree
  expression_at (suc f) (token.Number v) p ls k = k (number p v) ls
  expression_at (suc f) (token.Name w) p ls k =
      index f (nth 0 ls).token ls
      (λ i more. index f (nth 0 more).token more (λ j rest. k (cell_of record { at = p; word = w } i j) rest))
  expression_at (suc f) (token.Sign sign.Me) p ls k = k (me p) ls
  expression_at (suc f) (token.Sign sign.N) p ls k = k (members p) ls
  expression_at (suc f) (token.Sign sign.Ltime) p ls k = k (ltime p) ls
  expression_at (suc f) (token.Sign sign.Len) p ls k = a_queue f (drop 1 ls) (λ q rest. k (rows p q) (drop 1 rest))
  expression_at (suc f) (token.Sign sign.AtRow) p ls k =
      a_queue f (drop 1 ls)
      (λ q more. expression f (drop 1 more) (λ row rest. k (item p q row (name 2 rest)) (drop 3 rest)))
  expression_at (suc f) (token.Sign sign.Size) p ls k = message f (drop 1 ls) (λ m rest. k (size p m) (drop 1 rest))
  expression_at (suc f) (token.Sign sign.LeftParen) p ls k =
      expression f ls (λ a more.
      expression f (drop 1 more) (λ b rest. k (binary p a (operator_of (nth 0 more).token) b) (drop 1 rest)))
  expression_at (suc f) (token.Sign sign.Not) p ls k = applied f Not p ls k
  expression_at (suc f) (token.Sign sign.Bit) p ls k = applied f Bit p ls k
  expression_at (suc f) (token.Sign sign.Count) p ls k = applied f Count p ls k
  expression_at (suc f) (token.Sign sign.Lowest) p ls k = applied f Lowest p ls k
  expression_at (suc f) (token.Sign sign.Pick) p ls k =
      expression f (drop 1 ls) (λ a more. expression f (drop 1 more) (λ b last. expression f (drop 1 last) (λ c rest.
      k (pick p a b c) (drop 1 rest))))
  expression_at _ _ p ls k = k (number p 0) ls

  applied : ℕ → Function → At → List Lexed → Then ExpressionTree → FileTree
  applied (suc f) g p ls k = expression f (drop 1 ls) (λ e rest. k (apply p g e) (drop 1 rest))
  applied zero g p ls k = k (number p 0) ls

  index : ℕ → Token → List Lexed → Then (Option ExpressionTree) → FileTree
  index (suc f) (token.Sign sign.LeftBracket) ls k = expression f (drop 1 ls) (λ e rest. k (Some e) (drop 1 rest))
  index _ _ ls k = k None ls

  a_queue : ℕ → List Lexed → Then QueueTree → FileTree
  a_queue (suc f) ls k = index f (nth 1 ls).token (drop 1 ls) (λ i rest. k (queue_of (name 0 ls) i) rest)
  a_queue zero ls k = k (queue (name 0 ls)) ls

  -- messages: what isn't built is a bare name
  message : ℕ → List Lexed → Then MessageTree → FileTree
  message (suc f) ls k = message_at f (nth 0 ls).token (nth 0 ls).at ls (drop 1 ls) k
  message zero ls k = k (bare (name 0 ls)) ls

  message_at : ℕ → Token → At → List Lexed → List Lexed → Then MessageTree → FileTree
  message_at (suc f) (token.Sign sign.Nothing) p whole ls k = k (built (nothing p)) ls
  message_at (suc f) (token.Sign sign.Held) p whole ls k =
      a_queue f (drop 1 ls) (λ q more. expression f (drop 1 more) (λ row rest. k (built (held p q row)) (drop 1 rest)))
  message_at (suc f) (token.Sign sign.Cut) p whole ls k =
      message f (drop 1 ls) (λ m more. expression f (drop 1 more) (λ a last. expression f (drop 1 last) (λ b rest.
      k (built (expected.cut p m a b)) (drop 1 rest))))
  message_at (suc f) (token.Sign sign.Tail) p whole ls k =
      message f (drop 1 ls) (λ m more. expression f (drop 1 more) (λ a rest. k (built (tail p m a)) (drop 1 rest)))
  message_at (suc f) (token.Sign sign.Join) p whole ls k =
      message f (drop 1 ls) (λ m more. message f (drop 1 more) (λ o rest. k (built (join p m o)) (drop 1 rest)))
  message_at _ _ p whole ls k = k (bare (name 0 whole)) ls

-- arguments up to a closing parenthesis
abbrev argument : ℕ → List Lexed → Then ArgumentTree → MessageTree → List Lexed → FileTree
argument f ls k (built b) rest = k (content b) rest
argument f ls k (bare _) rest = expression f ls (λ e rest. k (value e) rest)

abbrev mutual
  several : ℕ → List Lexed → Then (List ArgumentTree) → FileTree
  several (suc f) ls k = several_at f (nth 0 ls).token ls k
  several zero ls k = k [] ls

  several_at : ℕ → Token → List Lexed → Then (List ArgumentTree) → FileTree
  several_at (suc f) (token.Sign sign.RightParen) ls k = k [] (drop 1 ls)
  several_at (suc f) (token.Sign sign.Comma) ls k = several f (drop 1 ls) k
  several_at (suc f) _ ls k =
      message f ls (argument f ls (λ a more. several f more (λ more_of rest. k (a ∷ more_of) rest)))
  several_at zero _ ls k = k [] ls

-- what an emission puts on
abbrev pushed : ℕ → Token → List Lexed → Then (Option PushedTree) → FileTree
pushed f (token.Sign sign.With) ls k =
    several f (drop 3 ls) (λ es rest. k (Some record { name = name 1 ls; fields = some_arguments es }) rest)
pushed f _ ls k = k None ls

abbrev mutual
  -- the statements of a block up to its closing brace
  statements : ℕ → List Lexed → Then StatementTrees → FileTree
  statements (suc f) ls k = statement f (nth 0 ls).token (nth 0 ls).at (drop 1 ls) k
  statements zero ls k = k none []

  statement : ℕ → Token → At → List Lexed → Then StatementTrees → FileTree
  statement (suc f) (token.Sign sign.Let) p ls k =
      expression f (drop 2 ls) (λ e rest. following f (bind p (name 0 ls) e) (drop 1 rest) k)
  statement (suc f) (token.Sign sign.Set) p ls k =
      index f (nth 1 ls).token (drop 1 ls) (λ i more. index f (nth 0 more).token more (λ j last.
      expression f (drop 1 last) (λ e rest. following f (set_of p (name 0 ls) i j e) (drop 1 rest) k)))
  statement (suc f) (token.Sign sign.Push) p ls k =
      a_queue f ls (λ q more. several f (drop 1 more) (λ es last. statements f (drop 2 last) (λ b rest.
      following f (push p q (arguments es) b) rest k)))
  statement (suc f) (token.Sign sign.Take) p ls k =
      a_queue f ls (λ q more. statements f (drop 1 (past more)) (λ a last. statements f (drop 2 last) (λ b rest.
      following f (expected.take p q (names (listed more)) a b) rest k)))
  statement (suc f) (token.Sign sign.If) p ls k =
      expression f (drop (past_likely (nth 0 ls).token) ls) (λ e more. statements f (drop 1 more) (λ a rest.
      otherwise f (nth 0 rest).token p (likely_of (nth 0 ls).token) e a rest k))
  statement (suc f) (token.Sign sign.Each) p ls k =
      expression f (drop 2 ls) (λ e more. statements f (drop 3 more) (λ b rest.
      following f (each p (name 0 ls) e (size_of (nth 1 more) (nth 1 more).token) b) rest k))
  statement (suc f) (token.Sign sign.Up) p ls k = emission f Up p ls k
  statement (suc f) (token.Sign sign.Down) p ls k = emission f Down p ls k
  statement _ _ p ls k = k none ls

  otherwise : ℕ → Token → At → Likely → ExpressionTree → StatementTrees → List Lexed → Then StatementTrees → FileTree
  otherwise (suc f) (token.Sign sign.Else) p l e a ls k =
      statements f (drop 2 ls) (λ b rest. following f (choose p l e a b) rest k)
  otherwise (suc f) _ p l e a ls k = following f (when p l e a) ls k
  otherwise zero _ p l e a ls k = k none ls

  emission : ℕ → Dir → At → List Lexed → Then StatementTrees → FileTree
  emission (suc f) d p ls k =
      several f (drop 2 ls) (λ es more. pushed f (nth 0 more).token more (λ h rest.
      following f (emit p d (kind_of (nth 0 ls).token) (arguments es) h) (drop 1 rest) k))
  emission zero d p ls k = k none ls

  following : ℕ → StatementTree → List Lexed → Then StatementTrees → FileTree
  following (suc f) s ls k = statements f ls (λ b rest. k (more s b) rest)
  following zero s ls k = k none ls

-- a handler's header and when it is predicted
abbrev popped : ℕ → Token → List Lexed → Then (Option PoppedTree) → FileTree
popped f (token.Sign sign.With) ls k = k (Some record { name = name 1 ls; fields = some_names (listed (drop 3 ls)) })
    (past ls)
popped f _ ls k = k None ls

abbrev predicted : ℕ → Token → List Lexed → Then Expected → FileTree
predicted f (token.Sign sign.Common) ls k = expression f (drop 1 ls) (λ e rest. k (expected.common e) rest)
predicted f (token.Sign sign.Rare) ls k = k expected.rare (drop 1 ls)
predicted f _ ls k = k expected.always ls

abbrev mutual
  -- handlers up to the layer's closing brace
  handlers : ℕ → List Lexed → Then (List HandlerTree) → FileTree
  handlers (suc f) ls k = handler f (nth 0 ls).token ls k
  handlers zero ls k = k [] ls

  handler : ℕ → Token → List Lexed → Then (List HandlerTree) → FileTree
  handler (suc f) (token.Sign sign.Up) ls k = handles f Up ls k
  handler (suc f) (token.Sign sign.Down) ls k = handles f Down ls k
  handler _ _ ls k = k [] (drop 1 ls)

  handles : ℕ → Dir → List Lexed → Then (List HandlerTree) → FileTree
  handles (suc f) d ls k =
      popped f (nth 0 (past ls)).token (past ls) (λ h more. predicted f (nth 0 more).token more (λ e last.
      statements f (drop 1 last) (λ b following. handlers f following (λ hs rest. k (record {
        at = (nth 0 ls).at;
        direction = d;
        kind = kind_of (nth 1 ls).token;
        names = names (listed ls);
        popped = h;
        expected = e;
        block = b;
      } ∷ hs) rest))))
  handles zero d ls k = k [] ls

-- items up to a closing parenthesis
abbrev items_from : List Lexed → List ItemTree
items_from (n ∷ _ ∷ s ∷ _ ∷ ls) = record { name = name 0 (n ∷ []); sort = sort_of s.token } ∷ items_from ls
items_from _ = []

abbrev items_of : List ItemTree → ItemsTree
items_of [] = record { first = record { name = name 0 []; sort = Int }; rest = [] }
items_of (i ∷ rest) = record { first = i; rest = rest }

abbrev items : List Lexed → ItemsTree
items ls = items_of (items_from (take (prefix_len (λ l. not (is_close l.token)) ls + 1) ls))

-- the shape of a cell of numbers, and how many tokens say it
abbrev shape_of : Token → Token → Shape
shape_of (token.Sign sign.LeftBracket) (token.Sign sign.Star) = Square
shape_of (token.Sign sign.LeftBracket) _ = Array
shape_of _ _ = One

abbrev shape_tokens : Shape → ℕ
shape_tokens Square = 5
shape_tokens Array = 3
shape_tokens One = 0

-- an initial value
abbrev initial : ℕ → Token → List Lexed → Then (Option ExpressionTree) → FileTree
initial f (token.Sign sign.Assign) ls k = expression f (drop 1 ls) (λ e rest. k (Some e) rest)
initial f _ ls k = k None ls

-- a cell of rows, whose capacity stands after one bracket, or after that of an array
abbrev rows_of : Token → At → List Lexed → DeclarationTree
rows_of (token.Sign sign.N) p ls = rows_array p (name 2 ls) (size_of (nth 7 ls) (nth 7 ls).token) (items (drop 11 ls))
rows_of _ p ls = rows_cell p (name 2 ls) (size_of (nth 4 ls) (nth 4 ls).token) (items (drop 8 ls))

abbrev mutual
  -- declarations up to what is none
  declarations : ℕ → List Lexed → Then (List DeclarationTree) → FileTree
  declarations (suc f) ls k = declaration f (nth 0 ls).token (nth 1 ls).token (nth 0 ls).at ls k
  declarations zero ls k = k [] ls

  declaration : ℕ → Token → Token → At → List Lexed → Then (List DeclarationTree) → FileTree
  declaration (suc f) (token.Sign sign.Param) _ p ls k =
      declared f (param p (name 1 ls) (number_of (nth 3 ls).token)) (drop 5 ls) k
  declaration (suc f) (token.Sign sign.State) (token.Sign sign.Queue) p ls k =
      declared f (rows_of (nth 4 ls).token p ls) (drop 1 (past ls)) k
  declaration (suc f) (token.Sign sign.State) _ p ls k =
      let shape = shape_of (nth 3 ls).token (nth 5 ls).token in
      let following = drop (3 + shape_tokens shape) ls in
      initial f (nth 0 following).token following (λ e rest. declared f (int p (name 2 ls) shape e) (drop 1 rest) k)
  declaration (suc f) (token.Sign sign.Header) _ p ls k =
      declared f (header p (name 1 ls) (some_names (listed (drop 3 ls))) (ending_of (nth 0 (past ls)).token))
      (drop 2 (past ls)) k
  declaration _ _ _ p ls k = k [] ls

  declared : ℕ → DeclarationTree → List Lexed → Then (List DeclarationTree) → FileTree
  declared (suc f) d ls k = declarations f ls (λ ds rest. k (d ∷ ds) rest)
  declared zero d ls k = k [] ls

-- the params that a place gives
abbrev given_from : List Lexed → List GivenTree
given_from (_ ∷ n ∷ _ ∷ v ∷ ls) = record { name = name 0 (n ∷ []); value = number_of v.token } ∷ given_from ls
given_from _ = []

abbrev given_of : Token → List Lexed → List GivenTree
given_of (token.Sign sign.LeftParen) ls = given_from (take (prefix_len (λ l. not (is_close l.token)) ls) ls)
given_of _ ls = []

abbrev after_place : Token → List Lexed → List Lexed
after_place (token.Sign sign.LeftParen) ls = drop 1 (past ls)
after_place _ ls = drop 1 ls

abbrev mutual
  -- the places of a stack
  places : ℕ → List Lexed → List PlaceTree
  places (suc f) ls = place f (nth 0 ls).token ls
  places zero ls = []

  place : ℕ → Token → List Lexed → List PlaceTree
  place (suc f) (token.Name _) ls =
      record { name = name 0 ls; given = given_of (nth 1 ls).token (drop 1 ls) } ∷
      places f (after_place (nth 1 ls).token (drop 1 ls))
  place _ _ ls = []

abbrev mutual
  -- the layers of a file, and its stack
  layers : ℕ → List Lexed → List LayerTree → FileTree
  layers (suc f) ls front = layer f (nth 0 ls).token ls front
  layers zero ls front = record { layers = front; places = []; library = [] }

  layer : ℕ → Token → List Lexed → List LayerTree → FileTree
  layer (suc f) (token.Sign sign.Layer) ls front =
      declarations f (drop 3 ls) (λ ds more. handlers f more (λ hs rest.
      layers f rest (front ++ record { at = (nth 0 ls).at; name = name 1 ls; declarations = ds; handlers = hs } ∷ [])))
  layer (suc f) _ ls front = record { layers = front; places = places f (drop 2 ls); library = [] }
  layer zero _ ls front = record { layers = front; places = []; library = [] }

-- the file that a text is guessed to spell, without what the library brings
unfoldable pub file_of : List ℕ → FileTree
unfolding piece reserved kinds word_token symbols symbol_at
file_of text = layers 1000 (text_tokens text).tokens []

-- the layer that a text of one is guessed to spell
abbrev pub layer_of : List ℕ → LayerTree
layer_of text = get_or (file_of text).layers 0 record {
  at = at 0 0;
  name = name 0 [];
  declarations = [];
  handlers =
      [];
}

-- What a token begins. Trees of different forms begin with different tokens, so that a reader can tell them apart at
-- the first one.
use Rattle.std.proofs.Common.{◌≡◌, List, [], ◌∷◌, refl, ap}
use Rattle.layer_words.specs.declared.operators.Function.{Function}
use Rattle.layer_words.specs.declared.operators.Function.TheVariants.{Not, Bit, Count, Lowest}
use Rattle.layer_words.specs.declared.events.Dir.{Dir}
use Rattle.layer_words.specs.declared.events.Dir.TheVariants.{Up, Down}
use Rattle.layer_words.specs.declared.signs.Sign.TheVariants as sign
use Rattle.layer_ast.specs.declared.tokens.Token.{Token}
use Rattle.layer_ast.specs.declared.tokens.Token.TheVariants as token
use Rattle.layer_ast.specs.Print as print
use Rattle.layer_ast.specs.Printed.{Printed}
use Rattle.layer_words.specs.Signs.{direction_sign, function_sign}
use Rattle.layer_ast.specs.Tree as tree
use Rattle.layer_ast.specs.Tree.{ExpressionTree, BuiltTree, StatementTree, DeclarationTree}
use Rattle.grammar_laws.proofs.Together.{Together}

-- what begins: a number or a message that is no bare name, a statement, a declaration, an index, the other way of a
-- condition, or none of these
pub data Form : Type 0 where
  a_number : Form
  a_message : Form
  a_statement : Form
  a_declaration : Form
  an_index : Form
  an_otherwise : Form
  another : Form

-- what a token begins
abbrev pub form_of : Token → Form
form_of (token.Name w) = a_number
form_of (token.Number v) = a_number
form_of (token.Kind k) = another
form_of (token.Sign sign.LeftParen) = a_number
form_of (token.Sign sign.Me) = a_number
form_of (token.Sign sign.N) = a_number
form_of (token.Sign sign.Ltime) = a_number
form_of (token.Sign sign.Len) = a_number
form_of (token.Sign sign.AtRow) = a_number
form_of (token.Sign sign.Size) = a_number
form_of (token.Sign sign.Not) = a_number
form_of (token.Sign sign.Bit) = a_number
form_of (token.Sign sign.Count) = a_number
form_of (token.Sign sign.Lowest) = a_number
form_of (token.Sign sign.Pick) = a_number
form_of (token.Sign sign.Nothing) = a_message
form_of (token.Sign sign.Held) = a_message
form_of (token.Sign sign.Cut) = a_message
form_of (token.Sign sign.Tail) = a_message
form_of (token.Sign sign.Join) = a_message
form_of (token.Sign sign.Let) = a_statement
form_of (token.Sign sign.Set) = a_statement
form_of (token.Sign sign.Push) = a_statement
form_of (token.Sign sign.Take) = a_statement
form_of (token.Sign sign.If) = a_statement
form_of (token.Sign sign.Each) = a_statement
form_of (token.Sign sign.Up) = a_statement
form_of (token.Sign sign.Down) = a_statement
form_of (token.Sign sign.Param) = a_declaration
form_of (token.Sign sign.State) = a_declaration
form_of (token.Sign sign.Header) = a_declaration
form_of (token.Sign sign.LeftBracket) = an_index
form_of (token.Sign sign.Else) = an_otherwise
form_of (token.Sign _) = another

-- what printed tokens begin
abbrev pub begins : List Printed → Form
begins [] = another
begins (p ∷ k) = form_of p.token

-- what goes together begins the same
pub begins_together : (s t : List Printed) → Together s t → begins s ≡ begins t
begins_together [] [] h = refl
begins_together (p ∷ s) (q ∷ t) (e, _, _) = ap form_of e
begins_together [] (q ∷ t) h = absurd h
begins_together (p ∷ s) [] h = absurd h

-- what doesn't continue a name or a queue, as an index does
abbrev pub NoIndex : Form → Type 0
NoIndex an_index = ⊥
NoIndex _ = Unit {0}

-- what follows an expression, which a name may end
abbrev pub Ends : List Printed → Type 0
Ends k = NoIndex (begins k)

-- what doesn't continue a condition, as its other way does
abbrev pub NoOtherwise : Form → Type 0
NoOtherwise an_otherwise = ⊥
NoOtherwise _ = Unit {0}

-- what follows a statement, which may be a condition without another way
abbrev pub Over : List Printed → Type 0
Over k = NoOtherwise (begins k)

function_begins : (f : Function) → form_of (token.Sign (function_sign f)) ≡ a_number
function_begins Not = refl
function_begins Bit = refl
function_begins Count = refl
function_begins Lowest = refl

pub direction_begins : (d : Dir) → form_of (token.Sign (direction_sign d)) ≡ a_statement
direction_begins Up = refl
direction_begins Down = refl

pub expression_begins : (e : ExpressionTree) (k : List Printed) → begins (print.expression e k) ≡ a_number
expression_begins (tree.number at v) k = refl
expression_begins (tree.me at) k = refl
expression_begins (tree.members at) k = refl
expression_begins (tree.ltime at) k = refl
expression_begins (tree.named n) k = refl
expression_begins (tree.element n i) k = refl
expression_begins (tree.square n i j) k = refl
expression_begins (tree.rows at q) k = refl
expression_begins (tree.item at q row label) k = refl
expression_begins (tree.size at m) k = refl
expression_begins (tree.binary at a o b) k = refl
expression_begins (tree.apply at f x) k = function_begins f
expression_begins (tree.pick at c x y) k = refl

pub built_begins : (b : BuiltTree) (k : List Printed) → begins (print.built b k) ≡ a_message
built_begins (tree.nothing at) k = refl
built_begins (tree.held at q row) k = refl
built_begins (tree.cut at m from length) k = refl
built_begins (tree.tail at m from) k = refl
built_begins (tree.join at m n) k = refl

pub statement_begins : (s : StatementTree) (k : List Printed) → begins (print.statement s k) ≡ a_statement
statement_begins (tree.bind at n v) k = refl
statement_begins (tree.set at n i v) k = refl
statement_begins (tree.set_square at n i j v) k = refl
statement_begins (tree.push at q items o) k = refl
statement_begins (tree.take at q ns b o) k = refl
statement_begins (tree.when at l c b) k = refl
statement_begins (tree.choose at l c b o) k = refl
statement_begins (tree.each at n e m b) k = refl
statement_begins (tree.emit at d w es p) k = direction_begins d

pub declaration_begins : (d : DeclarationTree) (k : List Printed) → begins (print.declaration d k) ≡ a_declaration
declaration_begins (tree.param at n v) k = refl
declaration_begins (tree.int at n s v) k = refl
declaration_begins (tree.rows_cell at n c is) k = refl
declaration_begins (tree.rows_array at n c is) k = refl
declaration_begins (tree.header at n fs e) k = refl

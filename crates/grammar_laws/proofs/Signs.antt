-- The sign tells which direction, ending, sort, function or operator it is of.
use Rattle.std.proofs.Common.{◌≡◌, refl, sym, subst}
use Rattle.layer_ast.specs.declared.syntax.Ending.{Ending}
use Rattle.layer_ast.specs.declared.syntax.Ending.TheVariants.{Passes, Ends}
use Rattle.layer_words.specs.declared.operators.Function.{Function}
use Rattle.layer_words.specs.declared.operators.Function.TheVariants.{Not, Bit, Count, Lowest}
use Rattle.layer_words.specs.declared.operators.Operator.{Operator}
use Rattle.layer_words.specs.declared.operators.Operator.TheVariants.{Add, Subtract, Multiply, Equal, NotEqual, Less}
use Rattle.layer_words.specs.declared.operators.Operator.TheVariants.{LessOrEqual, Greater, GreaterOrEqual, And, Or}
use Rattle.layer_words.specs.declared.operators.Operator.TheVariants.{BitAnd}
use Rattle.layer_words.specs.declared.operators.Operator.TheVariants.{BitOr, BitXor}
use Rattle.layer_words.specs.declared.sorts.Sort.{Sort}
use Rattle.layer_words.specs.declared.sorts.Sort.TheVariants.{Int, Msg, Part}
use Rattle.layer_words.specs.declared.events.Dir.{Dir}
use Rattle.layer_words.specs.declared.events.Dir.TheVariants.{Up, Down}
use Rattle.layer_words.specs.declared.signs.Sign.TheVariants as sign
use Rattle.layer_ast.specs.declared.tokens.Token.{Token}
use Rattle.layer_ast.specs.declared.tokens.Token.TheVariants as token
use Rattle.layer_words.specs.Signs.{direction_sign, sort_sign, function_sign, operator_sign}
use Rattle.layer_ast.specs.Printed.{ending_sign}
use Rattle.grammar_laws.proofs.Begins.{NoIndex, form_of}

pub direction_once : (d e : Dir) → token.Sign (direction_sign d) ≡ token.Sign (direction_sign e) → d ≡ e
direction_once Up Up h = refl
direction_once Down Down h = refl
direction_once _ _ h = cc h

pub ending_once : (d e : Ending) → token.Sign (ending_sign d) ≡ token.Sign (ending_sign e) → d ≡ e
ending_once Passes Passes h = refl
ending_once Ends Ends h = refl
ending_once _ _ h = cc h

pub sort_once : (d e : Sort) → token.Sign (sort_sign d) ≡ token.Sign (sort_sign e) → d ≡ e
sort_once Int Int h = refl
sort_once Msg Msg h = refl
sort_once Part Part h = refl
sort_once _ _ h = cc h

pub function_once : (f g : Function) → token.Sign (function_sign f) ≡ token.Sign (function_sign g) → f ≡ g
function_once Not Not h = refl
function_once Bit Bit h = refl
function_once Count Count h = refl
function_once Lowest Lowest h = refl
function_once _ _ h = cc h

pub operator_once : (o p : Operator) → token.Sign (operator_sign o) ≡ token.Sign (operator_sign p) → o ≡ p
operator_once Add Add h = refl
operator_once Subtract Subtract h = refl
operator_once Multiply Multiply h = refl
operator_once Equal Equal h = refl
operator_once NotEqual NotEqual h = refl
operator_once Less Less h = refl
operator_once LessOrEqual LessOrEqual h = refl
operator_once Greater Greater h = refl
operator_once GreaterOrEqual GreaterOrEqual h = refl
operator_once And And h = refl
operator_once Or Or h = refl
operator_once BitAnd BitAnd h = refl
operator_once BitOr BitOr h = refl
operator_once BitXor BitXor h = refl
operator_once _ _ h = cc h

-- an operator doesn't continue a name
pub operator_ends : (o : Operator) → NoIndex (form_of (token.Sign (operator_sign o)))
operator_ends Add = tt
operator_ends Subtract = tt
operator_ends Multiply = tt
operator_ends Equal = tt
operator_ends NotEqual = tt
operator_ends Less = tt
operator_ends LessOrEqual = tt
operator_ends Greater = tt
operator_ends GreaterOrEqual = tt
operator_ends And = tt
operator_ends Or = tt
operator_ends BitAnd = tt
operator_ends BitOr = tt
operator_ends BitXor = tt

-- a token that is no function's
abbrev pub NoFunction : Token → Type 0
NoFunction (token.Sign sign.Not) = ⊥
NoFunction (token.Sign sign.Bit) = ⊥
NoFunction (token.Sign sign.Count) = ⊥
NoFunction (token.Sign sign.Lowest) = ⊥
NoFunction _ = Unit {0}

pub no_function : (f : Function) (t : Token) → NoFunction t → token.Sign (function_sign f) ≡ t → ⊥
no_function Not t ok e = subst NoFunction (sym e) ok
no_function Bit t ok e = subst NoFunction (sym e) ok
no_function Count t ok e = subst NoFunction (sym e) ok
no_function Lowest t ok e = subst NoFunction (sym e) ok

-- a token that is no direction's
abbrev pub NoDirection : Token → Type 0
NoDirection (token.Sign sign.Up) = ⊥
NoDirection (token.Sign sign.Down) = ⊥
NoDirection _ = Unit {0}

pub no_direction : (d : Dir) (t : Token) → NoDirection t → token.Sign (direction_sign d) ≡ t → ⊥
no_direction Up t ok e = subst NoDirection (sym e) ok
no_direction Down t ok e = subst NoDirection (sym e) ok

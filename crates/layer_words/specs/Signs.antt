-- The signs of directions, operators, functions and sorts.
use Rattle.std.specs.Prelude.{ℕ, List, [], ◌∷◌}
use Rattle.layer_words.specs.declared.events.Dir.{Dir}
use Rattle.layer_words.specs.declared.events.Dir.TheVariants.{Up, Down}
use Rattle.layer_words.specs.declared.operators.Function.{Function}
use Rattle.layer_words.specs.declared.operators.Function.TheVariants.{Not, Bit, Count, Lowest}
use Rattle.layer_words.specs.declared.operators.Operator.{Operator}
use Rattle.layer_words.specs.declared.operators.Operator.TheVariants.{Add, Subtract, Multiply, Equal, NotEqual, Less}
use Rattle.layer_words.specs.declared.operators.Operator.TheVariants.{LessOrEqual, Greater, GreaterOrEqual, And, Or}
use Rattle.layer_words.specs.declared.operators.Operator.TheVariants.{BitAnd, BitOr, BitXor}
use Rattle.layer_words.specs.declared.signs.Sign.{Sign}
use Rattle.layer_words.specs.declared.signs.Sign.TheVariants as sign
use Rattle.layer_words.specs.declared.sorts.Sort.{Sort}
use Rattle.layer_words.specs.declared.sorts.Sort.TheVariants.{Int, Msg, Part}
use Rattle.layer_words.specs.Spelling.{sign_text}

-- the word of a direction
abbrev pub direction_sign : Dir → Sign
direction_sign Up = sign.Up
direction_sign Down = sign.Down

-- the directions by their words
abbrev pub directions : List (List ℕ × Dir)
directions = (sign_text (direction_sign Up), Up) ∷ (sign_text (direction_sign Down), Down) ∷ []

-- the word of a sort
abbrev pub sort_sign : Sort → Sign
sort_sign Int = sign.Int
sort_sign Msg = sign.Msg
sort_sign Part = sign.Part

-- the word of a function
abbrev pub function_sign : Function → Sign
function_sign Not = sign.Not
function_sign Bit = sign.Bit
function_sign Count = sign.Count
function_sign Lowest = sign.Lowest

-- the symbol or word of an operator
abbrev pub operator_sign : Operator → Sign
operator_sign Add = sign.Plus
operator_sign Subtract = sign.Minus
operator_sign Multiply = sign.Star
operator_sign Equal = sign.Equal
operator_sign NotEqual = sign.NotEqual
operator_sign Less = sign.Less
operator_sign LessOrEqual = sign.LessEqual
operator_sign Greater = sign.Greater
operator_sign GreaterOrEqual = sign.GreaterEqual
operator_sign And = sign.And
operator_sign Or = sign.Or
operator_sign BitAnd = sign.Ampersand
operator_sign BitOr = sign.Bar
operator_sign BitXor = sign.Caret

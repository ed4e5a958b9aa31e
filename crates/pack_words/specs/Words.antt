-- Operators by their words and symbols.
use Rattle.std.specs.Prelude.{ℕ, List, [], ◌∷◌, bytes_eq, codes, Option, Some, None, if◌then◌else◌}
use Rattle.layer_words.specs.declared.operators.Operator.{Operator}
use Rattle.layer_words.specs.declared.operators.Operator.TheVariants.{Add, Subtract, Multiply, Equal, NotEqual, Less}
use Rattle.layer_words.specs.declared.operators.Operator.TheVariants.{LessOrEqual, Greater, GreaterOrEqual, And, Or}
use Rattle.layer_words.specs.declared.operators.Operator.TheVariants.{BitAnd}
use Rattle.layer_words.specs.declared.operators.Operator.TheVariants.{BitOr, BitXor}

-- What stands beside a word in a table.
abbrev pub by_word : {X : Type 0} → List (List ℕ × X) → List ℕ → Option X
by_word [] word = None
by_word (entry ∷ table) word = if bytes_eq word entry.0 then Some entry.1 else by_word table word

abbrev pub operator_words : List (List ℕ × Operator)
operator_words =
    (codes "+", Add)
    ∷ (codes "-", Subtract)
    ∷ (codes "*", Multiply)
    ∷ (codes "==", Equal)
    ∷ (codes "!=", NotEqual)
    ∷ (codes "<", Less)
    ∷ (codes "<=", LessOrEqual)
    ∷ (codes ">", Greater)
    ∷ (codes ">=", GreaterOrEqual)
    ∷ (codes "and", And)
    ∷ (codes "or", Or)
    ∷ (codes "&", BitAnd)
    ∷ (codes "|", BitOr)
    ∷ (codes "^", BitXor)
    ∷ []

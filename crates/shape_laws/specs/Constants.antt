-- That what is drawn as constant is so.
use Rattle.std.specs.Prelude.{◌≡◌, ℕ, Some}
use Rattle.layer_mean.specs.Tree.{ExpressionTree}
use Rattle.layer_mean.specs.State.{State}
use Rattle.layer_mean.specs.Value.{Scope, val}
use Rattle.stack_mean.specs.Drawn.{constant_of}

-- A constant expression is worth its number at every state and in every scope.
abbrev pub ConstantsAreValues : Type 0
ConstantsAreValues = (e : ExpressionTree) (n : ℕ) (s : State) (l : Scope) → constant_of e ≡ Some n → val e s l ≡ n

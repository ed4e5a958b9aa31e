-- What may be answered for a stack.
use Rattle.std.specs.Prelude.{◌≡◌, List, Result, Ok, Err}
use Rattle.layer_mean.specs.Tree.{LayerTree}
use Rattle.stack_mean.specs.Acceptance.{acceptance, cycle, too_many, too_many_joins}
use Rattle.typed_layer.specs.Places.{typed_tree}
use Rattle.stack_judge.specs.declared.error.StackError.{StackError}
use Rattle.stack_judge.specs.declared.error.StackError.TheVariants.{Cycle, TooMany, TooManyJoins, Memory}
use Rattle.stack_judge.specs.declared.stack.Stack.{Stack}

-- The layers of an accepted stack, lowest first.
abbrev pub stack_tree : Stack → List LayerTree
stack_tree s = typed_tree s.typed

-- The answer for a stack: this very stack where it is accepted, the very refusal that the definition gives, or want of
-- memory.
abbrev pub IsAnswer : List LayerTree → Result Stack StackError → Type 0
IsAnswer stack (Ok s) = (stack_tree s ≡ stack) × (acceptance stack ≡ Ok stack)
IsAnswer stack (Err (Cycle place kind)) = acceptance stack ≡ Err (cycle place kind)
IsAnswer stack (Err (TooMany weight)) = acceptance stack ≡ Err (too_many weight)
IsAnswer stack (Err TooManyJoins) = acceptance stack ≡ Err too_many_joins
IsAnswer stack (Err Memory) = Unit {0}

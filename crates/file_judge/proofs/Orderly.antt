-- The stack that a file without faults means is orderly.
use Rattle.std.proofs.Common.{ℕ, List, subst, sym}
use Rattle.layer_mean.specs.Tree.{LayerTree}
use Rattle.weight_laws.specs.Orderly.{IsOrderly}
use Rattle.chain_laws.proofs.Orderly.{typed_is_orderly}
use Rattle.file_mean.specs.Stack.{stack_of}
use Rattle.file_laws.proofs.Texts.{texts_are_typed}
use Rattle.file_judge.specs.Answer.{IsStackOf}

pub stack_is_orderly : (text : List ℕ) (stack : List LayerTree) → IsStackOf text stack → IsOrderly stack
stack_is_orderly text stack s =
    subst IsOrderly (sym s.means)
    (typed_is_orderly (stack_of s.file) (texts_are_typed text s.file s.is_file s.faultless))

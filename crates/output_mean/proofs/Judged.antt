-- What a file without faults is judged to mean.
use Rattle.std.proofs.Common.{◌≡◌, Bool, true, false, List, Option, Some, None, refl}
use Rattle.std.specs.Prelude.{if◌then◌else◌, nat_lt, Ok, Err}
use Rattle.layer_ast.specs.Tree.{FileTree}
use Rattle.layer_mean.specs.Tree.{LayerTree}
use Rattle.fault_mean.specs.Faults as faults
use Rattle.fault_mean.specs.FileFault.{file_fault}
use Rattle.file_mean.specs.Stack.{stack_of}
use Rattle.stack_mean.specs.Acceptance.{acceptance, too_many, too_many_joins, held_at_most, without_cycle}
use Rattle.stack_mean.specs.Acceptance.{largest_weight}
use Rattle.stack_mean.specs.Acceptance.{largest_joins, weight_limit, joins_limit}
use Rattle.stack_mean.specs.Graph.{Node, first_on_cycle}
use Rattle.output_mean.specs.Judged.{judged_by, said_accepted}

-- an accepted stack is the one that was judged
accepted_same : (s t : List LayerTree) (o : Option Node) → said_accepted (without_cycle s o) ≡ Ok t →
    (without_cycle s o ≡ Ok s) × (s ≡ t)
accepted_same s t (Some node) is = absurd (cc is)
accepted_same s t None is = heavy (nat_lt weight_limit (largest_weight s)) (nat_lt joins_limit (largest_joins s)) is
  where
    heavy : (a b : Bool) →
        said_accepted (if a then Err (too_many (held_at_most (largest_weight s))) else if b then Err too_many_joins else
        Ok s) ≡ Ok t →
        ((if a then Err (too_many (held_at_most (largest_weight s))) else if b then Err too_many_joins else Ok s) ≡
        Ok s)
        × (s ≡ t)
    heavy true b is = absurd (cc is)
    heavy false true is = absurd (cc is)
    heavy false false is = (refl, cc is)

-- the stack of a file without faults
pub record IsOwn (file : FileTree) (t : List LayerTree) : Type 0 where
  pub faultless : file_fault file ≡ None
  pub accepts : acceptance (stack_of file) ≡ Ok (stack_of file)
  pub is : stack_of file ≡ t

pub own_stack : (file : FileTree) (t : List LayerTree) (fault : Option faults.FileFault) → file_fault file ≡ fault →
    judged_by file fault ≡ Ok t →
    IsOwn file t
own_stack file t (Some fault) found is = absurd (cc is)
own_stack file t None none is =
    let same = accepted_same (stack_of file) t (first_on_cycle (stack_of file)) is in
    record { faultless = none; accepts = same.0; is = same.1 }

-- Tests go on after others, and after one that isn't passed.
use Rattle.std.proofs.Common.{◌≡◌, false, List, [], ◌∷◌, map, refl, sym, ap, ◌∙◌}
use Rattle.std.specs.List.{fold}
use Rattle.layer_mean.specs.State.{State}
use Rattle.trace_mean.specs.Worth.{Input}
use Rattle.guard_mean.specs.Code as code
use Rattle.guard_mean.specs.Code.{prepare, require, require_operand}
use Rattle.guard_mean.specs.Machine.{Tested, tests}
use Rattle.code_make.specs.Trees.{test_tree}
use Rattle.code_make.specs.declared.code.Test.{Test}

module _ (i : Input) (ss : List State) where
  missed_one : (t : Tested) (c : code.Test) → t.passes ≡ false → (tests i ss t c).passes ≡ false
  missed_one t (prepare r) missed = missed
  missed_one t (require r) missed = rw missed refl
  missed_one t (require_operand a) missed = rw missed refl

  -- What isn't passed goes on so.
  missed_all : (cs : List code.Test) (t : Tested) → t.passes ≡ false → (fold (tests i ss) t cs).passes ≡ false
  missed_all [] t missed = missed
  missed_all (c ∷ cs) t missed = missed_all cs (tests i ss t c) (missed_one t c missed)

  -- A test of those that are left.
  module _ (left more : List Test) (d : Test) (now next whole : Tested) (is : left ≡ d ∷ more)
      (so : fold (tests i ss) now (map test_tree left) ≡ whole) (made : tests i ss now (test_tree d) ≡ next) where
    goes_on : fold (tests i ss) next (map test_tree more) ≡ whole
    goes_on = ap (λ t. fold (tests i ss) t (map test_tree more)) (sym made)
        ∙ ap (λ l. fold (tests i ss) now (map test_tree l)) (sym is) ∙ so

    pub misses : next.passes ≡ false → false ≡ whole.passes
    misses missed = sym (ap (λ (t : Tested). t.passes) (sym goes_on) ∙ missed_all (map test_tree more) next missed)

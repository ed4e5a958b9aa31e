-- The first of some tests that isn't passed, where those before it are.
use Rattle.std.proofs.Common.{◌≡◌, ℕ, List, [], ◌∷◌, map, drop, length, refl, sym, ap, ◌∙◌}
use Rattle.std.specs.Prelude.{Option, None}
use Rattle.layer_mean.specs.State.{State}
use Rattle.trace_mean.specs.Worth.{Input, Kept}
use Rattle.guard_mean.specs.Checks.{failing_from}
use Rattle.code_make.specs.Trees.{test_tree}
use Rattle.code_make.specs.declared.code.Test.{Test}

module _ (i : Input) (ss : List State) where
  -- What fails among the tests from number k on.
  abbrev pub failing_at : ℕ → Kept → List Test → Option ℕ
  failing_at k kept xs = failing_from i ss k kept (map test_tree (drop k xs))

  drop_all : (xs : List Test) → drop (length xs) xs ≡ []
  drop_all [] = refl
  drop_all (x ∷ xs) = drop_all xs

  pub none_failing : (xs : List Test) (k : ℕ) (now : Kept) (whole : Option ℕ) → k ≡ length xs →
      whole ≡ failing_at k now xs → None ≡ whole
  none_failing xs k now whole end so =
      sym (so ∙ ap (λ l. failing_from i ss k now (map test_tree l)) (ap (λ n. drop n xs) end ∙ drop_all xs))

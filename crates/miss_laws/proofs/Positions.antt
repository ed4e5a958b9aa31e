-- The first item of a list that doesn't pass a test.
use Rattle.std.proofs.Common.{◌≡◌, ◌∙◌, ℕ, suc, ◌+◌, Bool, true, false, ◌&&◌, List, [], ◌∷◌, ◌++◌, length, Option, Some}
use Rattle.std.proofs.Common.{None, refl, ap, arith}
use Rattle.std.specs.Prelude.{not, cond}
use Rattle.std.specs.List.{list_all, position_from}

module _ {A : Type 0} (p : A → Bool) where
  abbrev pub failed_from : ℕ → List A → Option ℕ
  failed_from n xs = position_from (λ x. not (p x)) n xs

  -- none where all pass
  pub none_failed : (xs : List A) (n : ℕ) → list_all p xs ≡ true → failed_from n xs ≡ None
  none_failed [] n all = refl
  none_failed (x ∷ xs) n all = go (p x) all (none_failed xs (n + 1)) where
    go : (b : Bool) → (b && list_all p xs) ≡ true → (list_all p xs ≡ true → failed_from (n + 1) xs ≡ None) →
        cond (not b) (Some n) (failed_from (n + 1) xs) ≡ None
    go true all rest = rest all
    go false all rest = absurd (cc all)

  -- the last one, where all before it pass and with it not all do
  pub last_failed : (xs : List A) (x : A) (n : ℕ) → list_all p xs ≡ true → list_all p (xs ++ x ∷ []) ≡ false →
      failed_from n (xs ++ x ∷ []) ≡ Some (n + length xs)
  last_failed [] x n all not_all = go (p x) not_all where
    go : (b : Bool) → (b && true) ≡ false → cond (not b) (Some n) None ≡ Some (n + 0)
    go true is = absurd (cc is)
    go false is = let here : n ≡ n + 0 = omega arith in ap Some here
  last_failed (y ∷ ys) x n all not_all = go (p y) all not_all (last_failed ys x (n + 1)) where
    go : (b : Bool) → (b && list_all p ys) ≡ true → (b && list_all p (ys ++ x ∷ [])) ≡ false →
        (list_all p ys ≡ true → list_all p (ys ++ x ∷ []) ≡ false → failed_from (n + 1) (ys ++ x ∷ []) ≡
        Some (n + 1 + length ys)) →
        cond (not b) (Some n) (failed_from (n + 1) (ys ++ x ∷ [])) ≡ Some (n + suc (length ys))
    go true all not_all rest = let there : n + 1 + length ys ≡ n + suc (length ys) = omega arith in rest all not_all ∙
        ap Some there
    go false all not_all rest = absurd (cc all)

  -- the first is the first of a longer list
  pub first_stays : (xs ys : List A) (n k : ℕ) → failed_from n xs ≡ Some k → failed_from n (xs ++ ys) ≡ Some k
  first_stays [] ys n k is = absurd (cc is)
  first_stays (x ∷ xs) ys n k is = go (p x) is (first_stays xs ys (n + 1) k) where
    go : (b : Bool) → cond (not b) (Some n) (failed_from (n + 1) xs) ≡ Some k →
        (failed_from (n + 1) xs ≡ Some k → failed_from (n + 1) (xs ++ ys) ≡ Some k) →
        cond (not b) (Some n) (failed_from (n + 1) (xs ++ ys)) ≡ Some k
    go true is rest = rest is
    go false is rest = is

-- Folds and sums over the trees of what a loop has gone through.
use Rattle.std.proofs.Common.{◌≡◌, ℕ, zero, suc, ◌+◌, ◌<◌, ◌≤◌, List, [], ◌∷◌, map, take, get_or, length, refl}
use Rattle.std.proofs.Common.{ap, ◌∙◌, arith, add-one}
use Rattle.std.specs.List.{fold, sum_by}
use Rattle.std.proofs.lemmas.List.Sums.{sum_by-cons}

module _ {A C : Type 0} (tree : A → C) where
  pub fold_next : {B : Type 0} (f : B → C → B) (s : B) (xs : List A) (i : ℕ) (d : A) → i < length xs →
      fold f s (map tree (take (suc i) xs)) ≡ f (fold f s (map tree (take i xs))) (tree (get_or xs i d))
  fold_next f s [] i d lt = absurd (omega arith)
  fold_next f s (x ∷ xs) zero d lt = refl
  fold_next f s (x ∷ xs) (suc i) d lt = fold_next f (f s (tree x)) xs i d (omega arith)

  pub sum_next : (f : C → ℕ) (xs : List A) (i : ℕ) (d : A) → i < length xs →
      sum_by f (map tree (take (i + 1) xs)) ≡ sum_by f (map tree (take i xs)) + f (tree (get_or xs i d))
  sum_next f xs i d lt = ap (λ n. sum_by f (map tree (take n xs))) (add-one i) ∙ fold_next (λ a x. a + f x) 0 xs i d lt

  pub sum_within : (f : C → ℕ) (xs : List A) (i : ℕ) (d : A) → i < length xs →
      sum_by f (map tree (take i xs)) + f (tree (get_or xs i d)) ≤ sum_by f (map tree xs)
  sum_within f [] i d lt = absurd (omega arith)
  sum_within f (x ∷ xs) zero d lt = let first = sum_by-cons f (tree x) (map tree xs) in omega arith
  sum_within f (x ∷ xs) (suc i) d lt = let more = sum_within f xs i d (omega arith) in
      let part = sum_by-cons f (tree x) (map tree (take i xs)) in let whole = sum_by-cons f (tree x) (map tree xs) in
      omega arith

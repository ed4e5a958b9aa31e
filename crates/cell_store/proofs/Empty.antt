-- Queues without rows.
use Rattle.std.proofs.Common.{◌≡◌, ℕ, zero, suc, ◌+◌, ◌-◌, ◌≤◌, List, [], ◌∷◌, ◌++◌, map, length, take, drop, replicate}
use Rattle.std.proofs.Common.{slice_index_or, refl, sym, ap, ◌∙◌, arith}
use Rattle.std.proofs.lemmas.List.{map-append, replicate_more, same_from_push, length_push}
use Rattle.std.specs.declared.alloc.Global.{Global}
use Rattle.std.specs.declared.collections.VecDeque.{VecDeque}
use Rattle.std.specs.VecDeque.{deque_items}
use Rattle.cell_store.specs.Kept.{rows_of}

module _ {A : Type 0} where
  pub none_of_append : (xs ys : List A) → xs ++ ys ≡ [] → (xs ≡ []) × (ys ≡ [])
  none_of_append [] ys none = (refl, none)
  none_of_append (x ∷ xs) ys none = absurd (cc none)

module _ {R : Type 0} where
  -- queues without a row are empty, each of them
  pub each_empty : (qs : List (List R)) → rows_of qs ≡ [] → qs ≡ replicate (length qs) []
  each_empty [] none = refl
  each_empty ([] ∷ qs) none = ap (λ rest. [] ∷ rest) (each_empty qs none)
  each_empty ((row ∷ q) ∷ qs) none = absurd (cc none)

  pub none_in : (n : ℕ) → rows_of {R = R} (replicate n []) ≡ []
  none_in zero = refl
  none_in (suc n) = none_in n

  -- the last of empty rings is empty, and so are those before it
  pub empty_popped : (olds news : List (VecDeque R Global)) (ring : VecDeque R Global) → olds ≡ news ++ ring ∷ [] →
      map deque_items olds ≡ replicate (length olds) [] →
      (map deque_items news ≡ replicate (length news) []) × (deque_items ring ≡ [])
  empty_popped olds news ring split empty =
      let size : length olds ≡ length news + 1 = ap length split ∙ length_push news ring in
      same_from_push _ _ _ _
      (sym (map-append deque_items news (ring ∷ [])) ∙ ap (map deque_items) (sym split) ∙ empty ∙
      ap (λ n. replicate n []) size
      ∙ sym (replicate_more (length news) []))

  -- rings that are empty before a place and from it on are empty
  pub all_empty : (shown : ℕ) (rows : List (List R)) → shown ≤ length rows → rows_of (take shown rows) ≡ [] →
      drop shown rows ≡ replicate (length rows - shown) [] → rows ≡ replicate (length rows) []
  all_empty zero rows within front back =
      let same : length rows - 0 ≡ length rows = omega arith in back ∙ ap (λ n. replicate n []) same
  all_empty (suc n) [] within front back = absurd (omega (arith, within))
  all_empty (suc n) ([] ∷ rows) within front back =
      let same : suc (length rows) - suc n ≡ length rows - n = omega arith in
      ap (λ rest. [] ∷ rest) (all_empty n rows (omega (arith, within)) front (back ∙ ap (λ n. replicate n []) same))
  all_empty (suc n) ((row ∷ q) ∷ rows) within front back = absurd (cc front)

  -- one more queue without a row
  none_next : (qs : List (List R)) (i : ℕ) → rows_of (take i qs) ≡ [] → slice_index_or qs i [] ≡ [] →
      rows_of (take (suc i) qs) ≡ []
  none_next [] i none here = refl
  none_next (q ∷ qs) zero none here = ap (λ front. front ++ []) here
  none_next (q ∷ qs) (suc i) none here = let parts = none_of_append q (rows_of (take i qs)) none in
      ap (λ front. front ++ rows_of (take (suc i) qs)) parts.0 ∙ none_next qs i parts.1 here

  pub none_more : (qs : List (List R)) (i : ℕ) → rows_of (take i qs) ≡ [] → slice_index_or qs i [] ≡ [] →
      rows_of (take (i + 1) qs) ≡ []
  none_more qs i none here = let next : i + 1 ≡ suc i = omega arith in ap (λ n. rows_of (take n qs)) next ∙
      none_next qs i none here

-- What a table of words tells of the things that have them.
use Rattle.std.proofs.Common.{◌≡◌, ℕ, suc, ◌<◌, Bool, true, false, if◌then◌else◌, cond, is_some, List, [], ◌∷◌, map}
use Rattle.std.proofs.Common.{length, slice_get, find, bytes_eq, Option, Some, None, option_map, refl, subst, arith}
use Rattle.file_scope.specs.Words.{place_of}

-- where the words of some things have a word, there is the first thing that has it
pub first_at : {X : Type 0} (word_of : X → List ℕ) (word : List ℕ) (xs : List X) (k : ℕ) →
    place_of word (map word_of xs) ≡ Some k →
    slice_get xs k ≡ find (λ x. bytes_eq (word_of x) word) xs
first_at word_of word [] k is = absurd (cc is)
first_at {X} word_of word (x ∷ xs) k is = go (bytes_eq (word_of x) word) (place_of word (map word_of xs)) k is
    (first_at word_of word xs) where
      go : (b : Bool) (p : Option ℕ) (k : ℕ) → (if b then Some 0 else option_map (λ k. suc k) p) ≡ Some k →
          ((k : ℕ) → p ≡ Some k → slice_get xs k ≡ find (λ x. bytes_eq (word_of x) word) xs) →
          slice_get (x ∷ xs) k ≡ cond b (Some x) (find (λ x. bytes_eq (word_of x) word) xs)
      go true p k is rest = let e : 0 ≡ k = cc is in subst (λ j. slice_get (x ∷ xs) j ≡ Some x) e refl
      go false None k is rest = absurd (cc is)
      go false (Some j) k is rest =
          let e : suc j ≡ k = cc is in subst (λ i. slice_get (x ∷ xs) i ≡ find (λ x. bytes_eq (word_of x) word) xs) e
          (rest j refl)

pub first_nowhere : {X : Type 0} (word_of : X → List ℕ) (word : List ℕ) (xs : List X) → place_of word (map word_of xs) ≡
    None →
    find (λ x. bytes_eq (word_of x) word) xs ≡ None
first_nowhere word_of word [] is = refl
first_nowhere word_of word (x ∷ xs) is =
    go (bytes_eq (word_of x) word) (place_of word (map word_of xs)) is (first_nowhere word_of word xs) where
      go : (b : Bool) (p : Option ℕ) → (if b then Some 0 else option_map (λ k. suc k) p) ≡ None →
          (p ≡ None → find (λ x. bytes_eq (word_of x) word) xs ≡ None) →
          cond b (Some x) (find (λ x. bytes_eq (word_of x) word) xs) ≡ None
      go true p is rest = absurd (cc is)
      go false None is rest = rest refl
      go false (Some j) is rest = absurd (cc is)

pub first_there : {X : Type 0} (word_of : X → List ℕ) (word : List ℕ) (xs : List X) (k : ℕ) →
    place_of word (map word_of xs) ≡ Some k →
    is_some (find (λ x. bytes_eq (word_of x) word) xs) ≡ true
first_there word_of word [] k is = absurd (cc is)
first_there word_of word (x ∷ xs) k is =
    go (bytes_eq (word_of x) word) (place_of word (map word_of xs)) k is (first_there word_of word xs) where
      go : (b : Bool) (p : Option ℕ) (k : ℕ) → (if b then Some 0 else option_map (λ k. suc k) p) ≡ Some k →
          ((k : ℕ) → p ≡ Some k → is_some (find (λ x. bytes_eq (word_of x) word) xs) ≡ true) →
          is_some (cond b (Some x) (find (λ x. bytes_eq (word_of x) word) xs)) ≡ true
      go true p k is rest = refl
      go false None k is rest = absurd (cc is)
      go false (Some j) k is rest = rest j refl

pub place_within : (word : List ℕ) (words : List (List ℕ)) (k : ℕ) → place_of word words ≡ Some k → k < length words
place_within word [] k is = absurd (cc is)
place_within word (w ∷ words) k is = go (bytes_eq w word) (place_of word words) k is (place_within word words) where
  go : (b : Bool) (p : Option ℕ) (k : ℕ) → (if b then Some 0 else option_map (λ k. suc k) p) ≡ Some k →
      ((k : ℕ) → p ≡ Some k → k < length words) → k < suc (length words)
  go true p k is rest = let e : 0 ≡ k = cc is in omega (arith, e)
  go false None k is rest = absurd (cc is)
  go false (Some j) k is rest = let e : suc j ≡ k = cc is in let r = rest j refl in omega (arith, e, r)

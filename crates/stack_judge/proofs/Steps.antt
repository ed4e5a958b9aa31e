-- Lists that are gathered step by step.
use Rattle.std.proofs.Common.{◌≡◌, ℕ, zero, suc, ◌+◌, ◌<◌, max, Bool, true, false, Some, None, fold, List, [], ◌∷◌}
use Rattle.std.proofs.Common.{◌++◌, map, flat_map, length, take, get_or, refl, sym, ap, ◌∙◌, append_assoc, append-nil}
use Rattle.std.proofs.Common.{add-one, take-suc, arith}
use Rattle.std.specs.Prelude.{if◌then◌else◌}
use Rattle.std.specs.List.{find, range_with_len}
use Rattle.std.proofs.lemmas.List.{map-append}
use Rattle.std.proofs.lemmas.List.FromFn.{map-range_with_len_more}
use Rattle.std.proofs.lemmas.List.Sums.{fold_push}
use Rattle.stack_mean.specs.Acceptance.{largest}
use Rattle.std.proofs.lemmas.List.Concat.{flat_map-cons}
use Rattle.std.proofs.lemmas.Grind.{flat_map-append}

range_suc : (a n : ℕ) → range_with_len a (suc n) ≡ range_with_len a n ++ (a + n) ∷ []
range_suc a zero = ap (λ (k : ℕ). k ∷ []) (omega arith)
range_suc a (suc n) =
    let last : (a + 1) + n ≡ a + suc n = omega arith in
    ap (λ (ks : List ℕ). a ∷ ks) (range_suc (a + 1) n ∙ ap (λ k. range_with_len (a + 1) n ++ k ∷ []) last)

pub range_more : (n : ℕ) → range_with_len 0 (n + 1) ≡ range_with_len 0 n ++ n ∷ []
range_more n =
    let last : 0 + n ≡ n = omega arith in
    ap (range_with_len 0) (add-one n) ∙ range_suc 0 n ∙ ap (λ k. range_with_len 0 n ++ k ∷ []) last

pub one_taken : {X : Type 0} (xs : List X) (i : ℕ) (x : X) → i < length xs → x ≡ get_or xs i x →
    take (i + 1) xs ≡ take i xs ++ x ∷ []
one_taken xs i x within is =
    ap (λ n. take n xs) (add-one i) ∙ take-suc xs i x within ∙ ap (λ y. take i xs ++ y ∷ []) (sym is)

flat_more : {X B : Type 0} (f : X → List B) (xs : List X) (x : X) → flat_map f (xs ++ x ∷ []) ≡ flat_map f xs ++ f x
flat_more f xs x =
    flat_map-append f xs (x ∷ []) ∙ ap (λ ys. flat_map f xs ++ ys) (flat_map-cons f x [] ∙ append-nil (f x))

-- one turn more of a loop that adds one element for each number
pub number_step : {A B : Type 0} (shown : A → B) (front : List B) (f : ℕ → B) (k : ℕ) (done next : List A) (x : A) →
    map shown done ≡ front ++ map f (range_with_len 0 k) → next ≡ done ++ x ∷ [] → shown x ≡ f k →
    map shown next ≡ front ++ map f (range_with_len 0 (k + 1))
number_step shown front f k done next x so_far more is =
    ap (map shown) more
    ∙ map-append shown done (x ∷ [])
    ∙ (λ i. so_far i ++ is i ∷ [])
    ∙ append_assoc front (map f (range_with_len 0 k)) (f k ∷ [])
    ∙ ap (λ ys. front ++ ys) (sym (ap (map f) (range_more k) ∙ map-append f (range_with_len 0 k) (k ∷ [])))

-- one turn more of a loop that adds a list for each number
pub numbers_step : {B : Type 0} (f : ℕ → List B) (k : ℕ) (done next : List B) →
    done ≡ flat_map f (range_with_len 0 k) → next ≡ done ++ f k → next ≡ flat_map f (range_with_len 0 (k + 1))
numbers_step f k done next so_far more =
    more ∙ ap (λ ys. ys ++ f k) so_far ∙ sym (ap (flat_map f) (range_more k) ∙ flat_more f (range_with_len 0 k) k)

-- one turn more of a loop that adds a list for each element
pub elements_step : {X B : Type 0} (f : X → List B) (xs : List X) (i : ℕ) (d : X) (front done next : List B) →
    i < length xs → done ≡ front ++ flat_map f (take i xs) → next ≡ done ++ f (get_or xs i d) →
    next ≡ front ++ flat_map f (take (i + 1) xs)
elements_step f xs i d front done next within so_far more =
    let taken = ap (λ n. take n xs) (add-one i) ∙ take-suc xs i d within in
    more
    ∙ ap (λ ys. ys ++ f (get_or xs i d)) so_far
    ∙ append_assoc front (flat_map f (take i xs)) (f (get_or xs i d))
    ∙ ap (λ ys. front ++ ys) (sym (ap (flat_map f) taken ∙ flat_more f (take i xs) (get_or xs i d)))

pub largest_more : (f : ℕ → ℕ) (a n : ℕ) → largest (map f (range_with_len a (n + 1))) ≡
    max (largest (map f (range_with_len a n))) (f (a + n))
largest_more f a n =
    ap largest (map-range_with_len_more f a n (a + n) refl) ∙ fold_push max 0 (map f (range_with_len a n)) (f (a + n))

pub fold_more : {B : Type 0} (f : B → ℕ → B) (b : B) (a n : ℕ) → fold f b (range_with_len a (n + 1)) ≡
    f (fold f b (range_with_len a n)) (a + n)
fold_more f b a n = ap (λ k. fold f b (range_with_len a k)) (add-one n) ∙ ap (fold f b) (range_suc a n) ∙
    fold_push f b (range_with_len a n) (a + n)

-- where none before it passes a test, an element that passes is the one that is found
pub found_at : {X Y : Type 0} (f : X → Y) (p : Y → Bool) (xs : List X) (i : ℕ) (d : X) → i < length xs →
    find p (map f (take i xs)) ≡ None → p (f (get_or xs i d)) ≡ true → find p (map f xs) ≡ Some (f (get_or xs i d))
found_at f p [] i d within none passes = absurd (omega arith)
found_at f p (x ∷ xs) zero d within none passes = ap (λ b. if b then Some (f x) else find p (map f xs)) passes
found_at f p (x ∷ xs) (suc i) d within none passes =
    go (p (f x)) none (λ later. found_at f p xs i d (omega arith) later passes) where
      go : (b : Bool) → (if b then Some (f x) else find p (map f (take i xs))) ≡ None →
          (find p (map f (take i xs)) ≡ None → find p (map f xs) ≡ Some (f (get_or xs i d))) →
          (if b then Some (f x) else find p (map f xs)) ≡ Some (f (get_or xs i d))
      go true e later = absurd (cc e)
      go false e later = later e

following : {X Y : Type 0} (f : X → Y) (p : Y → Bool) (d : X) (xs : List X) (i : ℕ) → i < length xs →
    find p (map f (take i xs)) ≡ None → p (f (get_or xs i d)) ≡ false → find p (map f (take (suc i) xs)) ≡ None
following f p d [] i within none fails = absurd (omega arith)
following f p d (x ∷ xs) zero within none fails = ap (λ b. if b then Some (f x) else None) fails
following f p d (x ∷ xs) (suc i) within none fails =
    go (p (f x)) none (λ later. following f p d xs i (omega arith) later fails) where
      go : (b : Bool) → (if b then Some (f x) else find p (map f (take i xs))) ≡ None →
          (find p (map f (take i xs)) ≡ None → find p (map f (take (suc i) xs)) ≡ None) →
          (if b then Some (f x) else find p (map f (take (suc i) xs))) ≡ None
      go true e later = absurd (cc e)
      go false e later = later e

pub none_yet : {X Y : Type 0} (f : X → Y) (p : Y → Bool) (xs : List X) (i : ℕ) (d : X) → i < length xs →
    find p (map f (take i xs)) ≡ None → p (f (get_or xs i d)) ≡ false → find p (map f (take (i + 1) xs)) ≡ None
none_yet f p xs i d within none fails = ap (λ n. find p (map f (take n xs))) (add-one i) ∙ following f p d xs i within
    none fails

pub empty_is : {X : Type 0} (xs : List X) → length xs ≡ 0 → xs ≡ []
empty_is [] none = refl
empty_is (x ∷ xs) none = absurd (omega arith)

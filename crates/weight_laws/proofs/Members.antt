-- Members of lists, and how many of them pass a test.
use Rattle.std.proofs.Common.{◌≡◌, ℕ, ◌+◌, ◌≤◌, ◌<◌, Bool, true, false, List, [], ◌∷◌, ◌++◌, map, length, flat_map}
use Rattle.std.proofs.Common.{refl, sym, ap, ◌∙◌, ◌⊎◌, inl, inr, ⊎_elim, arith}
use Rattle.std.specs.Prelude.{if◌then◌else◌}

-- x is one of a list
abbrev pub In : {A : Type 0} → A → List A → Type 0
In x [] = ⊥
In x (y ∷ ys) = (x ≡ y) ⊎ In x ys

pub in_either : {A : Type 0} (x : A) (xs ys : List A) → In x (xs ++ ys) → In x xs ⊎ In x ys
in_either x [] ys h = inr h
in_either x (y ∷ xs) ys (inl e) = inl (inl e)
in_either x (y ∷ xs) ys (inr h) = ⊎_elim (λ k. inl (inr k)) (λ k. inr k) (in_either x xs ys h)

pub in_left : {A : Type 0} (x : A) (xs ys : List A) → In x xs → In x (xs ++ ys)
in_left x [] ys h = absurd h
in_left x (y ∷ xs) ys (inl e) = inl e
in_left x (y ∷ xs) ys (inr h) = inr (in_left x xs ys h)

pub in_right : {A : Type 0} (x : A) (xs ys : List A) → In x ys → In x (xs ++ ys)
in_right x [] ys h = h
in_right x (y ∷ xs) ys h = inr (in_right x xs ys h)

pub in_map : {A B : Type 0} (f : A → B) (x : A) (xs : List A) → In x xs → In (f x) (map f xs)
in_map f x [] h = absurd h
in_map f x (y ∷ xs) (inl e) = inl (ap f e)
in_map f x (y ∷ xs) (inr h) = inr (in_map f x xs h)

pub in_flat_map : {A B : Type 0} (f : A → List B) (y : B) (x : A) (xs : List A) → In x xs → In y (f x) →
    In y (flat_map f xs)
in_flat_map f y x [] h k = absurd h
in_flat_map f y x (z ∷ xs) (inl e) k = in_left y (f z) (flat_map f xs) (rw e at k)
in_flat_map f y x (z ∷ xs) (inr h) k = in_right y (f z) (flat_map f xs) (in_flat_map f y x xs h k)

-- what a member of a joined list comes from
pub from_flat_map : {A B : Type 0} {C : Type 0} (f : A → List B) (y : B) (xs : List A) →
    ((x : A) → In x xs → In y (f x) → C) → In y (flat_map f xs) → C
from_flat_map f y [] k h = absurd h
from_flat_map f y (x ∷ xs) k h =
    ⊎_elim (k x (inl refl)) (from_flat_map f y xs (λ z m. k z (inr m))) (in_either y (f x) (flat_map f xs) h)

-- what a member of a mapped list comes from
pub from_map : {A B C : Type 0} (f : A → B) (y : B) (xs : List A) → ((x : A) → In x xs → y ≡ f x → C) →
    In y (map f xs) → C
from_map f y [] k h = absurd h
from_map f y (x ∷ xs) k (inl e) = k x (inl refl) e
from_map f y (x ∷ xs) k (inr h) = from_map f y xs (λ z m. k z (inr m)) h

-- how many pass a test
abbrev pub count : {A : Type 0} → (A → Bool) → List A → ℕ
count p [] = 0
count p (x ∷ xs) = (if p x then 1 else 0) + count p xs

one_le : (p q : Bool) → (p ≡ true → q ≡ true) → (if p then 1 else 0) ≤ (if q then 1 else 0)
one_le false q h = omega arith
one_le true q h = rw (h refl) (omega arith)

pub count_le : {A : Type 0} (p q : A → Bool) (xs : List A) → ((x : A) → p x ≡ true → q x ≡ true) →
    count p xs ≤ count q xs
count_le p q [] h = omega arith
count_le p q (x ∷ xs) h = omega (arith, one_le (p x) (q x) (h x), count_le p q xs h)

pub count_less : {A : Type 0} (p q : A → Bool) (z : A) (xs : List A) → ((x : A) → p x ≡ true → q x ≡ true) → In z xs →
    p z ≡ false → q z ≡ true → count p xs < count q xs
count_less p q z [] h m off on = absurd m
count_less p q z (x ∷ xs) h (inl e) off on =
    let here : (if p x then 1 else 0) < (if q x then 1 else 0) =
    rw (ap p (sym e) ∙ off, ap q (sym e) ∙ on) (omega arith) in
    omega (arith, here, count_le p q xs h)
count_less p q z (x ∷ xs) h (inr m) off on = omega (arith, one_le (p x) (q x) (h x), count_less p q z xs h m off on)

at_most_one : (b : Bool) → (if b then 1 else 0) ≤ 1
at_most_one true = omega arith
at_most_one false = omega arith

pub count_at_most : {A : Type 0} (p : A → Bool) (xs : List A) → count p xs ≤ length xs
count_at_most p [] = omega arith
count_at_most p (x ∷ xs) = omega (arith, at_most_one (p x), count_at_most p xs)

pub count_below : {A : Type 0} (p : A → Bool) (z : A) (xs : List A) → In z xs → p z ≡ false → count p xs < length xs
count_below p z [] m off = absurd m
count_below p z (x ∷ xs) (inl e) off =
    let here : ◌≡◌ {A = ℕ} (if p x then 1 else 0) 0 = rw (ap p (sym e) ∙ off) refl in
    omega (arith, here, count_at_most p xs)
count_below p z (x ∷ xs) (inr m) off = omega (arith, at_most_one (p x), count_below p z xs m off)

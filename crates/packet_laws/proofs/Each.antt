-- A fact of each element of a list, by the list's own cases.
use Rattle.std.proofs.Common.{ℕ, zero, suc, ◌<◌, List, [], ◌∷◌, ◌++◌, arith}
use Rattle.std.specs.Prelude.{All, flat_map}

-- P holds of each element
abbrev pub Each : {A : Type 0} → (A → Type 0) → List A → Type 0
Each P [] = Unit {0}
Each P (x ∷ xs) = P x × Each P xs

-- each number, and each byte
abbrev pub Numbers : List ℕ → Type 0
Numbers ns = Each (λ n. n < 4294967296) ns

abbrev pub Bytes : List ℕ → Type 0
Bytes bs = Each (λ b. b < 256) bs

pub each_of_all : {A : Type 0} (P : A → Type 0) (xs : List A) → All P xs → Each P xs
each_of_all P [] h = tt
each_of_all P (x ∷ xs) h = (h 0 x (omega arith), each_of_all P xs (λ k d below. h (suc k) d (omega arith)))

pub all_of_each : {A : Type 0} (P : A → Type 0) (xs : List A) → Each P xs → All P xs
all_of_each P [] h k d below = absurd (omega arith)
all_of_each P (x ∷ xs) h zero d below = h.0
all_of_each P (x ∷ xs) h (suc k) d below = all_of_each P xs h.1 k d (omega arith)

pub each_front : {A : Type 0} (P : A → Type 0) (xs ys : List A) → Each P (xs ++ ys) → Each P xs
each_front P [] ys h = tt
each_front P (x ∷ xs) ys h = (h.0, each_front P xs ys h.1)

pub each_after : {A : Type 0} (P : A → Type 0) (xs ys : List A) → Each P (xs ++ ys) → Each P ys
each_after P [] ys h = h
each_after P (x ∷ xs) ys h = each_after P xs ys h.1

pub each_piece : {A B : Type 0} (P : B → Type 0) (f : A → List B) (xs : List A) → Each P (flat_map f xs) →
    Each (λ x. Each P (f x)) xs
each_piece P f [] h = tt
each_piece P f (x ∷ xs) h =
    (each_front P (f x) (flat_map f xs) h, each_piece P f xs (each_after P (f x) (flat_map f xs) h))

pub each_joined : {A : Type 0} (P : A → Type 0) (xs ys : List A) → Each P xs → Each P ys → Each P (xs ++ ys)
each_joined P [] ys h i = i
each_joined P (x ∷ xs) ys h i = (h.0, each_joined P xs ys h.1 i)

pub each_pieces : {A B : Type 0} (P : B → Type 0) (f : A → List B) (xs : List A) → Each (λ x. Each P (f x)) xs →
    Each P (flat_map f xs)
each_pieces P f [] h = tt
each_pieces P f (x ∷ xs) h = each_joined P (f x) (flat_map f xs) h.0 (each_pieces P f xs h.1)

pub each_so : {A : Type 0} (P Q : A → Type 0) → ((x : A) → P x → Q x) → (xs : List A) → Each P xs → Each Q xs
each_so P Q f [] h = tt
each_so P Q f (x ∷ xs) h = (f x h.0, each_so P Q f xs h.1)

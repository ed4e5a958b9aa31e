-- Lists of trees.
use Rattle.std.proofs.Common.{◌≡◌, ℕ, zero, suc, ◌+◌, ◌<◌, Bool, ◌||◌, List, [], ◌∷◌, ◌++◌, map, take, length, get_or}
use Rattle.std.proofs.Common.{drop, ◌≤◌, arith, slice_get, Some, None, refl, sym, ap, ◌∙◌}
use Rattle.std.specs.List.{list_any}
use Rattle.std.proofs.lemmas.List.{map_more}
use Rattle.std.proofs.lemmas.Option.{slice_get_past, slice_get_read}

-- a test of what is made of each
pub any_map : {X A : Type 0} (tree : X → A) (test : A → Bool) (xs : List X) →
    list_any test (map tree xs) ≡ list_any (λ x. test (tree x)) xs
any_map tree test [] = refl
any_map tree test (x ∷ xs) = ap (λ b. test (tree x) || b) (any_map tree test xs)

-- the first of what is made of each
pub map_take : {X A : Type 0} (tree : X → A) (n : ℕ) (xs : List X) → map tree (take n xs) ≡ take n (map tree xs)
map_take tree zero xs = refl
map_take tree (suc n) [] = refl
map_take tree (suc n) (x ∷ xs) = ap (λ ys. tree x ∷ ys) (map_take tree n xs)

-- the trees of one more element
pub trees_more : {X A : Type 0} (tree : X → A) (xs : List X) (i : ℕ) (x : X) → i < length xs → x ≡ get_or xs i x →
    map tree (take (i + 1) xs) ≡ map tree (take i xs) ++ tree x ∷ []
trees_more tree xs i x within is = map_more tree xs i x within ∙ ap (λ y. map tree (take i xs) ++ tree y ∷ []) (sym is)

-- nothing is beyond the last
pub drop_all : {X : Type 0} (xs : List X) (n : ℕ) → length xs ≤ n → drop n xs ≡ []
drop_all [] zero few = refl
drop_all [] (suc n) few = refl
drop_all (x ∷ xs) zero few = absurd (omega (arith, few))
drop_all (x ∷ xs) (suc n) few = drop_all xs n (omega (arith, few))

-- an element that is there, and one past the end
pub there : {X : Type 0} (xs : List X) (i : ℕ) (x : X) → i < length xs → x ≡ get_or xs i x → Some x ≡ slice_get xs i
there xs i x within is = sym (slice_get_read xs (length xs) i x refl within is)

pub past : {X : Type 0} (xs : List X) (i : ℕ) → length xs ≤ i → None ≡ slice_get xs i
past xs i beyond = sym (slice_get_past xs i beyond)

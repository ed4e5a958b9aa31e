-- Facts of the items of lists, place by place.
use Rattle.std.proofs.Common.{◌≡◌, ℕ, zero, suc, List, [], ◌∷◌, ◌++◌, map, Option, Some, None, refl, subst}
use Rattle.std.specs.Prelude.{IsSomeAnd, replicate, slice_get, slice_index_or, slice_set, take, drop}
use Rattle.std.specs.List.{AllByRecursion, AllZip}
use Rattle.layer_mean.specs.Visit.{with_room}

-- P holds of what is there
abbrev pub Where : {A : Type 0} → (A → Type 0) → Option A → Type 0
Where P None = Unit {0}
Where P (Some x) = P x

-- what holds of the value that is there
pub there : {A C : Type 0} (o : Option A) (P : A → Type 0) → IsSomeAnd o P → ((x : A) → o ≡ Some x → P x → C) → C
there None P h k = absurd h
there (Some x) P h k = k x refl h

pub some_and : {A : Type 0} (o : Option A) (P : A → Type 0) (x : A) → o ≡ Some x → P x → IsSomeAnd o P
some_and o P x is holds = rw is holds

pub where_is : {A : Type 0} (o : Option A) (P : A → Type 0) (x : A) → o ≡ Some x → Where P o → P x
where_is o P x is h = subst (Where P) is h

pub each_where : {A : Type 0} (P : A → Type 0) (xs : List A) (k : ℕ) → AllByRecursion P xs → Where P (slice_get xs k)
each_where P [] k h = tt
each_where P (x ∷ xs) zero h = h.0
each_where P (x ∷ xs) (suc k) h = each_where P xs k h.1

pub each_or : {A : Type 0} (P : A → Type 0) (xs : List A) (k : ℕ) (d : A) → AllByRecursion P xs → P d →
    P (slice_index_or xs k d)
each_or P [] k d h i = i
each_or P (x ∷ xs) zero d h i = h.0
each_or P (x ∷ xs) (suc k) d h i = each_or P xs k d h.1 i

pub each_set : {A : Type 0} (P : A → Type 0) (xs : List A) (k : ℕ) (y : A) → AllByRecursion P xs → P y →
    AllByRecursion P (slice_set xs k y)
each_set P [] k y h i = tt
each_set P (x ∷ xs) zero y h i = (i, h.1)
each_set P (x ∷ xs) (suc k) y h i = (h.0, each_set P xs k y h.1 i)

pub each_change : {A : Type 0} (P : A → Type 0) (xs : List A) (k : ℕ) (y d : A) → AllByRecursion P xs →
    (P (slice_index_or xs k d) → P y) → AllByRecursion P (slice_set xs k y)
each_change P [] k y d h so = tt
each_change P (x ∷ xs) zero y d h so = (so h.0, h.1)
each_change P (x ∷ xs) (suc k) y d h so = (h.0, each_change P xs k y d h.1 so)

pub each_so : {A : Type 0} (P Q : A → Type 0) → ((x : A) → P x → Q x) → (xs : List A) → AllByRecursion P xs →
    AllByRecursion Q xs
each_so P Q f [] h = tt
each_so P Q f (x ∷ xs) h = (f x h.0, each_so P Q f xs h.1)

pub each_map : {A B : Type 0} (P : A → Type 0) (Q : B → Type 0) (f : A → B) → ((x : A) → P x → Q (f x)) →
    (xs : List A) →
    AllByRecursion P xs → AllByRecursion Q (map f xs)
each_map P Q f so [] h = tt
each_map P Q f so (x ∷ xs) h = (so x h.0, each_map P Q f so xs h.1)

pub each_append : {A : Type 0} (P : A → Type 0) (xs ys : List A) → AllByRecursion P xs → AllByRecursion P ys →
    AllByRecursion P (xs ++ ys)
each_append P [] ys h i = i
each_append P (x ∷ xs) ys h i = (h.0, each_append P xs ys h.1 i)

pub each_take : {A : Type 0} (P : A → Type 0) (k : ℕ) (xs : List A) → AllByRecursion P xs → AllByRecursion P (take k xs)
each_take P zero xs h = tt
each_take P (suc k) [] h = tt
each_take P (suc k) (x ∷ xs) h = (h.0, each_take P k xs h.1)

pub each_drop : {A : Type 0} (P : A → Type 0) (k : ℕ) (xs : List A) → AllByRecursion P xs → AllByRecursion P (drop k xs)
each_drop P zero xs h = h
each_drop P (suc k) [] h = tt
each_drop P (suc k) (x ∷ xs) h = each_drop P k xs h.1

pub each_same : {A : Type 0} (P : A → Type 0) (n : ℕ) (x : A) → P x → AllByRecursion P (replicate n x)
each_same P zero x h = tt
each_same P (suc n) x h = (h, each_same P n x h)

pub each_room : {A : Type 0} (P : A → Type 0) (n : ℕ) (d : A) (xs : List A) → P d → AllByRecursion P xs →
    AllByRecursion P (with_room n d xs)
each_room P zero d xs i h = h
each_room P (suc n) d xs i h = each_room P n d (xs ++ d ∷ []) i (each_append P xs (d ∷ []) h (i, tt))

-- two lists, place by place

pub zip_at : {A B : Type 0} (R : A → B → Type 0) (xs : List A) (ys : List B) (k : ℕ) (x : A) (d : B) → AllZip R xs ys →
    slice_get xs k ≡ Some x → R x (slice_index_or ys k d)
zip_at R [] [] k x d h is = absurd (cc is)
zip_at R [] (y ∷ ys) k x d h is = absurd h
zip_at R (x ∷ xs) [] k z d h is = absurd h
zip_at R (x ∷ xs) (y ∷ ys) zero z d h is = let e : x ≡ z = cc is in subst (λ w. R w y) e h.0
zip_at R (x ∷ xs) (y ∷ ys) (suc k) z d h is = zip_at R xs ys k z d h.1 is

pub zip_change : {A B : Type 0} (R : A → B → Type 0) (xs : List A) (ys : List B) (k : ℕ) (y d : B) → AllZip R xs ys →
    ((x : A) → slice_get xs k ≡ Some x → R x (slice_index_or ys k d) → R x y) → AllZip R xs (slice_set ys k y)
zip_change R [] [] k y d h so = tt
zip_change R [] (z ∷ ys) k y d h so = absurd h
zip_change R (x ∷ xs) [] k y d h so = absurd h
zip_change R (x ∷ xs) (z ∷ ys) zero y d h so = (so x refl h.0, h.1)
zip_change R (x ∷ xs) (z ∷ ys) (suc k) y d h so = (h.0, zip_change R xs ys k y d h.1 so)

pub zip_set : {A B : Type 0} (R : A → B → Type 0) (xs : List A) (ys : List B) (k : ℕ) (x : A) (y : B) → AllZip R xs ys →
    R x y →
    AllZip R (slice_set xs k x) (slice_set ys k y)
zip_set R [] [] k x y h i = tt
zip_set R [] (z ∷ ys) k x y h i = absurd h
zip_set R (w ∷ xs) [] k x y h i = absurd h
zip_set R (w ∷ xs) (z ∷ ys) zero x y h i = (i, h.1)
zip_set R (w ∷ xs) (z ∷ ys) (suc k) x y h i = (h.0, zip_set R xs ys k x y h.1 i)

-- x may stand at its place again, where z stood for it, if all that is related to z is related to x
pub zip_back : {A B : Type 0} (R : A → B → Type 0) (xs : List A) (ys : List B) (k : ℕ) (x z : A) →
    slice_get xs k ≡ Some x →
    ((y : B) → R z y → R x y) → AllZip R (slice_set xs k z) ys → AllZip R xs ys
zip_back R [] ys k x z is so h = absurd (cc is)
zip_back R (w ∷ xs) [] zero x z is so h = absurd h
zip_back R (w ∷ xs) [] (suc k) x z is so h = absurd h
zip_back R (w ∷ xs) (y ∷ ys) zero x z is so h = let e : x ≡ w = cc is in (subst (λ v. R v y) e (so y h.0), h.1)
zip_back R (w ∷ xs) (y ∷ ys) (suc k) x z is so h = (h.0, zip_back R xs ys k x z is so h.1)

pub zip_append : {A B : Type 0} (R : A → B → Type 0) (xs : List A) (ys : List B) (x : A) (y : B) → AllZip R xs ys →
    R x y →
    AllZip R (xs ++ x ∷ []) (ys ++ y ∷ [])
zip_append R [] [] x y h i = (i, tt)
zip_append R [] (z ∷ ys) x y h i = absurd h
zip_append R (w ∷ xs) [] x y h i = absurd h
zip_append R (w ∷ xs) (z ∷ ys) x y h i = (h.0, zip_append R xs ys x y h.1 i)

pub zip_room : {A B : Type 0} (R : A → B → Type 0) (n : ℕ) (x : A) (y : B) (xs : List A) (ys : List B) → R x y →
    AllZip R xs ys →
    AllZip R (with_room n x xs) (with_room n y ys)
zip_room R zero x y xs ys i h = h
zip_room R (suc n) x y xs ys i h = zip_room R n x y (xs ++ x ∷ []) (ys ++ y ∷ []) i (zip_append R xs ys x y h i)

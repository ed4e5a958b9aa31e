-- Lists without faults, and what is found in lists.
use Rattle.std.proofs.Common.{◌≡◌, ◌∙◌, ℕ, suc, ◌+◌, ◌<◌, Bool, true, false, List, [], ◌∷◌, ◌++◌, length, map, Option}
use Rattle.std.proofs.Common.{Some, None, refl, ap, subst, arith}
use Rattle.std.specs.Prelude.{flat_map, is_some, if◌then◌else◌, slice_get, zip, option_map}
use Rattle.std.specs.List.{AllByRecursion, AllZip, cons_option, filter, filter_map, find, last_or, position}
use Rattle.std.specs.List.{position_or_len}
use Rattle.std.proofs.lemmas.Bool.{lt-ltb}
use Rattle.fault_mean.specs.Earliest.{unless}
use Rattle.chain_laws.proofs.Lists.{Where}

pub nils : {A : Type 0} (xs ys : List A) → xs ++ ys ≡ [] → (xs ≡ []) × (ys ≡ [])
nils [] ys h = (refl, h)
nils (x ∷ xs) ys h = absurd (cc h)

pub each_nil : {A B : Type 0} (f : A → List B) (xs : List A) → flat_map f xs ≡ [] → AllByRecursion (λ x. f x ≡ []) xs
each_nil f [] h = tt
each_nil f (x ∷ xs) h = let parts = nils (f x) (flat_map f xs) h in (parts.0, each_nil f xs parts.1)

pub map_nil : {A B : Type 0} (f : A → B) (xs : List A) → map f xs ≡ [] → xs ≡ []
map_nil f [] h = refl
map_nil f (x ∷ xs) h = absurd (cc h)

pub unless_nil : {F : Type 0} (b : Bool) (fault : F) → unless b fault ≡ [] → b ≡ true
unless_nil true fault h = refl
unless_nil false fault h = absurd (cc h)

pub each_parts : {A : Type 0} (P : A → Type 0) (xs ys : List A) → AllByRecursion P (xs ++ ys) →
    AllByRecursion P xs × AllByRecursion P ys
each_parts P [] ys h = (tt, h)
each_parts P (x ∷ xs) ys h = let parts = each_parts P xs ys h.1 in ((h.0, parts.0), parts.1)

pub each_both : {A : Type 0} (P Q : A → Type 0) (xs : List A) → AllByRecursion P xs → AllByRecursion Q xs →
    AllByRecursion (λ x. P x × Q x) xs
each_both P Q [] h i = tt
each_both P Q (x ∷ xs) h i = ((h.0, i.0), each_both P Q xs h.1 i.1)

first_where : {A : Type 0} (P : A → Type 0) (x : A) (rest : Option A) (b : Bool) → Where P rest → P x →
    Where P (if b then Some x else rest)
first_where P x rest true later here = here
first_where P x rest false later here = later

pub find_where : {A : Type 0} (P : A → Type 0) (p : A → Bool) (xs : List A) → AllByRecursion P xs → Where P (find p xs)
find_where P p [] h = tt
find_where P p (x ∷ xs) h = first_where P x (find p xs) (p x) (find_where P p xs h.1) h.0

cons_each : {A : Type 0} (P : A → Type 0) (o : Option A) (xs : List A) → Where P o → AllByRecursion P xs →
    AllByRecursion P (cons_option o xs)
cons_each P None xs h i = i
cons_each P (Some x) xs h i = (h, i)

pub filter_map_each : {A B : Type 0} (P : A → Type 0) (Q : B → Type 0) (f : A → Option B) →
    ((x : A) → P x → Where Q (f x)) → (xs : List A) →
    AllByRecursion P xs → AllByRecursion Q (filter_map f xs)
filter_map_each P Q f so [] h = tt
filter_map_each P Q f so (x ∷ xs) h = cons_each Q (f x) (filter_map f xs) (so x h.0) (filter_map_each P Q f so xs h.1)

pub zip_each : {A B C : Type 0} (f : A × B → List C) (xs : List A) (ys : List B) → length xs ≡ length ys →
    flat_map f (zip xs ys) ≡ [] →
    AllZip (λ x y. f (x, y) ≡ []) xs ys
zip_each f [] [] same h = tt
zip_each f [] (y ∷ ys) same h = absurd (omega (arith, same))
zip_each f (x ∷ xs) [] same h = absurd (omega (arith, same))
zip_each f (x ∷ xs) (y ∷ ys) same h =
    let parts = nils (f (x, y)) (flat_map f (zip xs ys)) h in (parts.0, zip_each f xs ys (omega (arith, same)) parts.1)

-- the last of two lists in step

abbrev pub Both : {A B : Type 0} → (A → B → Type 0) → Option A → Option B → Type 0
Both R None None = Unit {0}
Both R (Some x) (Some y) = R x y
Both R _ _ = ⊥

pub last_zip : {A B : Type 0} (R : A → B → Type 0) (xs : List A) (ys : List B) (o : Option A) (q : Option B) →
    Both R o q → AllZip R xs ys →
    Both R (last_or o xs) (last_or q ys)
last_zip R [] [] o q both h = both
last_zip R [] (y ∷ ys) o q both h = absurd h
last_zip R (x ∷ xs) [] o q both h = absurd h
last_zip R (x ∷ xs) (y ∷ ys) o q both h = last_zip R xs ys (Some x) (Some y) h.0 h.1

pub last_map : {A B : Type 0} (f : A → B) (xs : List A) (o : Option A) → last_or (option_map f o) (map f xs) ≡
    option_map f (last_or o xs)
last_map f [] o = refl
last_map f (x ∷ xs) o = last_map f xs (Some x)

-- what is found among all stands, among those of its kind, at the place of its number

pub record Stood {A B : Type 0} (p : A → Bool) (kept : List A) (made : List B) (y : B) : Type 0 where
  pub below : position_or_len p kept < length kept
  pub listed : slice_get made (position_or_len p kept) ≡ Some y

first_stood : {A B : Type 0} (p : A → Bool) (x : A) (kept : List A) (made : List B) (y : B) (c : Bool) (o : Option B) →
    c ≡ true → o ≡ Some y →
    p x ≡ true → Stood p (if c then x ∷ kept else kept) (cons_option o made) y
first_stood p x kept made y true None is made_is here = absurd (cc made_is)
first_stood p x kept made y true (Some z) is made_is here =
    record { below = rw here (omega arith); listed = rw here made_is }
first_stood p x kept made y false o is made_is here = absurd (cc is)

listed_after : {B : Type 0} (z : B) (made : List B) (n : ℕ) (y : B) → slice_get made n ≡ Some y →
    slice_get (z ∷ made) (1 + n) ≡ Some y
listed_after z made n y h = let e : suc n ≡ 1 + n = omega arith in subst (λ k. slice_get (z ∷ made) k ≡ Some y) e h

more_stood : {A B : Type 0} (p : A → Bool) (x : A) (kept : List A) (made : List B) (y : B) (c : Bool) (o : Option B) →
    is_some o ≡ c →
    p x ≡ false → Stood p kept made y → Stood p (if c then x ∷ kept else kept) (cons_option o made) y
more_stood p x kept made y true None same other h = absurd (cc same)
more_stood p x kept made y true (Some z) same other h =
    record {
      below = rw other (omega (arith, h.below));
      listed =
          rw other (listed_after z made (position_or_len p kept) y h.listed);
    }
more_stood p x kept made y false None same other h = h
more_stood p x kept made y false (Some z) same other h = absurd (cc same)

either_stood : {A B : Type 0} (p t : A → Bool) (f : A → Option B) (x : A) (xs : List A) (d : A) (y : B) →
    is_some (f x) ≡ t x →
    t d ≡ true → f d ≡ Some y → (b : Bool) → p x ≡ b → (if b then Some x else find p xs) ≡ Some d →
    (find p xs ≡ Some d → Stood p (filter t xs) (filter_map f xs) y) →
    Stood p (filter t (x ∷ xs)) (filter_map f (x ∷ xs)) y
either_stood p t f x xs d y same kind made true here found rest =
    let e : x ≡ d = cc found in
    first_stood p x (filter t xs) (filter_map f xs) y (t x) (f x) (ap t e ∙ kind) (ap f e ∙ made) here
either_stood p t f x xs d y same kind made false other found rest =
    more_stood p x (filter t xs) (filter_map f xs) y (t x) (f x) same other (rest found)

pub stood : {A B : Type 0} (p t : A → Bool) (f : A → Option B) → ((x : A) → is_some (f x) ≡ t x) →
    (xs : List A) (d : A) (y : B) →
    find p xs ≡ Some d → t d ≡ true → f d ≡ Some y → Stood p (filter t xs) (filter_map f xs) y
stood p t f same [] d y found kind made = absurd (cc found)
stood p t f same (x ∷ xs) d y found kind made =
    either_stood p t f x xs d y (same x) kind made (p x) refl found (λ later. stood p t f same xs d y later kind made)

pub stood_at : {A B : Type 0} (p : A → Bool) (kept : List A) (made : List B) (y : B) → Stood p kept made y →
    (position p kept ≡ Some (position_or_len p kept)) × (slice_get made (position_or_len p kept) ≡ Some y)
stood_at p kept made y h = (rw (lt-ltb (position_or_len p kept) (length kept) h.below) refl, h.listed)

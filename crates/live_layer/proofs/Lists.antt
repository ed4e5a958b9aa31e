-- Lists whose items have references, and what holds of each item.
use Rattle.std.proofs.Common.{◌≡◌, ℕ, zero, suc, ◌+◌, ◌-◌, ◌<◌, ◌≤◌, take, List, [], ◌∷◌, ◌++◌, map, reverse, length}
use Rattle.std.proofs.Common.{get_or, set, slice_get, Bor, Option, Some, None, option_copied, flat_map, refl, sym, ap}
use Rattle.std.proofs.Common.{subst, ◌∙◌, arith}
use Rattle.std.specs.List.{AllByRecursion}
use Rattle.std.specs.Prelude.{IfSome, IfNone}
use Rattle.std.proofs.lemmas.Grind.{flat_map-append}
use Rattle.std.proofs.lemmas.List.{map-append, reverse-append}
use Rattle.circular_buffer.specs.Buffer.{Buffer, buffer, last_item}
use Rattle.slot_pool.specs.Times.{times}
use Rattle.slot_pool.proofs.Times.{times-append}

module _ {A : Type 0} (P : A → Type 0) where
  pub all-append : (xs ys : List A) → AllByRecursion P xs → AllByRecursion P ys → AllByRecursion P (xs ++ ys)
  all-append [] ys a b = b
  all-append (x ∷ xs) ys a b = (a.0, all-append xs ys a.1 b)

  pub all-front : (xs ys : List A) → AllByRecursion P (xs ++ ys) → AllByRecursion P xs
  all-front [] ys a = tt
  all-front (x ∷ xs) ys a = (a.0, all-front xs ys a.1)

  pub all-following : (xs ys : List A) → AllByRecursion P (xs ++ ys) → AllByRecursion P ys
  all-following [] ys a = a
  all-following (x ∷ xs) ys a = all-following xs ys a.1

  pub all-set : (xs : List A) (k : ℕ) (x : A) → AllByRecursion P xs → P x → AllByRecursion P (set xs k x)
  all-set [] k x a one = tt
  all-set (y ∷ xs) zero x a one = (one, a.1)
  all-set (y ∷ xs) (suc k) x a one = (a.0, all-set xs k x a.1 one)

  pub all-get : (xs : List A) (k : ℕ) (d : A) → AllByRecursion P xs → P d → P (get_or xs k d)
  all-get [] k d a one = one
  all-get (y ∷ xs) zero d a one = a.0
  all-get (y ∷ xs) (suc k) d a one = all-get xs k d a.1 one

  pub all-at : (xs : List A) (k : ℕ) (x : A) → slice_get xs k ≡ Some x → AllByRecursion P xs → P x
  all-at [] k x is a = absurd (cc)
  all-at (y ∷ xs) zero x is a = let same : y ≡ x = cc in subst P same a.0
  all-at (y ∷ xs) (suc k) x is a = all-at xs k x is a.1

module _ {A : Type 0} (f : A → List ℕ) where
  pub times-both : (i : ℕ) (xs ys : List A) → times i (flat_map f (xs ++ ys)) ≡
      times i (flat_map f xs) + times i (flat_map f ys)
  times-both i xs ys = ap (times i) (flat_map-append f xs ys) ∙ times-append i (flat_map f xs) (flat_map f ys)

  pub times-one : (i : ℕ) (x : A) → times i (flat_map f (x ∷ [])) ≡ times i (f x)
  times-one i x = let both = times-append i (f x) [] in omega arith

  pub times-set : (i : ℕ) (xs : List A) (k : ℕ) (x d : A) → k < length xs →
      times i (flat_map f (set xs k x)) + times i (f (get_or xs k d)) ≡ times i (flat_map f xs) + times i (f x)
  times-set i [] k x d within = absurd (omega arith)
  times-set i (y ∷ xs) zero x d within =
      omega (arith, times-append i (f x) (flat_map f xs), times-append i (f y) (flat_map f xs))
  times-set i (y ∷ xs) (suc k) x d within =
      let rest = times-set i xs k x d (omega arith) in
      omega (arith, times-append i (f y) (flat_map f (set xs k x)), times-append i (f y) (flat_map f xs))

-- An item's references are among those of its list.
pub times-at : {A : Type 0} (f : A → List ℕ) (i : ℕ) (xs : List A) (k : ℕ) (x : A) → slice_get xs k ≡ Some x →
    times i (f x) ≤ times i (flat_map f xs)
times-at f i [] k x is = absurd (cc)
times-at f i (y ∷ xs) zero x is = let same : y ≡ x = cc in let one = ap (λ z. times i (f z)) same in
    omega (arith, times-append i (f y) (flat_map f xs))
times-at f i (y ∷ xs) (suc k) x is = let rest = times-at f i xs k x is in
    omega (arith, times-append i (f y) (flat_map f xs))

-- What is seen of an item.
pub seen_at : {A B : Type 0} (f : A → B) (xs : List A) (k : ℕ) (x : A) (d : B) → slice_get xs k ≡ Some x →
    get_or (map f xs) k d ≡ f x
seen_at f [] k x d is = absurd (cc)
seen_at f (y ∷ xs) zero x d is = let same : y ≡ x = cc in ap f same
seen_at f (y ∷ xs) (suc k) x d is = seen_at f xs k x d is

pub seen_none : {A B : Type 0} (f : A → B) (xs : List A) (k : ℕ) (d : B) → slice_get xs k ≡ None →
    get_or (map f xs) k d ≡ d
seen_none f [] k d is = refl
seen_none f (y ∷ xs) zero d is = absurd (cc)
seen_none f (y ∷ xs) (suc k) d is = seen_none f xs k d is

pub set-set : {A : Type 0} (xs : List A) (k : ℕ) (x y : A) → set (set xs k x) k y ≡ set xs k y
set-set [] k x y = refl
set-set (z ∷ xs) zero x y = refl
set-set (z ∷ xs) (suc k) x y = ap (λ ys. z ∷ ys) (set-set xs k x y)

-- An item that is there is within, and is the one that stands there.
pub item_there : {A : Type 0} (xs : List A) (k : ℕ) (x : A) → slice_get xs k ≡ Some x →
    (k < length xs) × (set xs k x ≡ xs)
item_there [] k x is = absurd (cc)
item_there (y ∷ xs) zero x is = let same : x ≡ y = cc in (omega arith, ap (λ z. z ∷ xs) same)
item_there (y ∷ xs) (suc k) x is = let rest = item_there xs k x is in let below = rest.0 in
    (omega arith, ap (λ ys. y ∷ ys) rest.1)

pub item_within : {A : Type 0} (xs : List A) (k : ℕ) (d : A) → k < length xs → slice_get xs k ≡ Some (get_or xs k d)
item_within [] k d below = absurd (omega (arith, below))
item_within (y ∷ xs) zero d below = refl
item_within (y ∷ xs) (suc k) d below = item_within xs k d (omega (arith, below))

-- An item that was read stands there.
pub read_there : {A : Type 0} (xs : List A) (k : ℕ) (d : A) (o : Option (Bor A)) (x : Bor A) →
    option_copied o ≡ slice_get xs k → o ≡ Some x →
    slice_get xs k ≡ Some (get_or xs k d)
read_there xs k d o x is some = item_within xs k d (item_there xs k x.now (sym is ∙ ap option_copied some)).0

-- Items of a pile.
pub items_are : {A : Type 0} (b : Buffer A) (xs : List A) (n : ℕ) → b ≡ buffer xs n → b.items ≡ xs
items_are b xs n is = ap (λ c. c.items) is

-- The last one, after those before it.
last_at : {A : Type 0} (xs : List A) (n : ℕ) (x : A) → n + 1 ≡ length xs → slice_get xs n ≡ Some x →
    xs ≡ take n xs ++ x ∷ []
last_at [] n x long is = absurd (cc)
last_at (y ∷ []) zero x long is = let same : y ≡ x = cc in ap (λ z. z ∷ []) same
last_at (y ∷ z ∷ xs) zero x long is = absurd (omega (arith, long))
last_at (y ∷ xs) (suc n) x long is = ap (λ ys. y ∷ ys) (last_at xs n x (omega (arith, long)) is)

some_last : {A : Type 0} (xs : List A) (n : ℕ) → n < length xs → slice_get xs n ≡ None → ⊥
some_last [] n few none = omega (arith, few)
some_last (x ∷ xs) zero few none = absurd (cc)
some_last (x ∷ xs) (suc n) few none = some_last xs n (omega (arith, few)) none

no_last : {A : Type 0} (xs : List A) → last_item xs ≡ None → xs ≡ []
no_last [] none = refl
no_last (x ∷ xs) none = absurd (some_last (x ∷ xs) (length (x ∷ xs) - 1) (omega arith) none)

pub last_off : {A : Type 0} (xs : List A) (x : A) → last_item xs ≡ Some x → xs ≡ take (length xs - 1) xs ++ x ∷ []
last_off [] x is = absurd (cc)
last_off (y ∷ xs) x is = last_at (y ∷ xs) (length (y ∷ xs) - 1) x (omega arith) is

-- A pile from which the last one was taken, if there was one.
module _ {A : Type 0} (b c : Buffer A) where
  pub some_off : (o : Option A) → o ≡ last_item b.items → c ≡ buffer (take (length b.items - 1) b.items) b.capacity →
      IfSome o (λ x. b.items ≡ c.items ++ x ∷ [])
  some_off None is rest = tt
  some_off (Some x) is rest = last_off b.items x (sym is) ∙
      ap (λ xs. xs ++ x ∷ []) (sym (items_are c (take (length b.items - 1) b.items) b.capacity rest))

  pub none_off : (o : Option A) → o ≡ last_item b.items → c ≡ buffer (take (length b.items - 1) b.items) b.capacity →
      IfNone o ((b.items ≡ []) × (c ≡ b))
  none_off None is rest =
      let empty = no_last b.items (sym is) in (
        empty,
        rest ∙ ap (λ xs. buffer (take (length xs - 1) xs) b.capacity) empty ∙
            ap (λ xs. buffer xs b.capacity) (sym empty),
      )
  none_off (Some x) is rest = tt

pub last_first : {A B : Type 0} (f : A → B) (xs : List A) (x : A) → reverse (map f (xs ++ x ∷ [])) ≡ f x ∷
    reverse (map f xs)
last_first f xs x = ap reverse (map-append f xs (x ∷ [])) ∙ reverse-append (map f xs) (f x ∷ [])

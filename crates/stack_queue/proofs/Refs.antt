-- Lists whose items refer to slots: one is replaced, and the others stay.
use Rattle.std.proofs.Common.{◌≡◌, ℕ, zero, suc, ◌+◌, ◌*◌, ◌<◌, ◌≤◌, List, [], ◌∷◌, ◌++◌, map, set, get_or, length}
use Rattle.std.proofs.Common.{flat_map, refl, ap, arith}
use Rattle.std.specs.List.{AllByRecursion}
use Rattle.std.proofs.lemmas.List.{length-append}
use Rattle.slot_pool.specs.Held.{Held, count_at}
use Rattle.slot_pool.specs.References.{Covers}
use Rattle.slot_pool.specs.Times.{times}
use Rattle.slot_pool.proofs.Times.{times-append}
use Rattle.pool_message.proofs.Lists.{each_stays}

pub all_right : {A : Type 0} (P : A → Type 0) (xs ys : List A) → AllByRecursion P (xs ++ ys) → AllByRecursion P ys
all_right P [] ys h = h
all_right P (x ∷ xs) ys h = all_right P xs ys h.1

pub all_both : {A : Type 0} (P : A → Type 0) (xs ys : List A) → AllByRecursion P xs → AllByRecursion P ys →
    AllByRecursion P (xs ++ ys)
all_both P [] ys h k = k
all_both P (x ∷ xs) ys h k = (h.0, all_both P xs ys h.1 k)

pub all_as : {A : Type 0} (P Q : A → Type 0) → ((x : A) → P x → Q x) → (xs : List A) → AllByRecursion P xs →
    AllByRecursion Q xs
all_as P Q f [] h = tt
all_as P Q f (x ∷ xs) h = (f x h.0, all_as P Q f xs h.1)

pub all_at : {A : Type 0} (P : A → Type 0) (xs : List A) (k : ℕ) (d : A) → k < length xs → AllByRecursion P xs →
    P (get_or xs k d)
all_at P [] k d lt h = absurd (omega arith)
all_at P (x ∷ xs) zero d lt h = h.0
all_at P (x ∷ xs) (suc k) d lt h = all_at P xs k d (omega arith) h.1

-- An item is replaced by one that has the same of something.
pub map_set_same : {A B : Type 0} (g : A → B) (xs : List A) (k : ℕ) (y d : A) → k < length xs →
    g y ≡ g (get_or xs k d) →
    map g (set xs k y) ≡ map g xs
map_set_same g [] k y d lt same = refl
map_set_same g (x ∷ xs) zero y d lt same = ap (λ z. z ∷ map g xs) same
map_set_same g (x ∷ xs) (suc k) y d lt same = ap (λ zs. g x ∷ zs) (map_set_same g xs k y d (omega arith) same)

module _ {A : Type 0} (f : A → List ℕ) where
  pub each_both : (xs ys : List A) (i : ℕ) → times i (flat_map f (xs ++ ys)) ≡
      times i (flat_map f xs) + times i (flat_map f ys)
  each_both [] ys i = omega arith
  each_both (x ∷ xs) ys i =
      let rest = each_both xs ys i in
      omega (arith, rest, times-append i (f x) (flat_map f (xs ++ ys)), times-append i (f x) (flat_map f xs))

  pub each_at : (xs : List A) (k : ℕ) (d : A) (i : ℕ) → k < length xs →
      times i (f (get_or xs k d)) ≤ times i (flat_map f xs)
  each_at [] k d i lt = absurd (omega arith)
  each_at (x ∷ xs) zero d i lt = omega (arith, times-append i (f x) (flat_map f xs))
  each_at (x ∷ xs) (suc k) d i lt =
      let rest = each_at xs k d i (omega arith) in omega (arith, rest, times-append i (f x) (flat_map f xs))

  pub each_set : (xs : List A) (k : ℕ) (y d : A) (i : ℕ) → k < length xs →
      times i (flat_map f (set xs k y)) + times i (f (get_or xs k d)) ≡ times i (flat_map f xs) + times i (f y)
  each_set [] k y d i lt = absurd (omega arith)
  each_set (x ∷ xs) zero y d i lt =
      omega (arith, times-append i (f x) (flat_map f xs), times-append i (f y) (flat_map f xs))
  each_set (x ∷ xs) (suc k) y d i lt =
      let rest = each_set xs k y d i (omega arith) in
      omega (arith, rest, times-append i (f x) (flat_map f (set xs k y)), times-append i (f x) (flat_map f xs))

  -- Items with few references each have few together.
  pub each_few : (P : A → Type 0) (most : ℕ) → ((x : A) → P x → length (f x) ≤ most) → (xs : List A) →
      AllByRecursion P xs →
      length (flat_map f xs) ≤ length xs * most
  each_few P most few [] h = omega arith
  each_few P most few (x ∷ xs) h =
      let rest = each_few P most few xs h.1 in omega (arith, rest, few x h.0, length-append (f x) (flat_map f xs))

  -- One item is replaced where its references move, and the others stay as they are.
  module _ {B : Type 0} (P Q : A → Type 0) (v w : A → B) (p : List Held) (a : List ℕ)
      (one : (x : A) → Covers p (a ++ f x) → P x → Q x × (w x ≡ v x)) where
    pub others_stay : (xs : List A) (k : ℕ) (y d : A) → k < length xs →
        ((i : ℕ) → times i a + times i (flat_map f xs) ≤ count_at p i + times i (f (get_or xs k d))) →
        AllByRecursion P xs → Q y → AllByRecursion Q (set xs k y) × (map w (set xs k y) ≡ set (map v xs) k (w y))
    others_stay [] k y d lt covers h new = absurd (omega arith)
    others_stay (x ∷ xs) zero y d lt covers h new =
        let following : Covers p (a ++ flat_map f xs) = record {
          covers = λ i.
              let there = covers i in let both = times-append i (f x) (flat_map f xs) in let right =
              times-append i a (flat_map f xs) in omega arith;
        } in
        let rest = each_stays f P Q v w p a one xs following h.1 in
        ((new, rest.0), ap (λ zs. w y ∷ zs) rest.1)
    others_stay (x ∷ xs) (suc k) y d lt covers h new =
        let front : Covers p (a ++ f x) = record {
          covers = λ i.
              let there = covers i in let both = times-append i (f x) (flat_map f xs) in let right =
              times-append i a (f x) in
              let here = each_at xs k d i (omega arith) in omega arith;
        } in
        let first = one x front h.0 in
        let rest = others_stay xs k y d (omega arith)
        (λ i. let there = covers i in let both = times-append i (f x) (flat_map f xs) in omega arith) h.1 new in
        ((first.0, rest.0), λ i. first.1 i ∷ rest.1 i)

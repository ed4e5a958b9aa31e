-- Lists of items with references: the items stay as they are while other references move, and the first may go.
use Rattle.std.proofs.Common.{◌≡◌, ℕ, List, [], ◌∷◌, ◌++◌, Some, map, drop, slice_get, flat_map, refl, sym, subst}
use Rattle.std.proofs.Common.{arith}
use Rattle.std.specs.List.{AllByRecursion}
use Rattle.slot_pool.specs.Held.{Held}
use Rattle.slot_pool.specs.References.{Moved, Covers}
use Rattle.slot_pool.proofs.Times.{times-append}
use Rattle.slot_pool.proofs.References.{moved-chain, moved-beside}

pub covers_front : (p : List Held) (xs ys : List ℕ) → Covers p (xs ++ ys) → Covers p xs
covers_front p xs ys all =
    record { covers = λ i. let there = all.covers i in let both = times-append i xs ys in omega arith }

pub covers_after : (p : List Held) (xs ys : List ℕ) → Covers p (xs ++ ys) → Covers p ys
covers_after p xs ys all =
    record { covers = λ i. let there = all.covers i in let both = times-append i xs ys in omega arith }

module _ {A : Type 0} (f : A → List ℕ) where
  -- The first of a list goes.
  pub covers_first : (p : List Held) (xs : List A) (x : A) → slice_get xs 0 ≡ Some x → Covers p (flat_map f xs) →
      Covers p (f x)
  covers_first p [] x is all = absurd (cc)
  covers_first p (y ∷ xs) x is all =
      let same : y ≡ x = cc in subst (λ z. Covers p (f z)) same (covers_front p (f y) (flat_map f xs) all)

  pub covers_rest : (p q : List Held) (xs : List A) (x : A) → slice_get xs 0 ≡ Some x → Covers p (flat_map f xs) →
      Moved p q (f x) [] →
      Covers q (flat_map f (drop 1 xs))
  covers_rest p q [] x is all gone = absurd (cc)
  covers_rest p q (y ∷ xs) x is all gone =
      let same : y ≡ x = cc in let went = subst (λ z. Moved p q (f z) []) (sym same) gone in
      record {
        covers = λ i. let there = all.covers i in let both = times-append i (f y) (flat_map f xs) in let counts =
            went.counts i in omega arith;
      }

  pub moved_rest : (s p q : List Held) (from : List ℕ) (xs : List A) (x : A) → slice_get xs 0 ≡ Some x →
      Moved s p from (flat_map f xs) →
      Moved p q (f x) [] → Moved s q from (flat_map f (drop 1 xs))
  moved_rest s p q from [] x is moved gone = absurd (cc)
  moved_rest s p q from (y ∷ xs) x is moved gone =
      let same : y ≡ x = cc in let went = subst (λ z. Moved p q (f z) []) (sym same) gone in
      moved-chain s p q from (f y ++ flat_map f xs) (flat_map f xs) moved
      (moved-beside p q (f y) [] (flat_map f xs) went)

  -- What each item keeps while other references move, all items keep.
  pub each_stays : {B : Type 0} (P Q : A → Type 0) (v w : A → B) (p : List Held) (a : List ℕ) →
      ((x : A) → Covers p (a ++ f x) → P x → Q x × (w x ≡ v x)) →
      (xs : List A) → Covers p (a ++ flat_map f xs) → AllByRecursion P xs → AllByRecursion Q xs × (map w xs ≡ map v xs)
  each_stays P Q v w p a one [] covers lie = (tt, refl)
  each_stays P Q v w p a one (x ∷ xs) covers lie =
      let front : Covers p (a ++ f x) = record {
        covers = λ i. let there = covers.covers i in
            let left = times-append i a (f x ++ flat_map f xs) in let both = times-append i (f x) (flat_map f xs) in
            let right = times-append i a (f x) in omega arith;
      } in
      let following : Covers p (a ++ flat_map f xs) = record {
        covers = λ i. let there = covers.covers i in
            let left = times-append i a (f x ++ flat_map f xs) in let both = times-append i (f x) (flat_map f xs) in
            let right = times-append i a (flat_map f xs) in omega arith;
      } in
      let first = one x front lie.0 in let rest = each_stays P Q v w p a one xs following lie.1 in
      ((first.0, rest.0), λ i. first.1 i ∷ rest.1 i)

-- The earlier of faults, in any order of taking two.
use Rattle.std.proofs.Common.{◌≡◌, ℕ, zero, suc, ◌<◌, length, arith, Contains, slice_index_or, subst, Bool, true, false}
use Rattle.std.proofs.Common.{List, [], ◌∷◌, ◌++◌, Option, Some, None, refl, sym, ap, ◌∙◌, fold, append-nil}
use Rattle.std.specs.Cmp.{IsTotalOrder}
use Rattle.std.specs.List.{AllByRecursion}
use Rattle.std.specs.Cmp.Lexicographic.{slice_cmp, nat_list_cmp_total}
use Rattle.std.specs.declared.cmp.Ordering.{Ordering}
use Rattle.std.specs.Ordering.{is_lt, nat_cmp, ordering_reverse}
use Rattle.std.specs.declared.cmp.Ordering.TheVariants.{Less, Equal, Greater}
use Rattle.std.proofs.lemmas.List.Sums.{fold-append}
use Rattle.fault_mean.specs.Earliest.{earlier, earlier_of, earliest, precedes}
use Rattle.fault_mean.specs.EarliestOf.{IsFirst, IsInOrder, IsThere}

-- what is less than one that isn't greater than another is less than the other
less-through : {K : Type 0} {C : K → K → Ordering} → IsTotalOrder C → (f g h : K) → C h f ≡ Less →
    is_lt (C g f) ≡ false → C h g ≡ Less
less-through {K} {C} o f g h less through = by (C g f) refl through
  where
    by : (r : Ordering) → C g f ≡ r → is_lt r ≡ false → C h g ≡ Less
    by Less e not = absurd (cc)
    by Equal e not = o.antisymm h g ∙ (ap ordering_reverse (o.congr g f h e) ∙ (sym (o.antisymm h f) ∙ less))
    by Greater e not = o.trans h f g less (o.antisymm f g ∙ ap ordering_reverse e)

is_lt-Less : (r : Ordering) → is_lt r ≡ true → r ≡ Less
is_lt-Less Less e = refl
is_lt-Less Equal e = absurd (cc)
is_lt-Less Greater e = absurd (cc)

-- nothing that isn't less than one is less than another that isn't greater
not-through : {K : Type 0} {C : K → K → Ordering} → IsTotalOrder C → (f g h : K) → is_lt (C g f) ≡ false →
    is_lt (C h g) ≡ false → is_lt (C h f) ≡ false
not-through {K} {C} o f g h through not = by (C h f) refl
  where
    by : (r : Ordering) → C h f ≡ r → is_lt r ≡ false
    by Less e = let less = less-through o f g h e through in absurd (cc)
    by Equal e = refl
    by Greater e = refl

module _ {F : Type 0} (key : F → List ℕ) where
  regroup : (f g h : F) → earlier_of key (earlier_of key f g) h ≡ earlier_of key f (earlier_of key g h)
  regroup f g h = by (is_lt (slice_cmp nat_cmp (key g) (key f))) (is_lt (slice_cmp nat_cmp (key h) (key g))) refl refl
    where
      by : (a b : Bool) → is_lt (slice_cmp nat_cmp (key g) (key f)) ≡ a → is_lt (slice_cmp nat_cmp (key h) (key g)) ≡
          b →
          earlier_of key (earlier_of key f g) h ≡ earlier_of key f (earlier_of key g h)
      by true true gf hg =
          let less : is_lt (slice_cmp nat_cmp (key h) (key f)) ≡ true =
          ap is_lt (nat_list_cmp_total.trans (key h) (key g) (key f) (is_lt-Less _ hg) (is_lt-Less _ gf)) in
          rw (gf, hg) (rw less refl)
      by true false gf hg = rw (gf, hg) (rw gf refl)
      by false true gf hg = rw (gf, hg) refl
      by false false gf hg =
          let not : is_lt (slice_cmp nat_cmp (key h) (key f)) ≡ false =
          not-through nat_list_cmp_total (key f) (key g) (key h) gf hg in
          rw (gf, hg) (rw (gf, not) refl)

  -- what a fold begins with may be taken into account at the end
  from_first : (f x : F) (ys : List F) → fold (earlier_of key) (earlier_of key f x) ys ≡
      earlier_of key f (fold (earlier_of key) x ys)
  from_first f x [] = refl
  from_first f x (y ∷ ys) =
      ap (λ z. fold (earlier_of key) z ys) (regroup f x y) ∙ from_first f (earlier_of key x y) ys

  by_parts : (xs ys : List F) → earliest key (xs ++ ys) ≡ earlier key (earliest key xs) (earliest key ys)
  by_parts [] ys = refl
  by_parts (x ∷ xs) [] = ap (earliest key) (append-nil (x ∷ xs))
  by_parts (x ∷ xs) (y ∷ ys) =
      ap Some (fold-append (earlier_of key) x xs (y ∷ ys) ∙ from_first (fold (earlier_of key) x xs) y ys)

  -- the earlier of three faults that there may be
  regroup_some : (a b c : Option F) → earlier key (earlier key a b) c ≡ earlier key a (earlier key b c)
  regroup_some None b c = refl
  regroup_some (Some f) None c = refl
  regroup_some (Some f) (Some g) None = refl
  regroup_some (Some f) (Some g) (Some h) = ap Some (regroup f g h)

  pub in_order : IsInOrder key
  in_order found xs ys =
      regroup_some found (earliest key xs) (earliest key ys) ∙ ap (earlier key found) (sym (by_parts xs ys))

contains-following : {X : Type 0} (x : X) (xs : List X) (v : X) → Contains xs v → Contains (x ∷ xs) v
contains-following x xs v c = (suc c.0, omega (arith, c.1), c.2)

contains-between : {X : Type 0} (x y : X) (ys : List X) (v : X) → Contains (x ∷ ys) v → Contains (x ∷ y ∷ ys) v
contains-between {X} x y ys v c = by c.0 c.1 c.2
  where
    by : (k : ℕ) → k < length (x ∷ ys) → slice_index_or (x ∷ ys) k v ≡ v → Contains (x ∷ y ∷ ys) v
    by zero lt e = (0, omega arith, e)
    by (suc k) lt e = (suc (suc k), omega (arith, lt), e)

module _ {F : Type 0} (key : F → List ℕ) where
  -- a fault isn't before itself
  not-itself : (f : F) → precedes key f f ≡ false
  not-itself f = by (slice_cmp nat_cmp (key f) (key f)) (nat_list_cmp_total.antisymm (key f) (key f))
    where
      by : (r : Ordering) → r ≡ ordering_reverse r → is_lt r ≡ false
      by Less e = absurd (cc)
      by Equal e = refl
      by Greater e = refl

  -- neither of two comes before the earlier one
  not-first : (x y : F) → (precedes key x (earlier_of key x y) ≡ false) × (precedes key y (earlier_of key x y) ≡ false)
  not-first x y = by (precedes key y x) refl
    where
      by : (b : Bool) → precedes key y x ≡ b →
          (precedes key x (earlier_of key x y) ≡ false) × (precedes key y (earlier_of key x y) ≡ false)
      by true e = rw e (asymmetric (slice_cmp nat_cmp (key x) (key y)) refl e, not-itself y)
        where
          asymmetric : (r : Ordering) → slice_cmp nat_cmp (key x) (key y) ≡ r → precedes key y x ≡ true →
              is_lt r ≡ false
          asymmetric Less d t =
              let less : slice_cmp nat_cmp (key x) (key x) ≡ Less =
              nat_list_cmp_total.trans (key x) (key y) (key x) d (is_lt-Less _ t) in
              let no = not-itself x in
              absurd (cc)
          asymmetric Equal d t = refl
          asymmetric Greater d t = refl
      by false e = rw e (not-itself x, e)

  -- the least of a list that begins with x
  least : (x : F) (ys : List F) → AllByRecursion (λ g. precedes key g (fold (earlier_of key) x ys) ≡ false) (x ∷ ys)
  least x [] = (not-itself x, tt)
  least x (y ∷ ys) =
      let ih = least (earlier_of key x y) ys in
      let r = fold (earlier_of key) (earlier_of key x y) ys in
      let two = not-first x y in (
        not-through nat_list_cmp_total (key r) (key (earlier_of key x y)) (key x) ih.0 two.0,
        (not-through nat_list_cmp_total (key r) (key (earlier_of key x y)) (key y) ih.0 two.1, ih.1),
      )

  among : (x : F) (ys : List F) → Contains (x ∷ ys) (fold (earlier_of key) x ys)
  among x [] = (0, omega arith, refl)
  among x (y ∷ ys) = by (precedes key y x) refl (among y ys) (among x ys)
    where
      by : (b : Bool) → precedes key y x ≡ b → Contains (y ∷ ys) (fold (earlier_of key) y ys) →
          Contains (x ∷ ys) (fold (earlier_of key) x ys) → Contains (x ∷ y ∷ ys) (fold (earlier_of key) x (y ∷ ys))
      by true e second one = rw e (contains-following x (y ∷ ys) (fold (earlier_of key) y ys) second)
      by false e second one = rw e (contains-between x y ys (fold (earlier_of key) x ys) one)

  pub first : IsFirst key
  first [] f e = absurd (cc)
  first (x ∷ xs) f e =
      let same : fold (earlier_of key) x xs ≡ f = cc in (
        subst (λ v. Contains (x ∷ xs) v) same (among x xs),
        subst (λ v. AllByRecursion (λ g. precedes key g v ≡ false) (x ∷ xs)) same (least x xs),
      )

  pub there : IsThere key
  there [] e = refl
  there (x ∷ xs) e = absurd (cc)

-- Events come into slots, change there, and go.
use Rattle.std.proofs.Common.{◌≡◌, ℕ, zero, suc, ◌+◌, ◌-◌, ◌<◌, ◌≤◌, ◌⊎◌, inl, inr, List, [], ◌∷◌, ◌++◌, set, get_or}
use Rattle.std.proofs.Common.{drop, slice_get, slice_index_or, length, refl, sym, ap, ◌∙◌, subst, arith}
use Rattle.std.specs.Prelude.{◌==◌, ◌≢◌, None, Some, true, false}
use Rattle.std.proofs.lemmas.Bool.{eqb-true, eqb-false}
use Rattle.std.specs.List.{AllByRecursion}
use Rattle.std.proofs.lemmas.List.{get_or-set_same, get_or-set_other, length-set, length-append, map-append}
use Rattle.circular_buffer.specs.Buffer.{last_item}
use Rattle.slot_pool.specs.Times.{hit, times}
use Rattle.slot_pool.proofs.Times.{hit_or_not, hit_same, times-append}
use Rattle.layer_words.specs.declared.events.Dir.{Dir}
use Rattle.pool_message.specs.Sent.{first_sent}
use Rattle.pool_message.specs.Lends.{last_sent, before_last}
use Rattle.pool_message.specs.Slots.{slot_at, standing, first_number, AreParted, IsFirst}
use Rattle.pool_message.specs.declared.event.PoolEvent.{PoolEvent}

-- a slot is changed, and others stay
same_at : (xs : List (Dir × PoolEvent)) (k i : ℕ) (y : Dir × PoolEvent) → hit k i ≡ 0 →
    slot_at (set xs k y) i ≡ slot_at xs i
same_at xs k i y off = go (hit_or_not k i) where
  go : ((k ≡ i) × (hit k i ≡ 1)) ⊎ ((k ≡ i → ⊥) × (hit k i ≡ 0)) → slot_at (set xs k y) i ≡ slot_at xs i
  go (inl (is, one)) = absurd (omega (arith, off, one))
  go (inr (not, none)) = get_or-set_other xs k i y (first_sent []) (λ same. not (sym same))

pub others_stand : (xs : List (Dir × PoolEvent)) (k : ℕ) (y : Dir × PoolEvent) (order : List ℕ) → times k order ≡ 0 →
    standing (set xs k y) order ≡ standing xs order
others_stand xs k y [] off = refl
others_stand xs k y (i ∷ order) off =
    let here = same_at xs k i y (omega (arith, off)) in
    let rest = others_stand xs k y order (omega (arith, off)) in
    λ j. here j ∷ rest j

-- a slot more
more_at : (xs : List (Dir × PoolEvent)) (y : Dir × PoolEvent) (i : ℕ) → i < length xs →
    slot_at (xs ++ y ∷ []) i ≡ slot_at xs i
more_at [] y i lt = absurd (omega (arith, lt))
more_at (x ∷ xs) y zero lt = refl
more_at (x ∷ xs) y (suc i) lt = more_at xs y i (omega (arith, lt))

new_at : (xs : List (Dir × PoolEvent)) (y : Dir × PoolEvent) → slot_at (xs ++ y ∷ []) (length xs) ≡ y
new_at [] y = refl
new_at (x ∷ xs) y = new_at xs y

more_stand : (xs : List (Dir × PoolEvent)) (y : Dir × PoolEvent) (order : List ℕ) →
    ((i : ℕ) → 0 < times i order → i < length xs) →
    standing (xs ++ y ∷ []) order ≡ standing xs order
more_stand xs y [] within = refl
more_stand xs y (k ∷ order) within =
    let here = more_at xs y k (within k (omega (arith, hit_same k))) in
    let rest = more_stand xs y order (λ i some. within i (omega (arith, some))) in
    λ j. here j ∷ rest j

module _ (xs : List (Dir × PoolEvent)) (order free : List ℕ) (k : ℕ) (y : Dir × PoolEvent) where
  -- a free slot is used
  module _ (parted : AreParted xs order (free ++ k ∷ [])) where
    pub used_within : k < length xs
    used_within = parted.within k (omega (arith, hit_same k, times-append k free (k ∷ [])))

    pub used_bare : (slot_at xs k).1.message ≡ None
    used_bare = parted.bare k (omega (arith, hit_same k, times-append k free (k ∷ [])))

    unused : times k order ≡ 0
    unused = omega (arith, parted.once k, hit_same k, times-append k free (k ∷ []))

    pub used : AreParted (set xs k y) (order ++ k ∷ []) free
    used = record {
      count = omega (arith, parted.count, length-set xs k y, length-append order (k ∷ []), length-append free (k ∷ []));
      once = λ i. omega (arith, parted.once i, times-append i order (k ∷ []), times-append i free (k ∷ []));
      within = λ i some.
          omega (
            arith,
            length-set xs k y,
            parted.within i (omega (arith, some, times-append i order (k ∷ []), times-append i free (k ∷ []))),
          );
      each = λ i lt. omega (
        arith,
        parted.each i (omega (arith, lt, length-set xs k y)),
        times-append i order (k ∷ []),
        times-append i free (k ∷ []),
      );
      bare = λ i some. go i some (hit_or_not k i);
    } where
      go : (i : ℕ) → 0 < times i free → ((k ≡ i) × (hit k i ≡ 1)) ⊎ ((k ≡ i → ⊥) × (hit k i ≡ 0)) →
          (slot_at (set xs k y) i).1.message ≡ None
      go i some (inl (is, one)) =
          absurd (omega (
            arith,
            some,
            ap (λ j. times j free) is,
            parted.once k,
            hit_same k,
            times-append k free (k ∷ []),
          ))
      go i some (inr (not, none)) =
          ap (λ (x : Dir × PoolEvent). x.1.message) (same_at xs k i y none) ∙
          parted.bare i (omega (arith, some, times-append i free (k ∷ [])))

    pub used_stands : standing (set xs k y) (order ++ k ∷ []) ≡ standing xs order ++ y ∷ []
    used_stands =
        let here : slot_at (set xs k y) k ≡ y = get_or-set_same xs k y (first_sent []) used_within in
        map-append (slot_at (set xs k y)) order (k ∷ [])
        ∙ (λ j. others_stand xs k y order unused j ++ here j ∷ [])

  -- the first changes where it stands
  module _ (parted : AreParted xs (k ∷ order) free) where
    pub first_within : k < length xs
    first_within = parted.within k (omega (arith, hit_same k))

    apart : times k order ≡ 0
    apart = omega (arith, parted.once k, hit_same k)

    pub first_changed : AreParted (set xs k y) (k ∷ order) free
    first_changed = record {
      count = omega (arith, parted.count, length-set xs k y);
      once = parted.once;
      within = λ i some. omega (arith, length-set xs k y, parted.within i some);
      each = λ i lt. parted.each i (omega (arith, lt, length-set xs k y));
      bare = λ i some. go i some (hit_or_not k i);
    } where
      go : (i : ℕ) → 0 < times i free → ((k ≡ i) × (hit k i ≡ 1)) ⊎ ((k ≡ i → ⊥) × (hit k i ≡ 0)) →
          (slot_at (set xs k y) i).1.message ≡ None
      go i some (inl (is, one)) = absurd (omega (arith, some, ap (λ j. times j free) is, parted.once k, hit_same k))
      go i some (inr (not, none)) = ap (λ (x : Dir × PoolEvent). x.1.message) (same_at xs k i y none) ∙
          parted.bare i some

    pub first_stands : standing (set xs k y) (k ∷ order) ≡ y ∷ standing xs order
    first_stands =
        let here : slot_at (set xs k y) k ≡ y = get_or-set_same xs k y (first_sent []) first_within in
        λ j. here j ∷ others_stand xs k y order apart j

    -- it becomes the last
    pub goes_round : AreParted xs (order ++ k ∷ []) free
    goes_round = record {
      count = omega (arith, parted.count, length-append order (k ∷ []));
      once = λ i. omega (arith, parted.once i, times-append i order (k ∷ []));
      within = λ i some. parted.within i (omega (arith, some, times-append i order (k ∷ [])));
      each = λ i lt. omega (arith, parted.each i lt, times-append i order (k ∷ []));
      bare = parted.bare;
    }

    -- it goes, without a message
    pub first_ended : (slot_at xs k).1.message ≡ None → AreParted xs order (free ++ k ∷ [])
    first_ended none = record {
      count = omega (arith, parted.count, length-append free (k ∷ []));
      once = λ i. omega (arith, parted.once i, times-append i free (k ∷ []));
      within = λ i some. parted.within i (omega (arith, some, times-append i free (k ∷ [])));
      each = λ i lt. omega (arith, parted.each i lt, times-append i free (k ∷ []));
      bare = λ i some. go i some (hit_or_not i k);
    } where
      go : (i : ℕ) → 0 < times i (free ++ k ∷ []) → ((i ≡ k) × (hit i k ≡ 1)) ⊎ ((i ≡ k → ⊥) × (hit i k ≡ 0)) →
          (slot_at xs i).1.message ≡ None
      go i some (inl (is, one)) = ap (λ j. (slot_at xs j).1.message) is ∙ none
      go i some (inr (not, off)) = parted.bare i (omega (arith, some, off, times-append i free (k ∷ [])))

  -- the last changes where it stands
  module _ (parted : AreParted xs (order ++ k ∷ []) free) where
    pub last_within : k < length xs
    last_within = parted.within k (omega (arith, hit_same k, times-append k order (k ∷ [])))

    last_apart : times k order ≡ 0
    last_apart = omega (arith, parted.once k, hit_same k, times-append k order (k ∷ []))

    pub last_changed : AreParted (set xs k y) (order ++ k ∷ []) free
    last_changed = record {
      count = omega (arith, parted.count, length-set xs k y);
      once = parted.once;
      within = λ i some. omega (arith, length-set xs k y, parted.within i some);
      each = λ i lt. parted.each i (omega (arith, lt, length-set xs k y));
      bare = λ i some. go i some (hit_or_not k i);
    } where
      go : (i : ℕ) → 0 < times i free → ((k ≡ i) × (hit k i ≡ 1)) ⊎ ((k ≡ i → ⊥) × (hit k i ≡ 0)) →
          (slot_at (set xs k y) i).1.message ≡ None
      go i some (inl (is, one)) =
          absurd (omega (
            arith,
            some,
            ap (λ j. times j free) is,
            parted.once k,
            hit_same k,
            times-append k order (k ∷ []),
          ))
      go i some (inr (not, none)) = ap (λ (x : Dir × PoolEvent). x.1.message) (same_at xs k i y none) ∙
          parted.bare i some

    pub last_stands : standing (set xs k y) (order ++ k ∷ []) ≡ standing xs order ++ y ∷ []
    last_stands =
        let here : slot_at (set xs k y) k ≡ y = get_or-set_same xs k y (first_sent []) last_within in
        map-append (slot_at (set xs k y)) order (k ∷ []) ∙ (λ j. others_stand xs k y order last_apart j ++ here j ∷ [])

-- a slot that is new is used
module _ (xs : List (Dir × PoolEvent)) (order : List ℕ) (y : Dir × PoolEvent) (parted : AreParted xs order []) where
  order_within : (i : ℕ) → 0 < times i order → i < length xs
  order_within i some = parted.within i (omega (arith, some))

  pub made : AreParted (xs ++ y ∷ []) (order ++ length xs ∷ []) []
  made = record {
    count = omega (arith, parted.count, length-append xs (y ∷ []), length-append order (length xs ∷ []));
    once = λ i. once i (hit_or_not i (length xs));
    within = λ i some. within i some (hit_or_not i (length xs));
    each = λ i lt. each i lt (hit_or_not i (length xs));
    bare = λ i some. absurd (omega (arith, some));
  } where
    once : (i : ℕ) → ((i ≡ length xs) × (hit i (length xs) ≡ 1)) ⊎ ((i ≡ length xs → ⊥) × (hit i (length xs) ≡ 0)) →
        times i (order ++ length xs ∷ []) + 0 ≤ 1
    once i (inl (is, one)) = go (times i order) refl where
      go : (n : ℕ) → n ≡ times i order → times i (order ++ length xs ∷ []) + 0 ≤ 1
      go zero is0 = omega (arith, is0, one, times-append i order (length xs ∷ []))
      go (suc n) is1 = absurd (omega (arith, is, order_within i (omega (arith, is1))))
    once i (inr (not, off)) = omega (arith, off, parted.once i, times-append i order (length xs ∷ []))

    within : (i : ℕ) → 0 < times i (order ++ length xs ∷ []) + 0 →
        ((i ≡ length xs) × (hit i (length xs) ≡ 1)) ⊎ ((i ≡ length xs → ⊥) × (hit i (length xs) ≡ 0)) →
        i < length (xs ++ y ∷ [])
    within i some (inl (is, one)) = omega (arith, is, length-append xs (y ∷ []))
    within i some (inr (not, off)) =
        omega (
          arith,
          length-append xs (y ∷ []),
          order_within i (omega (arith, some, off, times-append i order (length xs ∷ []))),
        )

    each : (i : ℕ) → i < length (xs ++ y ∷ []) → ((i ≡ length xs) × (hit i (length xs) ≡ 1)) ⊎
        ((i ≡ length xs → ⊥) × (hit i (length xs) ≡ 0)) →
        0 < times i (order ++ length xs ∷ []) + 0
    each i lt (inl (is, one)) = omega (arith, one, times-append i order (length xs ∷ []))
    each i lt (inr (not, off)) =
        let less : i < length xs = omega (arith, lt, not, length-append xs (y ∷ [])) in
        omega (arith, parted.each i less, times-append i order (length xs ∷ []))

  pub made_stands : standing (xs ++ y ∷ []) (order ++ length xs ∷ []) ≡ standing xs order ++ y ∷ []
  made_stands = map-append (slot_at (xs ++ y ∷ [])) order (length xs ∷ []) ∙
      (λ j. more_stand xs y order order_within j ++ new_at xs y j ∷ [])

-- where no event stands, no slot has a message
by_index : {A : Type 0} (P : A → Type 0) (d : A) (xs : List A) → ((i : ℕ) → i < length xs → P (get_or xs i d)) →
    AllByRecursion P xs
by_index P d [] each = tt
by_index P d (x ∷ xs) each = (each 0 (omega arith), by_index P d xs (λ i lt. each (suc i) (omega (arith, lt))))

pub all_bare : (xs : List (Dir × PoolEvent)) (free : List ℕ) → AreParted xs [] free →
    AllByRecursion (λ x. x.1.message ≡ None) xs
all_bare xs free parted = by_index (λ (x : Dir × PoolEvent). x.1.message ≡ None) (first_sent []) xs
    (λ i lt. parted.bare i (omega (arith, parted.each i lt)))

-- the first of the order, by its number
front_of : (order : List ℕ) (k : ℕ) → slice_get order 0 ≡ Some k → order ≡ k ∷ drop 1 order
front_of [] k at = absurd (cc)
front_of (i ∷ order) k at = let same : i ≡ k = cc in λ j. same j ∷ order

pub front_at : (xs olds : List (Dir × PoolEvent)) (order : List ℕ) (first : ℕ) → IsFirst first order →
    standing xs order ≡ olds → 0 < length olds → slice_get order 0 ≡ Some first
front_at xs olds [] first is stands some = absurd (omega (arith, some, ap length stands))
front_at xs olds (k ∷ order) first is stands some = ap Some (sym (is (omega arith)))

pub number_of : (order : List ℕ) (k : ℕ) → slice_get order 0 ≡ Some k → k ≡ first_number order
number_of [] k at = absurd (cc)
number_of (i ∷ order) k at = cc

pub number_of_none : (order : List ℕ) → slice_get order 0 ≡ None → 0 ≡ first_number order
number_of_none [] at = refl
number_of_none (i ∷ order) at = absurd (cc)

-- with one more number after an order, the first is that number where there was none, and stays where there was one
pub first_alone : (order : List ℕ) (k : ℕ) → length order ≡ 0 → IsFirst k (order ++ k ∷ [])
first_alone [] k none = λ some. refl
first_alone (i ∷ order) k none = absurd (omega (arith, none))

pub first_before : (order : List ℕ) (first k : ℕ) → 0 < length order → IsFirst first order →
    IsFirst first (order ++ k ∷ [])
first_before [] first k some is = absurd (omega (arith, some))
first_before (i ∷ order) first k some is = λ more. is some

pub is_none : (order : List ℕ) → true ≡ (length order == 0) → length order ≡ 0
is_none order none = eqb-true (length order) 0 (sym none)

pub is_some : (order : List ℕ) → false ≡ (length order == 0) → 0 < length order
is_some order some = let not : length order ≢ 0 = eqb-false (length order) 0 (sym some) in omega (arith, not)

-- what an index gives
pub value_at : (xs : List (Dir × PoolEvent)) (k : ℕ) (x : Dir × PoolEvent) → k < length xs → x ≡ slice_index_or xs k x →
    x ≡ slot_at xs k
value_at [] k x lt is = absurd (omega (arith, lt))
value_at (y ∷ xs) zero x lt is = is
value_at (y ∷ xs) (suc k) x lt is = value_at xs k x (omega (arith, lt)) is

-- an event by its number in the order
counted : (order : List ℕ) (i k : ℕ) → slice_get order i ≡ Some k → 0 < times k order
counted [] i k at = absurd (cc)
counted (n ∷ order) zero k at = let same : n ≡ k = cc in omega (arith, hit_same k, ap (hit k) same)
counted (n ∷ order) (suc i) k at = omega (arith, counted order i k at)

pub got_within : (xs : List (Dir × PoolEvent)) (order free : List ℕ) (i k : ℕ) → AreParted xs order free →
    slice_get order i ≡ Some k → k < length xs
got_within xs order free i k parted at = parted.within k (omega (arith, counted order i k at))

pub got_at : (xs : List (Dir × PoolEvent)) (order : List ℕ) (i k : ℕ) → slice_get order i ≡ Some k →
    slice_get (standing xs order) i ≡ Some (slot_at xs k)
got_at xs [] i k at = absurd (cc)
got_at xs (n ∷ order) zero k at = let same : n ≡ k = cc in ap (λ m. Some (slot_at xs m)) same
got_at xs (n ∷ order) (suc i) k at = got_at xs order i k at

pub none_first : (xs : List (Dir × PoolEvent)) (order : List ℕ) → length order ≡ 0 → slice_get (standing xs order) 0 ≡
    None
none_first xs [] none = refl
none_first xs (n ∷ order) none = absurd (omega (arith, none))

pub none_after : (xs : List (Dir × PoolEvent)) (order : List ℕ) (i : ℕ) → slice_get order i ≡ None →
    length (standing xs order) ≤ i
none_after xs [] i at = omega arith
none_after xs (n ∷ order) zero at = absurd (cc)
none_after xs (n ∷ order) (suc i) at = omega (arith, none_after xs order i at)

pub stand_count : (xs : List (Dir × PoolEvent)) (order : List ℕ) → length (standing xs order) ≡ length order
stand_count xs [] = refl
stand_count xs (k ∷ order) = ap suc (stand_count xs order)

pub none_free : (free : List ℕ) → length free ≡ 0 → free ≡ []
none_free [] is = refl
none_free (k ∷ free) is = absurd (omega (arith, is))

pub none_stand : (xs : List (Dir × PoolEvent)) (order : List ℕ) → standing xs order ≡ [] → order ≡ []
none_stand xs [] is = refl
none_stand xs (k ∷ order) is = absurd (omega (arith, ap length is))

-- the last of slots without messages has none
pub last_bare : (xs ys : List (Dir × PoolEvent)) (x : Dir × PoolEvent) → xs ≡ ys ++ x ∷ [] →
    AllByRecursion (λ x. x.1.message ≡ None) xs → x.1.message ≡ None
last_bare xs ys x is all = go ys (subst (λ zs. AllByRecursion (λ x. x.1.message ≡ None) zs) is all) where
  go : (ys : List (Dir × PoolEvent)) → AllByRecursion (λ x. x.1.message ≡ None) (ys ++ x ∷ []) → x.1.message ≡ None
  go [] all = all.0
  go (y ∷ ys) all = go ys all.1

module _ (xs : List (Dir × PoolEvent)) (order free : List ℕ) (k : ℕ) (parted : AreParted xs order free)
    (at : slice_get order 0 ≡ Some k) where
  ahead : AreParted xs (k ∷ drop 1 order) free
  ahead = subst (λ o. AreParted xs o free) (front_of order k at) parted

  pub front_within : k < length xs
  front_within = first_within xs (drop 1 order) free k (first_sent []) ahead

  pub front_is : first_sent (standing xs order) ≡ slot_at xs k
  front_is = ap (λ o. first_sent (standing xs o)) (front_of order k at)

  pub front_value : (x : Dir × PoolEvent) → x ≡ slice_index_or xs k x → x ≡ first_sent (standing xs order)
  front_value x is = value_at xs k x front_within is ∙ sym front_is

  pub front_room : length free < length xs
  front_room = omega (arith, parted.count, ap length (front_of order k at))

  pub front_changed : (y : Dir × PoolEvent) → AreParted (set xs k y) order free
  front_changed y = subst (λ o. AreParted (set xs k y) o free) (sym (front_of order k at))
      (first_changed xs (drop 1 order) free k y ahead)

  pub front_stands : (y : Dir × PoolEvent) → standing (set xs k y) order ≡ y ∷ drop 1 (standing xs order)
  front_stands y =
      ap (standing (set xs k y)) (front_of order k at)
      ∙ first_stands xs (drop 1 order) free k y ahead
      ∙ sym (ap (λ o. y ∷ drop 1 (standing xs o)) (front_of order k at))

  pub front_ended : (slot_at xs k).1.message ≡ None → AreParted xs (drop 1 order) (free ++ k ∷ [])
  front_ended none = first_ended xs (drop 1 order) free k (first_sent []) ahead none

  pub front_round : AreParted xs (drop 1 order ++ k ∷ []) free
  front_round = goes_round xs (drop 1 order) free k (first_sent []) ahead

-- the last of the order, by its number
split_at : (order : List ℕ) (n k : ℕ) → n + 1 ≡ length order → slice_get order n ≡ Some k →
    (olds : List ℕ) × (order ≡ olds ++ k ∷ [])
split_at [] n k is at = absurd (omega (arith, is))
split_at (i ∷ []) zero k is at = let same : i ≡ k = cc in ([], λ j. same j ∷ [])
split_at (i ∷ []) (suc n) k is at = absurd (omega (arith, is))
split_at (i ∷ i' ∷ order) zero k is at = absurd (omega (arith, is))
split_at (i ∷ i' ∷ order) (suc n) k is at = let rest = split_at (i' ∷ order) n k (omega (arith, is)) at in
    (i ∷ rest.0, λ j. i ∷ rest.1 j)

last_of : (order : List ℕ) (k : ℕ) → last_item order ≡ Some k → (olds : List ℕ) × (order ≡ olds ++ k ∷ [])
last_of [] k at = absurd (cc)
last_of (i ∷ order) k at = split_at (i ∷ order) (length (i ∷ order) - 1) k (omega arith) at

fronts : (xs ys : List (Dir × PoolEvent)) (x y : Dir × PoolEvent) → xs ++ x ∷ [] ≡ ys ++ y ∷ [] → (xs ≡ ys) × (x ≡ y)
fronts [] [] x y same = (refl, ap first_sent same)
fronts [] (y' ∷ ys) x y same = absurd (omega (arith, ap length same, length-append ys (y ∷ [])))
fronts (x' ∷ xs) [] x y same = absurd (omega (arith, ap length same, length-append xs (x ∷ [])))
fronts (x' ∷ xs) (y' ∷ ys) x y same =
    let here : x' ≡ y' = ap first_sent same in let rest = fronts xs ys x y (ap (drop 1) same) in
    ((λ j. here j ∷ rest.0 j), rest.1)

module _ (xs olds : List (Dir × PoolEvent)) (e : Dir × PoolEvent) (order free : List ℕ) (k : ℕ)
    (parted : AreParted xs order free)
    (at : last_item order ≡ Some k) (is : standing xs order ≡ olds ++ e ∷ []) where
  abbrev init : List ℕ
  init = (last_of order k at).0

  split : order ≡ init ++ k ∷ []
  split = (last_of order k at).1

  following : AreParted xs (init ++ k ∷ []) free
  following = subst (λ o. AreParted xs o free) split parted

  both : (standing xs init ≡ olds) × (slot_at xs k ≡ e)
  both = fronts (standing xs init) olds (slot_at xs k) e
      (sym (map-append (slot_at xs) init (k ∷ [])) ∙ sym (ap (standing xs) split) ∙ is)

  pub back_within : k < length xs
  back_within = last_within xs init free k e following

  pub back_is : slot_at xs k ≡ e
  back_is = both.1

  pub back_changed : (y : Dir × PoolEvent) → AreParted (set xs k y) order free
  back_changed y = subst (λ o. AreParted (set xs k y) o free) (sym split) (last_changed xs init free k y following)

  pub back_stands : (y : Dir × PoolEvent) → standing (set xs k y) order ≡ olds ++ y ∷ []
  back_stands y = ap (standing (set xs k y)) split ∙ last_stands xs init free k y following ∙ (λ j. both.0 j ++ y ∷ [])

-- the last of some events, after those before it
pub last_whole : (es : List (Dir × PoolEvent)) → 0 < length es → es ≡ before_last es ++ last_sent es ∷ []
last_whole [] some = absurd (omega (arith, some))
last_whole (e ∷ []) some = refl
last_whole (e ∷ e' ∷ es) some = let rest = last_whole (e' ∷ es) (omega arith) in λ j. e ∷ rest j

pub last_pushed : (es : List (Dir × PoolEvent)) (e : Dir × PoolEvent) → last_sent (es ++ e ∷ []) ≡ e
last_pushed [] e = refl
last_pushed (e' ∷ []) e = refl
last_pushed (e' ∷ e'' ∷ es) e = last_pushed (e'' ∷ es) e

pub rest_pushed : (es : List (Dir × PoolEvent)) (e : Dir × PoolEvent) → before_last (es ++ e ∷ []) ≡ es
rest_pushed [] e = refl
rest_pushed (e' ∷ []) e = refl
rest_pushed (e' ∷ e'' ∷ es) e = ap (λ more. e' ∷ more) (rest_pushed (e'' ∷ es) e)

-- where an event stands, there is a number
pub some_stand : (xs es : List (Dir × PoolEvent)) (order : List ℕ) → standing xs order ≡ es → 0 < length es →
    0 < length order
some_stand xs es order is some = omega (arith, some, ap length is, stand_count xs order)

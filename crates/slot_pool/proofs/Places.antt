-- Laws of the places of a pool's block: what their changes show, and that the free ones stay linked.
use Rattle.std.proofs.Common.{◌≡◌, ℕ, zero, suc, append_assoc, get_or-append-add, ◌+◌, ◌-◌, ◌^◌, ◌<◌, ◌≤◌, List, []}
use Rattle.std.proofs.Common.{◌∷◌, ◌++◌, inl, inr, map, length, take, get_or, set, replicate, refl, sym, ap, ◌∙◌, subst}
use Rattle.std.proofs.Common.{arith, length-append, length-set, get_or-set_same, get_or-set_other}
use Rattle.std.proofs.lemmas.List.{length-map, length-replicate, get_or-map, get_or-replicate, get_or_append_left}
use Rattle.std.proofs.lemmas.List.{get_or-append_right, map-set, map-append, set-append_left, set-append_right}
use Rattle.std.proofs.lemmas.List.{get_or_past}
use Rattle.std.proofs.lemmas.List.Elements.{All-set, All-append, All-cons, All-nil, All-from_get_or}
use Rattle.std.specs.Prelude.{All}
use Rattle.std.proofs.lemmas.Bool.Decides.{eqb_tells}
use Rattle.slot_pool.specs.Held.{Held, unused, held_at, count_at, free_by}
use Rattle.slot_pool.specs.Times.{hit, times}
use Rattle.slot_pool.specs.Places.{shown_place, shown_slots, Linked, IsPool}
use Rattle.slot_pool.specs.Spots.{Spot, no_spot, spot_at}
use Rattle.slot_pool.proofs.Held.{below_or_not, count-held_if, free_by_used, used_of_free_by}
use Rattle.slot_pool.proofs.Times.{hit_or_not, hit_same, hit_other}
use Rattle.slot_pool.specs.declared.slot_record.TheConstants.{LONGEST}

pub length-shown : (ps : List Spot) (n : ℕ) → length ps ≤ n → length (shown_slots ps n) ≡ n
length-shown ps n le =
    omega (
      arith,
      length-append (map shown_place ps) (replicate (n - length ps) unused),
      length-map ps shown_place,
      length-replicate (n - length ps) unused,
    )

pub held_at-shown : (ps : List Spot) (n i : ℕ) → i < length ps → held_at (shown_slots ps n) i ≡
    shown_place (spot_at ps i)
held_at-shown ps n i lt = let long = length-map ps shown_place in
    get_or_append_left (map shown_place ps) (replicate (n - length ps) unused) unused i (omega arith) ∙
    get_or-map shown_place ps i no_spot unused lt

held_at-none : (k i : ℕ) → get_or (replicate k unused) i unused ≡ unused
held_at-none k i = elim (below_or_not i k) [
  | inl lt ↦ get_or-replicate k i unused unused lt
  | inr le ↦ get_or_past (replicate k unused) i unused
      (omega (arith, length-replicate k unused))
]

pub held_at-shown_past : (ps : List Spot) (n i : ℕ) → length ps ≤ i → held_at (shown_slots ps n) i ≡ unused
held_at-shown_past ps n i le = get_or-append_right (map shown_place ps) (replicate (n - length ps) unused) (length ps) i
    unused (length-map ps shown_place) le ∙ held_at-none (n - length ps) (i - length ps)

-- a slot with a reference has a place, which counts it
pub in_use : (ps : List Spot) (n i : ℕ) → 0 < count_at (shown_slots ps n) i →
    (i < length ps) × (count_at (shown_slots ps n) i ≡ (spot_at ps i).count)
in_use ps n i used = elim (below_or_not i (length ps)) [
  | inl lt ↦ (
    lt,
    ap (λ h. h.count) (held_at-shown ps n i lt) ∙
        count-held_if (spot_at ps i).count (take (spot_at ps i).len (spot_at ps i).bytes),
  )
  | inr le ↦ let none : count_at (shown_slots ps n) i ≡ 0 = ap (λ h. h.count) (held_at-shown_past ps n i le) in
      absurd (omega arith)
]

pub shown-set : (ps : List Spot) (n i : ℕ) (w : Spot) → i < length ps →
    shown_slots (set ps i w) n ≡ set (shown_slots ps n) i (shown_place w)
shown-set ps n i w lt = let long = length-map ps shown_place in
    (λ j. map-set shown_place ps i w j ++ replicate (n - length-set ps i w j) unused)
    ∙ sym (set-append_left (map shown_place ps) (replicate (n - length ps) unused) i (shown_place w) (omega arith))

-- one more place shows a slot that was never used before
first_of_many : (k : ℕ) (h : Held) → 0 < k → set (replicate k unused) 0 h ≡ h ∷ replicate (k - 1) unused
first_of_many zero h pos = absurd (omega arith)
first_of_many (suc k) h pos = let less : k ≡ suc k - 1 = omega arith in ap (λ m. h ∷ replicate m unused) less

pub shown-push : (ps : List Spot) (n : ℕ) (w : Spot) → length ps < n →
    shown_slots (ps ++ w ∷ []) n ≡ set (shown_slots ps n) (length ps) (shown_place w)
shown-push ps n w lt =
    let hs = map shown_place ps in let long = length-map ps shown_place in let k = n - length ps in
    let one : n - length (ps ++ w ∷ []) ≡ k - 1 = omega (arith, length-append ps (w ∷ [])) in
    let at : length ps - length ps ≡ 0 = omega arith in
    let rest : replicate (n - length (ps ++ w ∷ [])) unused ≡ replicate (k - 1) unused =
    ap (λ m. replicate m unused) one in
    (λ j. map-append shown_place ps (w ∷ []) j ++ rest j) ∙
    append_assoc hs (shown_place w ∷ []) (replicate (k - 1) unused)
    ∙ ap (λ l. hs ++ l) (sym
    (ap (λ m. set (replicate k unused) m (shown_place w)) at ∙ first_of_many k (shown_place w) (omega arith)))
    ∙ sym (set-append_right hs (replicate k unused) (length ps) (length ps) (shown_place w) long (omega arith))

-- where no place is free and none is new, each slot has a reference
pub all_used : (ps : List Spot) (n : ℕ) → n ≤ length ps → ((i : ℕ) → i < length ps → 0 < (spot_at ps i).count) →
    All (λ (h : Held). 0 < h.count) (shown_slots ps n)
all_used ps n le used =
    let none : n - length ps ≡ 0 = omega arith in let long = length-map ps shown_place in
    let all : All (λ (h : Held). 0 < h.count) (map shown_place ps) =
    All-from_get_or (λ (h : Held). 0 < h.count) (map shown_place ps) unused (λ i lt.
    let within : i < length ps = omega arith in let place = spot_at ps i in let here = used i within in
    let same : (get_or (map shown_place ps) i unused).count ≡ place.count =
    ap (λ h. h.count) (get_or-map shown_place ps i no_spot unused within) ∙
    count-held_if place.count (take place.len place.bytes) in
    omega arith) in
    subst (λ m. All (λ (h : Held). 0 < h.count) (map shown_place ps ++ replicate m unused)) (sym none)
    (All-append (λ (h : Held). 0 < h.count) (map shown_place ps) [] all
    (All-from_get_or (λ (h : Held). 0 < h.count) [] unused (λ i lt. absurd (omega arith))))

-- ---- the links

-- a write to a place that isn't in the list leaves the list as it is
Linked-set : (ps : List Spot) (n i : ℕ) (w : Spot) (at : ℕ) (fs : List ℕ) → times i fs ≡ 0 → Linked ps n at fs →
    Linked (set ps i w) n at fs
Linked-set ps n i w at [] out l = l
Linked-set ps n i w at (f ∷ fs) out l =
    let apart : hit i f ≡ 0 = omega arith in let differ : f ≡ i → ⊥ = λ e. let hits : hit i f ≡ 1 = ap (hit i) e ∙
    hit_same i in absurd (omega arith) in
    let later : Linked (set ps i w) n (spot_at ps f).next fs = Linked-set ps n i w (spot_at ps f).next fs (omega arith)
    l.2 in (
      l.0,
      omega (arith, length-set ps i w, l.1),
      subst (λ m. Linked (set ps i w) n m fs) (ap (λ p. p.next) (sym (get_or-set_other ps i f w no_spot differ)))
          later,
    )

-- nor does a place after the others
Linked-push : (ps : List Spot) (n : ℕ) (w : Spot) (at : ℕ) (fs : List ℕ) → Linked ps n at fs →
    Linked (ps ++ w ∷ []) n at fs
Linked-push ps n w at [] l = l
Linked-push ps n w at (f ∷ fs) l = (
  l.0,
  omega (arith, length-append ps (w ∷ []), l.1),
  subst (λ m. Linked (ps ++ w ∷ []) n m fs) (ap (λ p. p.next) (sym (get_or_append_left ps (w ∷ []) no_spot f l.1)))
      (Linked-push ps n w (spot_at ps f).next fs l.2),
)

free_count : (n m : ℕ) → 1 + m ≡ free_by n → n ≡ 0
free_count zero m e = refl
free_count (suc n) m e = absurd (omega arith)

-- a place in use is changed, and stays in use
pub stays : (ps : List Spot) (n first i : ℕ) (w : Spot) → IsPool ps n first → i < length ps → 0 < (spot_at ps i).count →
    0 < w.count → w.len ≤ LONGEST → IsPool (set ps i w) n first
stays ps n first i w is lt used pos fits =
    let long = length-set ps i w in let out : times i is.free ≡ 0 = is.once i lt ∙
    free_by_used (spot_at ps i).count used in
    record {
      few = is.few;
      room = omega (arith, is.room);
      sized = All-set (λ (p : Spot). p.len ≤ LONGEST) ps i w fits is.sized;
      free = is.free;
      linked = Linked-set ps n i w first is.free out is.linked;
      once = λ j within. let inside : j < length ps = omega arith in elim (eqb_tells j i) [
        | inl same ↦ subst (λ k. times k is.free ≡ free_by (spot_at (set ps i w) k).count) (sym same.1)
            (out ∙ sym (ap (λ p. free_by p.count) (get_or-set_same ps i w no_spot lt) ∙ free_by_used w.count pos))
        | inr other ↦ is.once j inside ∙ ap (λ p. free_by p.count) (sym (get_or-set_other ps i j w no_spot other.1))
      ];
    }

-- a place in use is freed, and the first of the free ones
pub freed : (ps : List Spot) (n first i : ℕ) (w : Spot) → IsPool ps n first → i < length ps → 0 < (spot_at ps i).count →
    w.count ≡ 0 → w.next ≡ first → w.len ≤ LONGEST → IsPool (set ps i w) n i
freed ps n first i w is lt used none next fits =
    let long = length-set ps i w in let out : times i is.free ≡ 0 = is.once i lt ∙
    free_by_used (spot_at ps i).count used in let here = get_or-set_same ps i w no_spot lt in
    record {
      few = is.few;
      room = omega (arith, is.room);
      sized = All-set (λ (p : Spot). p.len ≤ LONGEST) ps i w fits is.sized;
      free = i ∷ is.free;
      linked = (
        refl,
        omega arith,
        subst (λ m. Linked (set ps i w) n m is.free) (sym (ap (λ p. p.next) here ∙ next))
            (Linked-set ps n i w first is.free out is.linked),
      );
      once = λ j within. let inside : j < length ps = omega arith in elim (hit_or_not j i) [
        | inl same ↦ let one : times j (i ∷ is.free) ≡ 1 = let zero_there : times j is.free ≡ 0 =
            ap (λ k. times k is.free) same.0 ∙ out in omega (arith, same.1) in
            one ∙ sym (ap (λ k. free_by (spot_at (set ps i w) k).count) same.0 ∙ ap (λ p. free_by p.count) here ∙
            ap free_by none)
        | inr other ↦ let rest : times j (i ∷ is.free) ≡ times j is.free = omega (arith, other.1) in
            rest ∙ is.once j inside ∙ ap (λ p. free_by p.count) (sym (get_or-set_other ps i j w no_spot other.0))
      ];
    }

-- the first free place is taken
taken_from : (ps : List Spot) (n first : ℕ) (w : Spot) (fs : List ℕ) → n < 2 ^ 32 → length ps ≤ n →
    All (λ p. p.len ≤ LONGEST) ps
    → Linked ps n first fs → ((i : ℕ) → i < length ps → times i fs ≡ free_by (spot_at ps i).count)
    → first < length ps → 0 < w.count → w.len ≤ LONGEST → IsPool (set ps first w) n (spot_at ps first).next ×
    ((spot_at ps first).count ≡ 0)
taken_from ps n first w [] few room sized l once lt pos fits = absurd (omega arith)
taken_from ps n first w (f ∷ fs) few room sized l once lt pos fits =
    let long = length-set ps first w in let same : first ≡ f = l.0 in let here =
    get_or-set_same ps first w no_spot lt in
    let hits : hit first f ≡ 1 = ap (hit first) (sym same) ∙ hit_same first in
    let free : (spot_at ps first).count ≡ 0 = free_count (spot_at ps first).count (times first fs)
    (ap (λ m. m + times first fs) (sym hits) ∙ once first lt) in
    let out : times first fs ≡ 0 = let all : hit first f + times first fs ≡ 1 = once first lt ∙ ap free_by free in
    omega arith in (
      record {
        few = few;
        room = omega arith;
        sized = All-set (λ (p : Spot). p.len ≤ LONGEST) ps first w fits sized;
        free = fs;
        linked = Linked-set ps n first w (spot_at ps first).next fs out
            (subst (λ m. Linked ps n (spot_at ps m).next fs) (sym same) l.2);
        once = λ j within. let inside : j < length ps = omega arith in elim (eqb_tells j first) [
          | inl is ↦ ap (λ k. times k fs) is.1 ∙ out ∙
              sym (ap (λ k. free_by (spot_at (set ps first w) k).count) is.1 ∙ ap (λ p. free_by p.count) here ∙
              free_by_used w.count pos)
          | inr other ↦ let apart : hit j f ≡ 0 = hit_other j f (λ e. other.1 (e ∙ sym same)) in
              let rest : times j fs ≡ hit j f + times j fs = omega arith in
              rest ∙ once j inside ∙ ap (λ p. free_by p.count) (sym (get_or-set_other ps first j w no_spot other.1))
        ];
      },
      free,
    )

pub taken : (ps : List Spot) (n first : ℕ) (w : Spot) → IsPool ps n first → first < length ps → 0 < w.count →
    w.len ≤ LONGEST → IsPool (set ps first w) n (spot_at ps first).next × ((spot_at ps first).count ≡ 0)
taken ps n first w is lt pos fits = taken_from ps n first w is.free is.few is.room is.sized is.linked is.once lt pos
    fits

-- a first past the places says that none of them is free, and that it is the end
none_free : (ps : List Spot) (n first : ℕ) (fs : List ℕ) → Linked ps n first fs →
    ((i : ℕ) → i < length ps → times i fs ≡ free_by (spot_at ps i).count)
    → length ps ≤ first → (first ≡ n) × ((i : ℕ) → i < length ps → 0 < (spot_at ps i).count)
none_free ps n first [] l once past = (l, λ i lt. used_of_free_by (spot_at ps i).count (sym (once i lt)))
none_free ps n first (f ∷ fs) l once past = let below : f < length ps = l.1 in let same : first ≡ f = l.0 in
    absurd (omega arith)

pub all_in_use : (ps : List Spot) (n first : ℕ) → IsPool ps n first → length ps ≤ first → (i : ℕ) → i < length ps →
    0 < (spot_at ps i).count
all_in_use ps n first is past = (none_free ps n first is.free is.linked is.once past).1

-- a place that was never used is taken
pub pushed : (ps : List Spot) (n first : ℕ) (w : Spot) → IsPool ps n first → length ps ≤ first → length ps < n →
    0 < w.count → w.len ≤ LONGEST → IsPool (ps ++ w ∷ []) n first
pushed ps n first w is past lt pos fits =
    let long = length-append ps (w ∷ []) in let none = none_free ps n first is.free is.linked is.once past in
    record {
      few = is.few;
      room = omega arith;
      sized = All-append (λ (p : Spot). p.len ≤ LONGEST) ps (w ∷ []) is.sized
          (All-cons (λ (p : Spot). p.len ≤ LONGEST) w [] fits (All-nil (λ (p : Spot). p.len ≤ LONGEST)));
      free = [];
      linked = none.0;
      once = λ j within. elim (below_or_not j (length ps)) [
        | inl inside ↦ sym (ap (λ p. free_by p.count) (get_or_append_left ps (w ∷ []) no_spot j inside) ∙
            free_by_used (spot_at ps j).count (none.1 j inside))
        | inr last ↦ let same : j ≡ length ps + 0 = omega arith in
            sym (ap (λ k. free_by (spot_at (ps ++ w ∷ []) k).count) same ∙
            ap (λ p. free_by p.count) (get_or-append-add ps (w ∷ []) 0 no_spot) ∙ free_by_used w.count pos)
      ];
    }

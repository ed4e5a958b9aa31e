-- Laws of references and counts: what each call moves, how moves compose, and that slots suffice.
use Rattle.std.proofs.Common.{◌≡◌, ℕ, zero, suc, ◌+◌, ◌-◌, ◌<◌, ◌≤◌, List, [], ◌∷◌, ◌++◌, inl, inr, length, set}
use Rattle.std.proofs.Common.{replicate, refl, sym, ap, ◌∙◌, subst, arith, length-set, get_or-set_same}
use Rattle.std.proofs.Common.{get_or-set_other}
use Rattle.std.proofs.lemmas.List.{get_or-replicate, get_or_past, length-replicate}
use Rattle.std.proofs.lemmas.List.Elements.{All-head, All-tail, All-cons, All-nil}
use Rattle.slot_pool.specs.Held.{Held, held_bytes, unused, held_at, count_at, bytes_at, one_less, free_by, spare}
use Rattle.slot_pool.specs.Held.{IsFull}
use Rattle.slot_pool.specs.Held.{Puts}
use Rattle.slot_pool.specs.Times.{times}
use Rattle.slot_pool.specs.References.{Moved, Exact, Covers}
use Rattle.slot_pool.proofs.Held.{below_or_not, count-held_if, held_if_used, free_by_used, used_of_free_by}
use Rattle.slot_pool.proofs.Times.{hit_or_not, hit_same, hit_other, times-append}

-- a slot with a reference is one of the pool's
pub used_within : (p : List Held) (s : ℕ) → 0 < count_at p s → s < length p
used_within p s used =
    elim (below_or_not s (length p)) [
      | inl lt ↦ lt
      | inr past ↦ let none : count_at p s ≡ 0 = ap (λ (h : Held). h.count) (get_or_past p s unused past) in
          absurd (omega arith)
    ]

module _ (p : List Held) (s : ℕ) (h : Held) (within : s < length p) where
  here : (i : ℕ) → i ≡ s → held_at (set p s h) i ≡ h
  here i same = ap (held_at (set p s h)) same ∙ get_or-set_same p s h unused within

  elsewhere : (i : ℕ) → (i ≡ s → ⊥) → held_at (set p s h) i ≡ held_at p i
  elsewhere i other = get_or-set_other p s i h unused other

  -- a slot is written: its count says how many references came and went
  written : (from to : List ℕ) → h.count + times s from ≡ count_at p s + times s to →
      ((i : ℕ) → (i ≡ s → ⊥) → times i from ≡ times i to) → (times s from < count_at p s → h.bytes ≡ bytes_at p s)
      → Moved p (set p s h) from to
  written from to count others bytes = record {
    slots = length-set p s h;
    counts = λ i. elim (hit_or_not i s) [
      | inl same ↦ ap (λ (x : Held). x.count + times i from) (here i same.0) ∙ ap (λ k. h.count + times k from) same.0 ∙
          count ∙ ap (λ k. count_at p k + times k to) (sym same.0)
      | inr other ↦ ap (λ (x : Held). x.count + times i from) (elsewhere i other.0) ∙
          ap (λ m. count_at p i + m) (others i other.0)
    ];
    kept = λ i lt. elim (hit_or_not i s) [
      | inl same ↦ ap (λ (x : Held). x.bytes) (here i same.0) ∙
          bytes (subst (λ k. times k from < count_at p k) same.0 lt) ∙ ap (bytes_at p) (sym same.0)
      | inr other ↦ ap (λ (x : Held). x.bytes) (elsewhere i other.0)
    ];
  }

one_there : (s : ℕ) → times s (s ∷ []) ≡ 1
one_there s = let one = hit_same s in omega arith

none_there : (s i : ℕ) → (i ≡ s → ⊥) → times i (s ∷ []) ≡ 0
none_there s i other = let none = hit_other i s other in omega arith

-- ---- what each call moves

pub puts-moves : (p q : List Held) (bs : List ℕ) (s : ℕ) → Puts p q bs s → Moved p q [] (s ∷ [])
puts-moves p q bs s puts =
    let free = puts.free in let one = one_there s in
    subst (λ r. Moved p r [] (s ∷ [])) (sym puts.holds)
    (written p s (held_bytes 1 bs) puts.within [] (s ∷ []) (omega arith) (λ i other. sym (none_there s i other))
    (λ lt. absurd (omega arith)))

pub keep-moves : (p : List Held) (s : ℕ) → 0 < count_at p s →
    Moved p (set p s (held_bytes (count_at p s + 1) (bytes_at p s))) [] (s ∷ [])
keep-moves p s used =
    let one = one_there s in written p s (held_bytes (count_at p s + 1) (bytes_at p s)) (used_within p s used) []
    (s ∷ [])
    (omega arith) (λ i other. sym (none_there s i other)) (λ lt. refl)

pub end-moves : (p : List Held) (s : ℕ) → 0 < count_at p s → Moved p (set p s (one_less (held_at p s))) (s ∷ []) []
end-moves p s used =
    let one = one_there s in let n = count_at p s - 1 in let count = count-held_if n (bytes_at p s) in
    written p s (one_less (held_at p s)) (used_within p s used) (s ∷ []) [] (omega arith) (none_there s)
    (λ lt. ap (λ (h : Held). h.bytes) (held_if_used n (bytes_at p s) (omega arith)))

-- ---- how moves compose

pub moved-same : (p : List Held) (xs : List ℕ) → Moved p p xs xs
moved-same p xs = record { slots = refl; counts = λ i. refl; kept = λ i lt. refl }

pub moved-chain : (p q r : List Held) (a b c : List ℕ) → Moved p q a b → Moved q r b c → Moved p r a c
moved-chain p q r a b c m n = record {
  slots = n.slots ∙ m.slots;
  counts = λ i. let one = m.counts i in let two = n.counts i in omega arith;
  kept = λ i lt. let one = m.counts i in n.kept i (omega arith) ∙ m.kept i lt;
}

pub moved-reordered : (p q : List Held) (a b a' b' : List ℕ) → ((i : ℕ) → times i a ≡ times i a') →
    ((i : ℕ) → times i b ≡ times i b') → Moved p q a b → Moved p q a' b'
moved-reordered p q a b a' b' from to m = record {
  slots = m.slots;
  counts = λ i. let count = m.counts i in let one = from i in let two = to i in omega arith;
  kept = λ i lt. let one = from i in m.kept i (omega arith);
}

-- other references stay as they are
pub moved-beside : (p q : List Held) (a b c : List ℕ) → Moved p q a b → Moved p q (a ++ c) (b ++ c)
moved-beside p q a b c m = record {
  slots = m.slots;
  counts = λ i. let count = m.counts i in omega (arith, times-append i a c, times-append i b c);
  kept = λ i lt. let more = times-append i a c in m.kept i (omega arith);
}

pub moved-before : (p q : List Held) (a b c : List ℕ) → Moved p q a b → Moved p q (c ++ a) (c ++ b)
moved-before p q a b c m = record {
  slots = m.slots;
  counts = λ i. let count = m.counts i in omega (arith, times-append i c a, times-append i c b);
  kept = λ i lt. let more = times-append i c a in m.kept i (omega arith);
}

-- ---- exact counts

pub exact-fresh : (n : ℕ) → Exact (replicate n unused) []
exact-fresh n = record {
  exact = λ i. elim (below_or_not i n) [
    | inl lt ↦ ap (λ (h : Held). h.count) (get_or-replicate n i unused unused lt)
    | inr past ↦ ap (λ (h : Held). h.count)
        (get_or_past (replicate n unused) i unused (omega (arith, length-replicate n unused)))
  ];
}

pub exact-moved : (p q : List Held) (a b : List ℕ) → Exact p a → Moved p q a b → Exact q b
exact-moved p q a b e m = record { exact = λ i. let count = m.counts i in let was = e.exact i in omega arith }

pub exact-covers : (p : List Held) (a b : List ℕ) → Exact p (a ++ b) → Covers p a
exact-covers p a b e = record { covers = λ i. let all = e.exact i in let both = times-append i a b in omega arith }

pub covers-moved : (p q : List Held) (a b c : List ℕ) → Covers p (a ++ c) → Moved p q a b → Covers q (b ++ c)
covers-moved p q a b c covers m =
    record {
      covers = λ i. let count = m.counts i in let was = covers.covers i in let one = times-append i a c in
          let two = times-append i b c in omega arith;
    }

-- a slot to which others refer has its bytes still
pub others-keep : (p q : List Held) (a b c : List ℕ) (s : ℕ) → Covers p (a ++ c) → Moved p q a b → 0 < times s c →
    (0 < count_at q s) × (bytes_at q s ≡ bytes_at p s)
others-keep p q a b c s covers m refers =
    let count = m.counts s in let was = covers.covers s in let both = times-append s a c in
    (omega arith, m.kept s (omega arith))

-- ---- that slots suffice

spare-set : (p : List Held) (s : ℕ) (h : Held) → s < length p → spare (set p s h) + free_by (count_at p s) ≡
    spare p + free_by h.count
spare-set [] s h within = absurd (omega arith)
spare-set (x ∷ p) zero h within = omega arith
spare-set (x ∷ p) (suc s) h within = let rest = spare-set p s h (omega arith) in omega arith

pub spare-fresh : (n : ℕ) → spare (replicate n unused) ≡ n
spare-fresh zero = refl
spare-fresh (suc n) = ap (λ m. 1 + m) (spare-fresh n) ∙ omega arith

pub puts-spare : (p q : List Held) (bs : List ℕ) (s : ℕ) → Puts p q bs s → spare q + 1 ≡ spare p
puts-spare p q bs s puts =
    let one = ap free_by puts.free in let change = spare-set p s (held_bytes 1 bs) puts.within in let new =
    ap spare puts.holds in omega arith

pub keep-spare : (p : List Held) (s : ℕ) (bs : List ℕ) → 0 < count_at p s →
    spare (set p s (held_bytes (count_at p s + 1) bs)) ≡ spare p
keep-spare p s bs used =
    let old = free_by_used (count_at p s) used in let new = free_by_used (count_at p s + 1) (omega arith) in
    let change = spare-set p s (held_bytes (count_at p s + 1) bs) (used_within p s used) in omega arith

-- a slot is unused again with its last reference, and else as many are unused as before
pub end-spare : (p : List Held) (s : ℕ) → 0 < count_at p s → spare (set p s (one_less (held_at p s))) ≡
    spare p + free_by (count_at p s - 1)
end-spare p s used =
    let old = free_by_used (count_at p s) used in let new = ap free_by (count-held_if (count_at p s - 1) (bytes_at p s))
    in
    let change = spare-set p s (one_less (held_at p s)) (used_within p s used) in omega arith

pub spare-full : (p : List Held) → IsFull p → spare p ≡ 0
spare-full [] full = refl
spare-full (h ∷ p) full = let first = free_by_used h.count (All-head (λ (x : Held). 0 < x.count) h p full) in let rest =
    spare-full p (All-tail (λ (x : Held). 0 < x.count) h p full) in omega arith

pub full-spare : (p : List Held) → spare p ≡ 0 → IsFull p
full-spare [] e = All-nil (λ (x : Held). 0 < x.count)
full-spare (h ∷ p) e = All-cons (λ (x : Held). 0 < x.count) h p (used_of_free_by h.count (omega arith))
    (full-spare p (omega arith))

-- how many of the references are to the n slots from the number k on
abbrev to_slots : ℕ → ℕ → List ℕ → ℕ
to_slots k zero xs = 0
to_slots k (suc n) xs = times k xs + to_slots (suc k) n xs

to_slots-nil : (k n : ℕ) → to_slots k n [] ≡ 0
to_slots-nil k zero = refl
to_slots-nil k (suc n) = let rest = to_slots-nil (suc k) n in omega arith

to_slots-cons : (k n x : ℕ) (xs : List ℕ) → to_slots k n (x ∷ xs) ≡ to_slots k n (x ∷ []) + to_slots k n xs
to_slots-cons k zero x xs = refl
to_slots-cons k (suc n) x xs = let rest = to_slots-cons (suc k) n x xs in omega arith

to_slots_past : (k n x : ℕ) → x < k → to_slots k n (x ∷ []) ≡ 0
to_slots_past k zero x past = refl
to_slots_past k (suc n) x past = let none = hit_other k x (λ e. absurd (omega arith)) in let rest =
    to_slots_past (suc k) n x (omega arith) in omega arith

-- a reference is to one slot
to_slots_one : (k n x : ℕ) → to_slots k n (x ∷ []) ≤ 1
to_slots_one k zero x = omega arith
to_slots_one k (suc n) x = elim (hit_or_not k x) [
  | inl same ↦ let is = same.0 in let one = same.1 in let rest = to_slots_past (suc k) n x (omega arith) in omega arith
  | inr other ↦ let none = other.1 in let rest = to_slots_one (suc k) n x in omega arith
]

to_slots_all : (k n : ℕ) (xs : List ℕ) → to_slots k n xs ≤ length xs
to_slots_all k n [] = let none = to_slots-nil k n in omega arith
to_slots_all k n (x ∷ xs) = let first = to_slots_one k n x in let rest = to_slots_all k n xs in let both =
    to_slots-cons k n x xs in omega arith

one_or_more : (n : ℕ) → 1 ≤ free_by n + n
one_or_more zero = omega arith
one_or_more (suc n) = omega arith

slots_shared : (p : List Held) (k : ℕ) (xs : List ℕ) → ((i : ℕ) → i < length p → count_at p i ≡ times (k + i) xs) →
    length p ≤ spare p + to_slots k (length p) xs
slots_shared [] k xs exact = omega arith
slots_shared (h ∷ p) k xs exact =
    let at : k + 0 ≡ k = omega arith in let first : h.count ≡ times k xs = exact 0 (omega arith) ∙
    ap (λ m. times m xs) at in let some = one_or_more h.count in
    let rest = slots_shared p (suc k) xs
    (λ i lt. let next : k + suc i ≡ suc k + i = omega arith in exact (suc i) (omega arith) ∙
    ap (λ m. times m xs) next) in omega arith

-- each slot is unused or takes one of the references
pub slots-shared : (p : List Held) (xs : List ℕ) → Exact p xs → length p ≤ spare p + length xs
slots-shared p xs exact =
    let shared = slots_shared p 0 xs (λ i lt. let same : i ≡ 0 + i = omega arith in exact.exact i ∙
    ap (λ m. times m xs) same) in let all = to_slots_all 0 (length p) xs in omega arith

-- with fewer references than slots the pool isn't full
pub not-full : (p : List Held) (xs : List ℕ) → Exact p xs → length xs < length p → IsFull p → ⊥
not-full p xs exact fewer full = let shared = slots-shared p xs exact in let none = spare-full p full in
    absurd (omega arith)

-- a count is at most the number of references
pub times-most : (i : ℕ) (xs : List ℕ) → times i xs ≤ length xs
times-most i [] = omega arith
times-most i (x ∷ xs) = let rest = times-most i xs in
    elim (hit_or_not i x) [ inl same ↦ let one = same.1 in omega arith | inr other ↦ let none = other.1 in omega arith ]

pub count-most : (p : List Held) (xs : List ℕ) (i : ℕ) → Exact p xs → count_at p i ≤ length xs
count-most p xs i exact = let is = exact.exact i in let most = times-most i xs in omega arith

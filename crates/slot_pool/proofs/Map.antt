-- A pool is the finite map of its slots in use, and each change of a slot is the map's.
use Rattle.std.proofs.Common.{◌≡◌, ℕ, zero, suc, ◌+◌, ◌-◌, ◌<◌, List, [], ◌∷◌, ◌⊎◌, inl, inr, cond, true, false, Option}
use Rattle.std.proofs.Common.{Some, None, length, set, replicate, refl, sym, ap, ◌∙◌, subst, arith, get_or-set_same}
use Rattle.std.proofs.Common.{get_or-set_other, ext_get_or}
use Rattle.std.proofs.lemmas.Bool.Decides.{eqb_tells}
use Rattle.std.proofs.lemmas.List.{get_or-replicate, get_or_past, length-replicate}
use Rattle.std.specs.Cmp.{unsigned_tied}
use Rattle.std.specs.FinMap.{empty, find, get, insert, remove, get-from_entries, get-insert, get-remove, get-empty}
use Rattle.std.specs.FinMap.{same_map, nat_cmp-IsAntisymmetric}
use Rattle.std.specs.Ordering.{nat_cmp, eq_by_cmp}
use Rattle.std.proofs.lemmas.Cmp.{nat_cmp_total}
use Rattle.slot_pool.specs.Held.{Held, held_bytes, held_if, unused, held_at, count_at, bytes_at, one_less, Puts}
use Rattle.slot_pool.specs.Map.{if_used, in_use, with_entry, entries_from, as_map, ShowsUsed}
use Rattle.slot_pool.proofs.Held.{below_or_not, held_if_used}
use Rattle.slot_pool.proofs.References.{used_within}

-- a key is told from another
tied : (q k : ℕ) → ((q ≡ k) × (eq_by_cmp nat_cmp q k ≡ true)) ⊎ ((q ≡ k → ⊥) × (eq_by_cmp nat_cmp q k ≡ false))
tied q k = elim (eqb_tells q k)
    [ inl same ↦ inl (same.1, unsigned_tied q k ∙ same.0) | inr other ↦ inr (other.1, unsigned_tied q k ∙ other.0) ]

find_entry : (q s : ℕ) (o : Option Held) (es : List (ℕ × Held)) → (q ≡ s → ⊥) → find nat_cmp q (with_entry s o es) ≡
    find nat_cmp q es
find_entry q s None es other = refl
find_entry q s (Some h) es other = elim (tied q s) [
  | inl same ↦ absurd (other same.0)
  | inr differ ↦ ap (λ b. cond b (Some h) (find nat_cmp q es)) differ.1
]

find_here : (s : ℕ) (o : Option Held) (es : List (ℕ × Held)) → find nat_cmp s es ≡ None →
    find nat_cmp s (with_entry s o es) ≡ o
find_here s None es none = none
find_here s (Some h) es none = elim (tied s s) [
  | inl same ↦ ap (λ b. cond b (Some h) (find nat_cmp s es)) same.1
  | inr differ ↦ absurd (differ.0 refl)
]

find_before : (p : List Held) (s q : ℕ) → q < s → find nat_cmp q (entries_from s p) ≡ None
find_before [] s q lt = refl
find_before (h ∷ p) s q lt = find_entry q s (in_use h) (entries_from (suc s) p) (λ e. absurd (omega arith)) ∙
    find_before p (suc s) q (omega arith)

find_at : (p : List Held) (s i : ℕ) → find nat_cmp (s + i) (entries_from s p) ≡ in_use (held_at p i)
find_at [] s i = ap in_use (sym (get_or_past [] i unused (omega arith)))
find_at (h ∷ p) s zero = let at : s + 0 ≡ s = omega arith in
    ap (λ k. find nat_cmp k (entries_from s (h ∷ p))) at ∙
    find_here s (in_use h) (entries_from (suc s) p) (find_before p (suc s) s (omega arith))
find_at (h ∷ p) s (suc i) = let at : s + suc i ≡ suc s + i = omega arith in
    ap (λ k. find nat_cmp k (entries_from s (h ∷ p))) at ∙ find_entry (suc s + i) s (in_use h) (entries_from (suc s) p)
    (λ e. absurd (omega arith)) ∙ find_at p (suc s) i

-- the map has what the slots in use hold
pub get-as_map : (p : List Held) (s : ℕ) → get (as_map p) s ≡ in_use (held_at p s)
get-as_map p s = let at : s ≡ 0 + s = omega arith in get-from_entries nat_cmp_total (entries_from 0 p) s ∙
    ap (λ k. find nat_cmp k (entries_from 0 p)) at ∙ find_at p 0 s

used_in : (n : ℕ) (h : Held) → 0 < n → if_used n h ≡ Some h
used_in zero h pos = absurd (omega arith)
used_in (suc n) h pos = refl

pub get-used : (p : List Held) (s : ℕ) → 0 < count_at p s → get (as_map p) s ≡ Some (held_at p s)
get-used p s used = get-as_map p s ∙ used_in (count_at p s) (held_at p s) used

pub get-unused : (p : List Held) (s : ℕ) → count_at p s ≡ 0 → get (as_map p) s ≡ None
get-unused p s none = get-as_map p s ∙ ap (λ n. if_used n (held_at p s)) none

pub map-fresh : (n : ℕ) → as_map (replicate n unused) ≡ empty
map-fresh n = same_map nat_cmp_total nat_cmp-IsAntisymmetric (as_map (replicate n unused)) empty (λ s.
    let none : held_at (replicate n unused) s ≡ unused = elim (below_or_not s n) [
      | inl lt ↦ get_or-replicate n s unused unused lt
      | inr past ↦ get_or_past (replicate n unused) s unused (omega (arith, length-replicate n unused))
    ] in
    get-as_map (replicate n unused) s ∙ ap in_use none ∙ sym (get-empty nat_cmp s))

-- a slot that is written with a reference is an entry that is inserted
pub map-set_used : (p : List Held) (s : ℕ) (h : Held) → s < length p → 0 < h.count →
    as_map (set p s h) ≡ insert (as_map p) s h
map-set_used p s h within pos = same_map nat_cmp_total nat_cmp-IsAntisymmetric (as_map (set p s h))
    (insert (as_map p) s h) (λ q.
    get-as_map (set p s h) q ∙ elim (tied q s) [
      | inl same ↦ ap in_use (ap (held_at (set p s h)) same.0 ∙ get_or-set_same p s h unused within) ∙ used_in
          h.count h pos ∙ sym (get-insert nat_cmp_total (as_map p) s h q ∙
          ap (λ b. cond b (Some h) (get (as_map p) q)) same.1)
      | inr differ ↦ ap in_use (get_or-set_other p s q h unused differ.0) ∙ sym (get-as_map p q) ∙
          sym (get-insert nat_cmp_total (as_map p) s h q ∙ ap (λ b. cond b (Some h) (get (as_map p) q)) differ.1)
    ])

-- a slot that is written without one is an entry that is removed
pub map-set_unused : (p : List Held) (s : ℕ) (h : Held) → s < length p → h.count ≡ 0 →
    as_map (set p s h) ≡ remove (as_map p) s
map-set_unused p s h within none = same_map nat_cmp_total nat_cmp-IsAntisymmetric (as_map (set p s h))
    (remove (as_map p) s) (λ q.
    get-as_map (set p s h) q ∙ elim (tied q s) [
      | inl same ↦ ap in_use (ap (held_at (set p s h)) same.0 ∙ get_or-set_same p s h unused within) ∙
          ap (λ n. if_used n h) none ∙
          sym (get-remove nat_cmp_total (as_map p) s q ∙ ap (λ b. cond b None (get (as_map p) q)) same.1)
      | inr differ ↦ ap in_use (get_or-set_other p s q h unused differ.0) ∙ sym (get-as_map p q) ∙
          sym (get-remove nat_cmp_total (as_map p) s q ∙ ap (λ b. cond b None (get (as_map p) q)) differ.1)
    ])

pub map-puts : (p q : List Held) (bs : List ℕ) (s : ℕ) → Puts p q bs s →
    as_map q ≡ insert (as_map p) s (held_bytes 1 bs)
map-puts p q bs s puts = ap as_map puts.holds ∙ map-set_used p s (held_bytes 1 bs) puts.within (omega arith)

pub map-keep : (p : List Held) (s : ℕ) (bs : List ℕ) → 0 < count_at p s →
    as_map (set p s (held_bytes (count_at p s + 1) bs)) ≡ insert (as_map p) s (held_bytes (count_at p s + 1) bs)
map-keep p s bs used = map-set_used p s (held_bytes (count_at p s + 1) bs) (used_within p s used) (omega arith)

pub map-end : (p : List Held) (s : ℕ) → 1 < count_at p s → as_map (set p s (one_less (held_at p s))) ≡
    insert (as_map p) s (held_bytes (count_at p s - 1) (bytes_at p s))
map-end p s used = let h = held_bytes (count_at p s - 1) (bytes_at p s) in
    ap (λ x. as_map (set p s x)) (held_if_used (count_at p s - 1) (bytes_at p s) (omega arith)) ∙
    map-set_used p s h (used_within p s (omega arith)) (omega arith)

pub map-free : (p : List Held) (s : ℕ) → count_at p s ≡ 1 → as_map (set p s (one_less (held_at p s))) ≡
    remove (as_map p) s
map-free p s last = let none : count_at p s - 1 ≡ 0 = omega arith in
    map-set_unused p s (one_less (held_at p s)) (used_within p s (omega arith))
    (ap (λ n. (held_if n (bytes_at p s)).count) none)

-- ---- pools with one map are one

in_use-same : (m n : ℕ) (bs cs : List ℕ) → (m ≡ 0 → bs ≡ []) → (n ≡ 0 → cs ≡ []) →
    if_used m (held_bytes m bs) ≡ if_used n (held_bytes n cs) → held_bytes m bs ≡ held_bytes n cs
in_use-same zero zero bs cs none none' e = ap (held_bytes 0) (none refl ∙ sym (none' refl))
in_use-same zero (suc n) bs cs none none' e = cc
in_use-same (suc m) zero bs cs none none' e = cc
in_use-same (suc m) (suc n) bs cs none none' e = cc

pub map-same : (p q : List Held) → length p ≡ length q → ShowsUsed p → ShowsUsed q → as_map p ≡ as_map q → p ≡ q
map-same p q long one two e = ext_get_or unused p q long (λ s lt.
    in_use-same (count_at p s) (count_at q s) (bytes_at p s) (bytes_at q s) (one.unused s) (two.unused s)
    (sym (get-as_map p s) ∙ ap (λ m. get m s) e ∙ get-as_map q s))

pub shows_used-fresh : (n : ℕ) → ShowsUsed (replicate n unused)
shows_used-fresh n = record {
  unused = λ s none. elim (below_or_not s n) [
    | inl lt ↦ ap (λ (h : Held). h.bytes) (get_or-replicate n s unused unused lt)
    | inr past ↦ ap (λ (h : Held). h.bytes)
        (get_or_past (replicate n unused) s unused (omega (arith, length-replicate n unused)))
  ];
}

shows_used-set : (p : List Held) (s : ℕ) (h : Held) → s < length p → (h.count ≡ 0 → h.bytes ≡ []) → ShowsUsed p →
    ShowsUsed (set p s h)
shows_used-set p s h within shows is = record {
  unused = λ i none. elim (tied i s) [
    | inl same ↦ let here : held_at (set p s h) i ≡ h = ap (held_at (set p s h)) same.0 ∙
        get_or-set_same p s h unused within in
        ap (λ (x : Held). x.bytes) here ∙ shows (sym (ap (λ (x : Held). x.count) here) ∙ none)
    | inr differ ↦ let there : held_at (set p s h) i ≡ held_at p i = get_or-set_other p s i h unused differ.0 in
        ap (λ (x : Held). x.bytes) there ∙ is.unused i (sym (ap (λ (x : Held). x.count) there) ∙ none)
  ];
}

pub shows_used-puts : (p q : List Held) (bs : List ℕ) (s : ℕ) → Puts p q bs s → ShowsUsed p → ShowsUsed q
shows_used-puts p q bs s puts is =
    subst ShowsUsed (sym puts.holds)
    (shows_used-set p s (held_bytes 1 bs) puts.within (λ none. absurd (omega arith)) is)

pub shows_used-keep : (p : List Held) (s : ℕ) (bs : List ℕ) → 0 < count_at p s → ShowsUsed p →
    ShowsUsed (set p s (held_bytes (count_at p s + 1) bs))
shows_used-keep p s bs used is = shows_used-set p s (held_bytes (count_at p s + 1) bs) (used_within p s used)
    (λ none. absurd (omega arith)) is

shows_if : (n : ℕ) (bs : List ℕ) → (held_if n bs).count ≡ 0 → (held_if n bs).bytes ≡ []
shows_if zero bs none = refl
shows_if (suc n) bs none = absurd (omega arith)

pub shows_used-end : (p : List Held) (s : ℕ) → 0 < count_at p s → ShowsUsed p →
    ShowsUsed (set p s (one_less (held_at p s)))
shows_used-end p s used is = shows_used-set p s (one_less (held_at p s)) (used_within p s used)
    (shows_if (count_at p s - 1) (bytes_at p s)) is

-- Messages one after the other: the last one is changed, or goes, and another takes the place of one.
use Rattle.std.proofs.Common.{◌≡◌, ℕ, zero, suc, ◌+◌, ◌-◌, ◌<◌, ◌≤◌, List, [], ◌∷◌, ◌++◌, set, get_or, take, length}
use Rattle.std.proofs.Common.{refl, sym, ap, ◌∙◌, arith}
use Rattle.std.specs.Prelude.{slice_get, Some}
use Rattle.std.proofs.lemmas.List.{length-append}
use Rattle.std.proofs.Math.Seq.{take-append_seam, take-set-lt}
use Rattle.circular_buffer.specs.Buffer.{last_item}
use Rattle.circular_buffer.proofs.Places.{slice_get-last}
use Rattle.slot_pool.specs.Held.{Held}
use Rattle.slot_pool.specs.References.{Moved, Covers}
use Rattle.slot_pool.specs.Times.{times}
use Rattle.slot_pool.proofs.Times.{times-append}
use Rattle.slot_pool.proofs.References.{moved-chain, moved-beside, moved-reordered}
use Rattle.pool_message.specs.Moves.{Kept, Returned}
use Rattle.pool_message.specs.Piled.{pile_refs, without_last, last_changed}
use Rattle.pool_message.specs.Seen.{refs, refs_if, bodiless}
use Rattle.pool_message.specs.Tray.{message_in}
use Rattle.pool_message.specs.declared.message.PoolMessage.{PoolMessage}
use Rattle.pool_message.proofs.Lists.{covers_front, covers_after}

-- references are those of the last, and of the others
parted_at : (ms : List PoolMessage) (n i : ℕ) → n + 1 ≡ length ms →
    times i (pile_refs ms) ≡ times i (pile_refs (take n ms)) + times i (refs_if (slice_get ms n))
parted_at [] n i is = absurd (omega (arith, is))
parted_at (m ∷ []) zero i is = omega (arith, times-append i (refs m) [])
parted_at (m ∷ m' ∷ ms) zero i is = absurd (omega (arith, is))
parted_at (m ∷ ms) (suc n) i is =
    let rest = parted_at ms n i (omega (arith, is)) in
    omega (arith, rest, times-append i (refs m) (pile_refs ms), times-append i (refs m) (pile_refs (take n ms)))

pub parted : (ms : List PoolMessage) (i : ℕ) → 0 < length ms →
    times i (pile_refs ms) ≡ times i (pile_refs (without_last ms)) + times i (refs_if (last_item ms))
parted ms i some = parted_at ms (length ms - 1) i (omega (arith, some))

pub covers_last : (p : List Held) (ms : List PoolMessage) → 0 < length ms → Covers p (pile_refs ms) →
    Covers p (refs_if (last_item ms))
covers_last p ms some covers = record { covers = λ i. omega (arith, covers.covers i, parted ms i some) }

-- the last one's reference is given back
module _ (p q : List Held) (ms : List PoolMessage) (some : 0 < length ms) (gone : Returned p q (refs_if (last_item ms)))
  where
    last_gone : Moved p q (pile_refs ms) (pile_refs (without_last ms))
    last_gone = moved-reordered p q (refs_if (last_item ms) ++ pile_refs (without_last ms))
        ([] ++ pile_refs (without_last ms))
        (pile_refs ms) (pile_refs (without_last ms))
        (λ i. omega (arith, parted ms i some, times-append i (refs_if (last_item ms)) (pile_refs (without_last ms))))
        (λ i. refl)
        (moved-beside p q (refs_if (last_item ms)) [] (pile_refs (without_last ms)) gone.moved)

    pub covers_others : Covers p (pile_refs ms) → Covers q (pile_refs (without_last ms))
    covers_others covers = record { covers = λ i. omega (arith, covers.covers i, last_gone.counts i) }

    pub moved_others : (s : List Held) (from : List ℕ) → Moved s p from (pile_refs ms) →
        Moved s q from (pile_refs (without_last ms))
    moved_others s from moved = moved-chain s p q from (pile_refs ms) (pile_refs (without_last ms)) moved last_gone

-- the last one becomes another
changed_at : (f : PoolMessage → PoolMessage) (ms : List PoolMessage) (k : ℕ) (d m : PoolMessage) → k < length ms →
    m ≡ f (get_or ms k d) →
    take (suc k) (set ms k m) ≡ last_changed f (take (suc k) ms)
changed_at f [] k d m few is = absurd (omega (arith, few))
changed_at f (x ∷ ms) zero d m few is = ap (λ (z : PoolMessage). z ∷ []) is
changed_at f (x ∷ []) (suc k) d m few is = absurd (omega (arith, few))
changed_at f (x ∷ x' ∷ ms) (suc k) d m few is = ap (λ zs. x ∷ zs) (changed_at f (x' ∷ ms) k d m (omega (arith, few)) is)

pub changed_last : (f : PoolMessage → PoolMessage) (ms : List PoolMessage) (n : ℕ) (d m : PoolMessage) → 0 < n →
    n ≤ length ms → m ≡ f (get_or ms (n - 1) d) →
    take n (set ms (n - 1) m) ≡ last_changed f (take n ms)
changed_last f ms n d m some few is =
    let one : n ≡ suc (n - 1) = omega (arith, some) in
    ap (λ j. take j (set ms (n - 1) m)) one ∙ changed_at f ms (n - 1) d m (omega (arith, some, few)) is
    ∙ sym (ap (λ j. last_changed f (take j ms)) one)

-- one comes after others
pub last_more : (xs : List PoolMessage) (m : PoolMessage) → last_item (xs ++ m ∷ []) ≡ Some m
last_more xs m = slice_get-last xs m (length (xs ++ m ∷ []) - 1) (omega (arith, length-append xs (m ∷ [])))

pub rest_more : (xs : List PoolMessage) (m : PoolMessage) → without_last (xs ++ m ∷ []) ≡ xs
rest_more xs m =
    let less : length (xs ++ m ∷ []) - 1 ≡ length xs = omega (arith, length-append xs (m ∷ [])) in
    ap (λ n. take n (xs ++ m ∷ [])) less ∙ take-append_seam xs (m ∷ [])

pub changed_more : (f : PoolMessage → PoolMessage) (xs : List PoolMessage) (m : PoolMessage) →
    last_changed f (xs ++ m ∷ []) ≡ xs ++ f m ∷ []
changed_more f [] m = refl
changed_more f (x ∷ []) m = refl
changed_more f (x ∷ x' ∷ xs) m = ap (λ zs. x ∷ zs) (changed_more f (x' ∷ xs) m)

-- one is taken away, and another put there
set_again : {A : Type 0} (xs : List A) (k : ℕ) (a b : A) → set (set xs k a) k b ≡ set xs k b
set_again [] k a b = refl
set_again (x ∷ xs) zero a b = refl
set_again (x ∷ xs) (suc k) a b = ap (λ zs. x ∷ zs) (set_again xs k a b)

pub replaced : {A : Type 0} (xs : List A) (n k : ℕ) (a b : A) → k < n → take n (set (set xs k a) k b) ≡
    set (take n xs) k b
replaced xs n k a b lt = ap (take n) (set_again xs k a b) ∙ take-set-lt n xs k b lt

-- references to one of them
pub covers_at : (p : List Held) (ms : List PoolMessage) (k : ℕ) → k < length ms → Covers p (pile_refs ms) →
    Covers p (refs (message_in k ms))
covers_at p [] k lt covers = absurd (omega (arith, lt))
covers_at p (m ∷ ms) zero lt covers = covers_front p (refs m) (pile_refs ms) covers
covers_at p (m ∷ ms) (suc k) lt covers =
    covers_at p ms k (omega (arith, lt)) (covers_after p (refs m) (pile_refs ms) covers)

-- one goes on once more, and then all of them go: so all but that one go
times_set : (i : ℕ) (ms : List PoolMessage) (k : ℕ) → k < length ms →
    times i (pile_refs (set ms k (bodiless []))) + times i (refs (message_in k ms)) ≡ times i (pile_refs ms)
times_set i [] k lt = absurd (omega (arith, lt))
times_set i (m ∷ ms) zero lt = omega (arith, times-append i (refs m) (pile_refs ms))
times_set i (m ∷ ms) (suc k) lt =
    let rest = times_set i ms k (omega (arith, lt)) in
    omega (
      arith,
      rest,
      times-append i (refs m) (pile_refs ms),
      times-append i (refs m) (pile_refs (set ms k (bodiless []))),
    )

pub sent_cleared : (p q r : List Held) (ms : List PoolMessage) (k : ℕ) → k < length ms →
    Kept p q (refs (message_in k ms)) → Returned q r (pile_refs ms) →
    Returned p r (pile_refs (set ms k (bodiless [])))
sent_cleared p q r ms k lt kept gone = record {
  moved = record {
    slots = gone.moved.slots ∙ kept.moved.slots;
    counts = λ i. omega (arith, kept.moved.counts i, gone.moved.counts i, times_set i ms k lt);
    kept = λ i few. gone.moved.kept i (omega (arith, few, kept.moved.counts i, times_set i ms k lt)) ∙
        kept.moved.kept i (omega (arith, few));
  };
  slots = omega (arith, kept.slots, gone.slots);
}

-- Slots for the body of an event and for the joins of a run.
use Rattle.std.proofs.Common.{◌≡◌, ℕ, ◌+◌, ◌≤◌, Bool, true, false, List, [], ◌∷◌, ◌++◌, length, Option, Some, None, Ok}
use Rattle.std.proofs.Common.{Err, refl, sym, subst, arith, length-append}
use Rattle.std.specs.Prelude.{nat_lt, if◌then◌else◌}
use Rattle.std.proofs.lemmas.Bool.{ltb-false}
use Rattle.std.proofs.lemmas.List.{append-nil}
use Rattle.slot_pool.specs.Held.{Held, spare, Puts}
use Rattle.slot_pool.specs.References.{Moved, Exact, Covers}
use Rattle.slot_pool.proofs.References.{puts-moves, moved-before, exact-moved, puts-spare, slots-shared, not-full}
use Rattle.slot_pool.proofs.References.{count-most}
use Rattle.stack_mean.specs.Graph.{Node, first_on_cycle}
use Rattle.stack_mean.specs.Acceptance.{Refusal, without_cycle, largest_weight, largest_joins, weight_limit}
use Rattle.stack_mean.specs.Acceptance.{joins_limit}
use Rattle.pool_laws.specs.Room.{HasRoom, NotFull, RoomAtFirst, RoomAfterPut, AcceptedIsLight}

-- all references cover themselves
exact_covers : (p : List Held) (xs : List ℕ) → Exact p xs → Covers p xs
exact_covers p xs e = record { covers = λ i. let is = e.exact i in omega arith }

-- a body is put where all references are counted
exact_put : (p q : List Held) (xs body : List ℕ) (s : ℕ) → Exact p xs → Puts p q body s → Exact q (xs ++ s ∷ [])
exact_put p q xs body s e puts =
    exact-moved p q xs (xs ++ s ∷ []) e
    (subst (λ ys. Moved p q ys (xs ++ s ∷ [])) (append-nil xs)
    (moved-before p q [] (s ∷ []) xs (puts-moves p q body s puts)))

-- with all references few, each slot has few
room : (p : List Held) (xs : List ℕ) → Exact p xs → length xs ≤ 8193 → 1024 ≤ spare p → HasRoom p xs
room p xs e few left = record {
  exact = e;
  covers = exact_covers p xs e;
  joins = left;
  counts = record { within = λ i. let most = count-most p xs i e in omega (arith, most, few) };
}

pub not_full : NotFull
not_full rows p xs is full = let few = is.few in let slots = is.slots in not-full p xs is.exact (omega arith) full

pub room_at_first : RoomAtFirst
room_at_first rows p xs is =
    let few = is.few in let slots = is.slots in let within = is.within in
    let left = slots-shared p xs is.exact in
    subst (HasRoom p) (sym (append-nil xs)) (room p xs is.exact (omega arith) (omega arith))

pub room_after_put : RoomAfterPut
room_after_put rows p q xs body s is puts =
    let few = is.few in let slots = is.slots in let within = is.within in
    let left = slots-shared p xs is.exact in let one = puts-spare p q body s puts in
    let more : length (xs ++ s ∷ []) ≡ length xs + 1 = length-append xs (s ∷ []) in
    room q (xs ++ s ∷ []) (exact_put p q xs body s is.exact puts) (omega arith) (omega arith)

-- what an accepted stack is
pub accepted_is_light : AcceptedIsLight
accepted_is_light stack h = go (first_on_cycle stack) h where
  judged : (b c : Bool) → (x y : Refusal) → (if b then Err x else if c then Err y else Ok stack) ≡ Ok stack →
      (b ≡ false) × (c ≡ false)
  judged true c x y e = absurd (cc e)
  judged false true x y e = absurd (cc e)
  judged false false x y e = (refl, refl)

  go : (o : Option Node) → without_cycle stack o ≡ Ok stack → (largest_weight stack ≤ weight_limit) ×
      (largest_joins stack ≤ joins_limit)
  go (Some n) e = absurd (cc e)
  go None e =
      let within = judged (nat_lt weight_limit (largest_weight stack)) (nat_lt joins_limit (largest_joins stack)) _ _ e
      in
      (ltb-false weight_limit (largest_weight stack) within.0, ltb-false joins_limit (largest_joins stack) within.1)

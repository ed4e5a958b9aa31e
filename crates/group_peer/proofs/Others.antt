-- The other members of a view as bits, from a place of its mask on.
use Rattle.std.proofs.Common.{◌≡◌, ℕ, ◌+◌, ◌<◌, ◌≤◌, ◌^◌, Bool, true, false, List, [], ◌∷◌, refl, ap, ◌∙◌}
use Rattle.std.proofs.Common.{zero, suc, Option, Some, sym, subst, arith}
use Rattle.std.specs.Prelude.{◌==◌, ◌&&◌, cond, not, slice_get, if◌then◌else◌}
use Rattle.std.specs.Int.{bit_at}
use Rattle.std.specs.List.{AllByRecursion, filter, range_with_len, sum_by}
use Rattle.chain_laws.proofs.Lists.{Where, each_where}
use Rattle.msg_core.specs.View.{ids, most_members}
use Rattle.std.proofs.lemmas.List.Sums.{sum_by-cons}
use Rattle.msg_core.specs.declared.packet.View.{View}
use Rattle.msg_core.specs.declared.packet.Dest.TheVariants.{All}
use Rattle.run_mean.specs.Journal.{receivers}
use Rattle.view_masks.proofs.Ids.{ids_from, ids_next, ids_end, ids_begin}
use Rattle.group_peer.specs.Heads.{bits_of}

-- those from a place on
pub others_from : View → (from at : ℕ) → List ℕ
others_from view from at = filter (λ other. not (other == from)) (ids_from view at)

pub bits_from : View → (from at : ℕ) → ℕ
bits_from view from at = bits_of (others_from view from at)

pub bits_begin : (view : View) (from : ℕ) → bits_of (receivers from view All) ≡ bits_from view from 0
unfolding bits_from others_from
bits_begin view from = ap (λ ids. bits_of (filter (λ other. not (other == from)) ids)) (ids_begin view)

pub bits_end : (view : View) (from at : ℕ) → 32 ≤ at → bits_from view from at ≡ 0
unfolding bits_from others_from
bits_end view from at past = ap (λ ids. bits_of (filter (λ other. not (other == from)) ids)) (ids_end view at past)

others_next : (view : View) (from at : ℕ) (set other : Bool) → at < 32 → (bit_at view.mask at == 1) ≡ set →
    not (at == from) ≡ other →
    others_from view from at ≡ cond (set && other) (at ∷ others_from view from (at + 1))
    (others_from view from (at + 1))
unfolding others_from
others_next view from at true other small is so =
    ap (filter (λ other. not (other == from))) (ids_next view at true small is)
    ∙ ap (λ b. cond b (at ∷ others_from view from (at + 1)) (others_from view from (at + 1))) so
others_next view from at false other small is so =
    ap (filter (λ other. not (other == from))) (ids_next view at false small is)

pub bits_set : (view : View) (from at : ℕ) → at < 32 → ((bit_at view.mask at == 1) && not (at == from)) ≡ true →
    bits_from view from at ≡ 2 ^ at + bits_from view from (at + 1)
unfolding bits_from
bits_set view from at small is =
    ap bits_of (others_next view from at (bit_at view.mask at == 1) (not (at == from)) small refl refl
    ∙ ap (λ b. cond b (at ∷ others_from view from (at + 1)) (others_from view from (at + 1))) is)
    ∙ sum_by-cons (λ id. 2 ^ id) at (others_from view from (at + 1))

pub bits_unset : (view : View) (from at : ℕ) → at < 32 → ((bit_at view.mask at == 1) && not (at == from)) ≡ false →
    bits_from view from at ≡ bits_from view from (at + 1)
unfolding bits_from
bits_unset view from at small is =
    ap bits_of (others_next view from at (bit_at view.mask at == 1) (not (at == from)) small refl refl
    ∙ ap (λ b. cond b (at ∷ others_from view from (at + 1)) (others_from view from (at + 1))) is)

-- a member of a view is below 32
below : (p : ℕ → Bool) (first count : ℕ) → first + count ≤ 32 →
    AllByRecursion (λ id. id < 32) (filter p (range_with_len first count))
below p first zero few = tt
below p first (suc count) few = go (p first) (below p (first + 1) count (omega (arith, few))) where
  go : (b : Bool) → AllByRecursion (λ id. id < 32) (filter p (range_with_len (first + 1) count)) →
      AllByRecursion (λ id. id < 32)
      (if b then first ∷ filter p (range_with_len (first + 1) count) else filter p (range_with_len (first + 1) count))
  go true rest = (omega (arith, few), rest)
  go false rest = rest

pub member_below : (view : View) (rank id : ℕ) (o : Option ℕ) → o ≡ slice_get (ids view) rank → o ≡ Some id →
    id < most_members
member_below view rank id o is some = subst (Where (λ id. id < 32)) (sym is ∙ some)
    (each_where (λ id. id < 32) (ids view) rank (below (λ id. bit_at view.mask id == 1) 0 32 (omega arith)))

-- Those to whom a cast goes, from a place of the mask on.
use Rattle.std.proofs.Common.{◌≡◌, ℕ, ◌+◌, ◌<◌, ◌≤◌, ◌≢◌, Bool, true, false, List, [], ◌∷◌, ap, ◌∙◌, inl, inr}
use Rattle.std.proofs.lemmas.Bool.Decides.{eqb_tells}
use Rattle.std.specs.Prelude.{◌==◌, cond, not}
use Rattle.std.specs.Int.{bit_at}
use Rattle.std.specs.List.{filter}
use Rattle.msg_core.specs.declared.packet.View.{View}
use Rattle.msg_core.specs.declared.packet.Dest.TheVariants.{All}
use Rattle.run_mean.specs.Journal.{receivers}
use Rattle.view_masks.proofs.Ids.{ids_from, ids_next, ids_end, ids_begin}

-- To whom a cast goes, from a place on.
pub others_from : View → (from at : ℕ) → List ℕ
others_from view from at = filter (λ other. not (other == from)) (ids_from view at)

pub others_begin : (view : View) (from : ℕ) → receivers from view All ≡ others_from view from 0
unfolding others_from
others_begin view from = ap (filter (λ other. not (other == from))) (ids_begin view)

pub others_end : (view : View) (from at : ℕ) → 32 ≤ at → others_from view from at ≡ []
unfolding others_from
others_end view from at past = ap (filter (λ other. not (other == from))) (ids_end view at past)

pub others_without : (view : View) (from at : ℕ) → at < 32 → (bit_at view.mask at == 1) ≡ false →
    others_from view from at ≡ others_from view from (at + 1)
unfolding others_from
others_without view from at small lacks =
    ap (filter (λ other. not (other == from))) (ids_next view at false small lacks)

others_with : (view : View) (from at : ℕ) (same : Bool) → at < 32 → (bit_at view.mask at == 1) ≡ true →
    (at == from) ≡ same →
    others_from view from at ≡ cond (not same) (at ∷ others_from view from (at + 1)) (others_from view from (at + 1))
unfolding others_from
others_with view from at same small set is =
    ap (filter (λ other. not (other == from))) (ids_next view at true small set)
    ∙ ap (λ b. cond (not b) (at ∷ others_from view from (at + 1)) (others_from view from (at + 1))) is

pub others_next : (view : View) (from at : ℕ) → at < 32 → (bit_at view.mask at == 1) ≡ true → at ≢ from →
    others_from view from at ≡ at ∷ others_from view from (at + 1)
others_next view from at small set other = elim (eqb_tells at from) [
  | inl h ↦ absurd (other h.1)
  | inr h ↦ others_with view from at false small set h.0
]

pub others_past : (view : View) (from at : ℕ) → at < 32 → (bit_at view.mask at == 1) ≡ true → at ≡ from →
    others_from view from at ≡ others_from view from (at + 1)
others_past view from at small set same = elim (eqb_tells at from) [
  | inl h ↦ others_with view from at true small set h.0
  | inr h ↦ absurd (h.1 same)
]

-- The member of a rank, among the ids of a view from a place of the mask on.
use Rattle.std.proofs.Common.{◌≡◌, ℕ, suc, ◌+◌, ◌<◌, ◌≤◌, true, false, ◌∷◌, ap, ◌∙◌, arith, Option, Some, None}
use Rattle.std.specs.Prelude.{◌==◌, slice_get}
use Rattle.std.specs.Int.{bit_at}
use Rattle.msg_core.specs.View.{ids}
use Rattle.msg_core.specs.declared.packet.View.{View}
use Rattle.view_masks.proofs.Ids.{ids_from, ids_next, ids_end, ids_begin}

-- The member of a rank among those from a place on.
pub ranked_from : View → (rank at : ℕ) → Option ℕ
ranked_from view rank at = slice_get (ids_from view at) rank

pub ranked_begins : (view : View) (rank : ℕ) → slice_get (ids view) rank ≡ ranked_from view rank 0
unfolding ranked_from
ranked_begins view rank = ap (λ ids. slice_get ids rank) (ids_begin view)

pub ranked_ends : (view : View) (rank at : ℕ) → 32 ≤ at → ranked_from view rank at ≡ None
unfolding ranked_from
ranked_ends view rank at past = ap (λ ids. slice_get ids rank) (ids_end view at past)

pub ranked_here : (view : View) (rank at : ℕ) → at < 32 → (bit_at view.mask at == 1) ≡ true → rank ≡ 0 →
    ranked_from view rank at ≡ Some at
unfolding ranked_from
ranked_here view rank at small set first = ap (λ ids. slice_get ids rank) (ids_next view at true small set)
    ∙ ap (slice_get (at ∷ ids_from view (at + 1))) first

pub ranked_past : (view : View) (rank left at : ℕ) → at < 32 → (bit_at view.mask at == 1) ≡ true → rank ≡ left + 1 →
    ranked_from view rank at ≡ ranked_from view left (at + 1)
unfolding ranked_from
ranked_past view rank left at small set more =
    let one : rank ≡ suc left = omega (arith, more) in
    ap (λ ids. slice_get ids rank) (ids_next view at true small set) ∙ ap (slice_get (at ∷ ids_from view (at + 1))) one

pub ranked_without : (view : View) (rank at : ℕ) → at < 32 → (bit_at view.mask at == 1) ≡ false →
    ranked_from view rank at ≡ ranked_from view rank (at + 1)
unfolding ranked_from
ranked_without view rank at small lacks = ap (λ ids. slice_get ids rank) (ids_next view at false small lacks)

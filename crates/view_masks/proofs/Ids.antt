-- The ids of a view, from a place of its mask on.
use Rattle.std.proofs.Common.{◌≡◌, ℕ, suc, ◌+◌, ◌-◌, ◌<◌, ◌^◌, Bool, true, false, refl, ap, ◌∙◌, arith, ◌≤◌, List, []}
use Rattle.std.proofs.Common.{◌∷◌, Option, Some, None, ◌≢◌, inl, inr}
use Rattle.std.proofs.lemmas.Bool.Decides.{eqb_tells}
use Rattle.std.specs.Prelude.{◌==◌, cond, if◌then◌else◌}
use Rattle.std.specs.Int.{bit_at}
use Rattle.std.specs.List.{filter, range_with_len, position, position_from, enumerate_from, sum_by}
use Rattle.std.proofs.lemmas.Iterator.Adapters.{position_from-zero}
use Rattle.std.proofs.lemmas.List.Sums.{sum_by-cons}
use Rattle.msg_core.specs.View as members
use Rattle.msg_core.specs.declared.packet.View.{View}

first_of : (a b : ℕ) → a < b → range_with_len a (b - a) ≡ a ∷ range_with_len (a + 1) (b - (a + 1))
first_of a b small = let one_more : b - a ≡ suc (b - (a + 1)) = omega arith in ap (range_with_len a) one_more

-- those from a place on
pub ids_from : View → ℕ → List ℕ
ids_from view at = filter (λ id. bit_at view.mask id == 1) (range_with_len at (32 - at))

pub ids_next : (view : View) (at : ℕ) (set : Bool) → at < 32 → (bit_at view.mask at == 1) ≡ set →
    ids_from view at ≡ cond set (at ∷ ids_from view (at + 1)) (ids_from view (at + 1))
unfolding ids_from
ids_next view at set small is =
    ap (filter (λ id. bit_at view.mask id == 1)) (first_of at 32 small)
    ∙ ap (λ b. cond b (at ∷ ids_from view (at + 1)) (ids_from view (at + 1))) is

pub ids_end : (view : View) (at : ℕ) → 32 ≤ at → ids_from view at ≡ []
unfolding ids_from
ids_end view at past = let none : 32 - at ≡ 0 = omega arith in
    ap (λ n. filter (λ id. bit_at view.mask id == 1) (range_with_len at n)) none

pub ids_begin : (view : View) → members.ids view ≡ ids_from view 0
unfolding ids_from
ids_begin view = refl

-- the rank of an id among those from a place on, counted from a number
pub rank_from : View → ℕ → ℕ → ℕ → Option ℕ
rank_from view id count at = position_from (λ other. other == id) count (ids_from view at)

pub rank_begins : (view : View) (id : ℕ) → members.rank view id ≡ rank_from view id 0 0
unfolding rank_from
rank_begins view id =
    ap (position (λ other. other == id)) (ids_begin view) ∙ position_from-zero (λ other. other == id) (ids_from view 0)

pub rank_ends : (view : View) (id count at : ℕ) → 32 ≤ at → rank_from view id count at ≡ None
unfolding rank_from
rank_ends view id count at past = ap (position_from (λ other. other == id) count) (ids_end view at past)

rank_with : (view : View) (id count at : ℕ) (same : Bool) → at < 32 → (bit_at view.mask at == 1) ≡ true →
    (at == id) ≡ same →
    rank_from view id count at ≡ cond same (Some count) (rank_from view id (count + 1) (at + 1))
unfolding rank_from
rank_with view id count at same small set is =
    ap (position_from (λ other. other == id) count) (ids_next view at true small set)
    ∙ ap (λ b. cond b (Some count) (rank_from view id (count + 1) (at + 1))) is

pub rank_here : (view : View) (id count at : ℕ) → at < 32 → (bit_at view.mask at == 1) ≡ true → at ≡ id →
    rank_from view id count at ≡ Some count
rank_here view id count at small set same = elim (eqb_tells at id) [
  | inl h ↦ rank_with view id count at true small set h.0
  | inr h ↦ absurd (h.1 same)
]

pub rank_past : (view : View) (id count at : ℕ) → at < 32 → (bit_at view.mask at == 1) ≡ true → at ≢ id →
    rank_from view id count at ≡ rank_from view id (count + 1) (at + 1)
rank_past view id count at small set other = elim (eqb_tells at id) [
  | inl h ↦ absurd (other h.1)
  | inr h ↦ rank_with view id count at false small set h.0
]

pub rank_without : (view : View) (id count at : ℕ) → at < 32 → (bit_at view.mask at == 1) ≡ false →
    rank_from view id count at ≡ rank_from view id count (at + 1)
unfolding rank_from
rank_without view id count at small lacks =
    ap (position_from (λ other. other == id) count) (ids_next view at false small lacks)

-- the mask of those from a place on, the first of them being of this rank
abbrev bit_of : ℕ → (ℕ × ℕ) → ℕ
bit_of ranks x = if bit_at ranks x.0 == 1 then 2 ^ x.1 else 0

pub mask_from : View → ℕ → ℕ → ℕ → ℕ
mask_from view ranks rank at = sum_by (bit_of ranks) (enumerate_from rank (ids_from view at))

pub mask_begins : (view : View) (ranks : ℕ) → members.mask_of view ranks ≡ mask_from view ranks 0 0
unfolding mask_from
mask_begins view ranks = ap (λ ids. sum_by (bit_of ranks) (enumerate_from 0 ids)) (ids_begin view)

pub mask_ends : (view : View) (ranks rank at : ℕ) → 32 ≤ at → mask_from view ranks rank at ≡ 0
unfolding mask_from
mask_ends view ranks rank at past = ap (λ ids. sum_by (bit_of ranks) (enumerate_from rank ids)) (ids_end view at past)

mask_with : (view : View) (ranks rank at : ℕ) → at < 32 → (bit_at view.mask at == 1) ≡ true →
    mask_from view ranks rank at ≡ bit_of ranks (rank, at) + mask_from view ranks (rank + 1) (at + 1)
unfolding mask_from
mask_with view ranks rank at small set =
    ap (λ ids. sum_by (bit_of ranks) (enumerate_from rank ids)) (ids_next view at true small set)
    ∙ sum_by-cons (bit_of ranks) (rank, at) (enumerate_from (rank + 1) (ids_from view (at + 1)))

pub mask_set : (view : View) (ranks rank at : ℕ) → at < 32 → (bit_at view.mask at == 1) ≡ true →
    (bit_at ranks rank == 1) ≡ true →
    mask_from view ranks rank at ≡ 2 ^ at + mask_from view ranks (rank + 1) (at + 1)
mask_set view ranks rank at small set chosen =
    mask_with view ranks rank at small set ∙
    ap (λ b. (if b then 2 ^ at else 0) + mask_from view ranks (rank + 1) (at + 1)) chosen

pub mask_unset : (view : View) (ranks rank at : ℕ) → at < 32 → (bit_at view.mask at == 1) ≡ true →
    (bit_at ranks rank == 1) ≡ false →
    mask_from view ranks rank at ≡ mask_from view ranks (rank + 1) (at + 1)
mask_unset view ranks rank at small set left =
    let rest = mask_from view ranks (rank + 1) (at + 1) in
    let this : mask_from view ranks rank at ≡ 0 + rest = mask_with view ranks rank at small set ∙
    ap (λ b. (if b then 2 ^ at else 0) + rest) left in
    omega (arith, this)

pub mask_without : (view : View) (ranks rank at : ℕ) → at < 32 → (bit_at view.mask at == 1) ≡ false →
    mask_from view ranks rank at ≡ mask_from view ranks rank (at + 1)
unfolding mask_from
mask_without view ranks rank at small lacks =
    ap (λ ids. sum_by (bit_of ranks) (enumerate_from rank ids)) (ids_next view at false small lacks)

-- Who is in the first view.
use Rattle.std.proofs.Common.{◌≡◌, ℕ, ◌<◌, ◌≤◌, ◌==◌, length, bytes_eq, Bool, true, refl, ap, sym, ◌∙◌, arith, is_some}
use Rattle.std.proofs.Common.{get_or, zero-add}
use Rattle.std.proofs.lemmas.List.FromFn.{get_or-range_with_len, length-range_with_len}
use Rattle.std.proofs.lemmas.List.Sums.{AllPass-from_list_all}
use Rattle.std.proofs.lemmas.Slice.Eq.{bytes_eq-Decides}
use Rattle.std.specs.List.{range_with_len, list_all, position}
use Rattle.msg_core.specs.View.{ids, member_count, rank, first_view}

-- what holds of each number below another holds of one
each_below : (p : ℕ → Bool) (n k : ℕ) → list_all p (range_with_len 0 n) ≡ true → k < n → p k ≡ true
each_below p n k all lt =
    let place = length-range_with_len 0 n in
    let number : get_or (range_with_len 0 n) k 0 ≡ k = get_or-range_with_len 0 n k 0 lt ∙ zero-add k in
    ap p (sym number) ∙ AllPass-from_list_all p (range_with_len 0 n) all k 0 (omega (arith, place))

-- the ids of each number of members, and that each of them has a rank
abbrev has_ids : ℕ → Bool
has_ids n = bytes_eq (ids (first_view n)) (range_with_len 0 n)

abbrev has_rank : ℕ → ℕ → Bool
has_rank n id = is_some (position (λ other. other == id) (range_with_len 0 n))

abbrev have_ranks : ℕ → Bool
have_ranks n = list_all (has_rank n) (range_with_len 0 n)

all_have_ids : list_all has_ids (range_with_len 0 33) ≡ true
all_have_ids = refl

all_have_ranks : list_all have_ranks (range_with_len 0 33) ≡ true
all_have_ranks = refl

pub ids_of_first : (n : ℕ) → n ≤ 32 → ids (first_view n) ≡ range_with_len 0 n
ids_of_first n le = (bytes_eq-Decides (ids (first_view n)) (range_with_len 0 n)).0
    (each_below has_ids 33 n all_have_ids (omega arith))

pub count_of_first : (n : ℕ) → n ≤ 32 → member_count (first_view n) ≡ n
count_of_first n le = ap length (ids_of_first n le) ∙ length-range_with_len 0 n

pub rank_in_first : (n id : ℕ) → n ≤ 32 → id < n → is_some (rank (first_view n) id) ≡ true
rank_in_first n id le lt =
    ap (λ xs. is_some (position (λ other. other == id) xs)) (ids_of_first n le) ∙
    each_below (has_rank n) n id (each_below have_ranks 33 n all_have_ranks (omega arith)) lt

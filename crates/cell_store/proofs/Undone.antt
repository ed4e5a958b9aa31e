-- Rows that come and go.
use Rattle.std.proofs.Common.{◌≡◌, ℕ, zero, suc, ◌+◌, ◌-◌, ◌≤◌, ◌<◌, Bool, true, false, ◌&&◌, nat_lt, List, [], ◌∷◌}
use Rattle.std.proofs.Common.{◌++◌, map, length, take, drop, slice_get, slice_index_or, slice_set, Option, Some, None}
use Rattle.std.proofs.Common.{IfSome, refl, sym, ap, ap₂, ◌∙◌, arith}
use Rattle.std.proofs.lemmas.Bool.{ltb-true, lt-ltb}
use Rattle.std.proofs.lemmas.List.{get_or-set_same, set-set, set-get_or, length-set, length_push, take_at}
use Rattle.std.proofs.lemmas.List.Sums.{sum_by-append, sum_by-cons, sum_by_push}
use Rattle.std.specs.List.{sum_by, flat_map}
use Rattle.layer_mean.specs.Tree as tree
use Rattle.layer_mean.specs.Tree.{LayerTree, CellTree}
use Rattle.cell_store.specs.Fresh.{kept_first, kept_fresh}
use Rattle.cell_store.proofs.Empty.{none_in}
use Rattle.cell_store.specs.Kept.{KeptCell, numbers, queues, Kept, nothing_kept, queues_kept, capacity_of, kept_at}
use Rattle.cell_store.specs.Kept.{kept_rows, kept_capacity, keeps_room, rows_set, with_kept_rows, with_last, with_first}
use Rattle.cell_store.specs.Kept.{without_first, without_last, first_row, last_row, rows_of, rows_in}

both : (a b : Bool) → a && b ≡ true → (a ≡ true) × (b ≡ true)
both true b is = (refl, is)
both false b is = absurd (cc is)

module _ {R : Type 0} where
  -- a queue with room, or with a row, is there
  pub there_by_room : (k : Kept R) (c i capacity : ℕ) → keeps_room k c i capacity ≡ true →
      i < length (queues_kept (kept_at k c))
  there_by_room k c i capacity room =
      ltb-true i (length (queues_kept (kept_at k c)))
      (both (nat_lt i (length (queues_kept (kept_at k c)))) (nat_lt (length (kept_rows k c i)) capacity) room).0

  within_row : (qs : List (List R)) (i : ℕ) (row : R) → slice_get (slice_index_or qs i []) 0 ≡ Some row → i < length qs
  within_row [] i row is = absurd (cc is)
  within_row (q ∷ qs) zero row is = omega arith
  within_row (q ∷ qs) (suc i) row is = let rest = within_row qs i row is in omega (arith, rest)

  split_row : (q : List R) (row : R) → slice_get q 0 ≡ Some row → q ≡ row ∷ drop 1 q
  split_row [] row is = absurd (cc is)
  split_row (x ∷ q) row is = let same : x ≡ row = cc is in ap (λ x. x ∷ q) same

  -- a cell with queues is there
  cell_there : (cells : List (KeptCell R)) (c i : ℕ) → i < length (queues_kept (slice_index_or cells c nothing_kept)) →
      c < length cells
  cell_there [] c i within = absurd (omega (arith, within))
  cell_there (cell ∷ cells) zero i within = omega arith
  cell_there (cell ∷ cells) (suc c) i within = let rest = cell_there cells c i within in omega (arith, rest)

  queues_set : (i : ℕ) (rows : List R) (cell : KeptCell R) → queues_kept (rows_set i rows cell) ≡
      slice_set (queues_kept cell) i rows
  queues_set i rows (numbers shape ns) = refl
  queues_set i rows (queues shape capacity qs) = refl

  cell_now : (k : Kept R) (c i : ℕ) (rows : List R) → i < length (queues_kept (kept_at k c)) →
      kept_at (with_kept_rows k c i rows) c ≡ rows_set i rows (kept_at k c)
  cell_now k c i rows there = get_or-set_same k.cells c (rows_set i rows (kept_at k c)) nothing_kept
      (cell_there k.cells c i there)

  -- what was put into a queue is read there
  pub rows_now : (k : Kept R) (c i : ℕ) (rows : List R) → i < length (queues_kept (kept_at k c)) →
      kept_rows (with_kept_rows k c i rows) c i ≡ rows
  rows_now k c i rows there =
      ap (λ qs. slice_index_or qs i []) (ap queues_kept (cell_now k c i rows there) ∙ queues_set i rows (kept_at k c))
      ∙ get_or-set_same (queues_kept (kept_at k c)) i rows [] there

  set_twice : (i : ℕ) (rows rows' : List R) (cell : KeptCell R) → rows_set i rows' (rows_set i rows cell) ≡
      rows_set i rows' cell
  set_twice i rows rows' (numbers shape ns) = refl
  set_twice i rows rows' (queues shape capacity qs) = ap (queues shape capacity) (set-set qs i rows rows')

  set_back : (i : ℕ) (cell : KeptCell R) → rows_set i (slice_index_or (queues_kept cell) i []) cell ≡ cell
  set_back i (numbers shape ns) = refl
  set_back i (queues shape capacity qs) = ap (queues shape capacity) (set-get_or qs i [])

  -- rows that are as they were, after other rows
  pub back_again : (k : Kept R) (c i : ℕ) (rows rows' : List R) → i < length (queues_kept (kept_at k c)) →
      rows' ≡ kept_rows k c i →
      with_kept_rows (with_kept_rows k c i rows) c i rows' ≡ k
  back_again k c i rows rows' there same =
      ap (λ cells. record k { cells = cells })
      (ap (λ cell. slice_set (slice_set k.cells c (rows_set i rows (kept_at k c))) c (rows_set i rows' cell))
      (cell_now k c i rows there)
      ∙ set-set k.cells c (rows_set i rows (kept_at k c)) (rows_set i rows' (rows_set i rows (kept_at k c)))
      ∙ ap (slice_set k.cells c)
      (set_twice i rows rows' (kept_at k c) ∙ ap (λ rows. rows_set i rows (kept_at k c)) same ∙
      set_back i (kept_at k c))
      ∙ set-get_or k.cells c nothing_kept)

  pub first_undone : (k : Kept R) (c i : ℕ) (row : R) → first_row k c i ≡ Some row →
      with_first (without_first k c i) c i row ≡ k
  first_undone k c i row is =
      let there = within_row (queues_kept (kept_at k c)) i row is in
      back_again k c i (drop 1 (kept_rows k c i)) _ there
      (ap (λ rows. row ∷ rows) (rows_now k c i (drop 1 (kept_rows k c i)) there) ∙
      sym (split_row (kept_rows k c i) row is))

  last_pushed : (front : List R) (x : R) → slice_get (front ++ x ∷ []) (length front) ≡ Some x
  last_pushed [] x = refl
  last_pushed (y ∷ front) x = last_pushed front x

  pub last_undone : (k : Kept R) (c i capacity : ℕ) (row : R) → keeps_room k c i capacity ≡ true →
      (last_row (with_last k c i row) c i ≡ Some row) × (without_last (with_last k c i row) c i ≡ k)
  last_undone k c i capacity row room =
      let there = there_by_room k c i capacity room in
      let now = rows_now k c i (kept_rows k c i ++ row ∷ []) there in
      let place : length (kept_rows k c i ++ row ∷ []) - 1 ≡ length (kept_rows k c i) =
      omega (arith, length_push (kept_rows k c i) row) in (
        ap (λ q. slice_get q (length q - 1)) now ∙ ap (slice_get (kept_rows k c i ++ row ∷ [])) place ∙
            last_pushed (kept_rows k c i) row,
        back_again k c i (kept_rows k c i ++ row ∷ []) _ there
            (ap (λ q. take (length q - 1) q) now ∙ take_at (kept_rows k c i) (row ∷ []) _ (sym place)),
      )

  -- the sum of a measure of rows
  queues_weigh : (weigh : R → ℕ) (qs : List (List R)) (i : ℕ) (rows : List R) → i < length qs →
      sum_by weigh (rows_of (slice_set qs i rows)) + sum_by weigh (slice_index_or qs i []) ≡
      sum_by weigh (rows_of qs) + sum_by weigh rows
  queues_weigh weigh [] i rows within = absurd (omega (arith, within))
  queues_weigh weigh (q ∷ qs) zero rows within =
      omega (arith, sum_by-append weigh rows (rows_of qs), sum_by-append weigh q (rows_of qs))
  queues_weigh weigh (q ∷ qs) (suc i) rows within =
      let rest = queues_weigh weigh qs i rows (omega (arith, within)) in
      omega (arith, rest, sum_by-append weigh q (rows_of (slice_set qs i rows)), sum_by-append weigh q (rows_of qs))

  cells_weigh : (weigh : R → ℕ) (cells : List (KeptCell R)) (c i : ℕ) (rows : List R) →
      i < length (queues_kept (slice_index_or cells c nothing_kept)) →
      sum_by weigh (flat_map (λ cell. rows_of (queues_kept cell))
      (slice_set cells c (rows_set i rows (slice_index_or cells c nothing_kept))))
      + sum_by weigh (slice_index_or (queues_kept (slice_index_or cells c nothing_kept)) i [])
      ≡ sum_by weigh (flat_map (λ cell. rows_of (queues_kept cell)) cells) + sum_by weigh rows
  cells_weigh weigh [] c i rows within = absurd (omega (arith, within))
  cells_weigh weigh (cell ∷ cells) zero i rows within =
      let others = flat_map (λ cell. rows_of (queues_kept cell)) cells in
      let here = queues_weigh weigh (queues_kept cell) i rows within in
      let new : sum_by weigh (rows_of (queues_kept (rows_set i rows cell))) ≡
      sum_by weigh (rows_of (slice_set (queues_kept cell) i rows)) =
      ap (λ qs. sum_by weigh (rows_of qs)) (queues_set i rows cell) in
      omega (
        arith,
        here,
        new,
        sum_by-append weigh (rows_of (queues_kept (rows_set i rows cell))) others,
        sum_by-append weigh (rows_of (queues_kept cell)) others,
      )
  cells_weigh weigh (cell ∷ cells) (suc c) i rows within =
      let rest = cells_weigh weigh cells c i rows within in
      omega (
        arith,
        rest,
        sum_by-append weigh (rows_of (queues_kept cell)) (flat_map (λ cell. rows_of (queues_kept cell)) cells),
        sum_by-append weigh (rows_of (queues_kept cell))
            (flat_map (λ cell. rows_of (queues_kept cell))
            (slice_set cells c (rows_set i rows (slice_index_or cells c nothing_kept)))),
      )

  pub weigh_rows : (weigh : R → ℕ) (k : Kept R) (c i : ℕ) (rows : List R) → i < length (queues_kept (kept_at k c)) →
      sum_by weigh (rows_in (with_kept_rows k c i rows)) + sum_by weigh (kept_rows k c i) ≡
      sum_by weigh (rows_in k) + sum_by weigh rows
  weigh_rows weigh k c i rows there = cells_weigh weigh k.cells c i rows there

  pub weigh_last : (weigh : R → ℕ) (k : Kept R) (c i capacity : ℕ) (row : R) → keeps_room k c i capacity ≡ true →
      sum_by weigh (rows_in (with_last k c i row)) ≡ sum_by weigh (rows_in k) + weigh row
  weigh_last weigh k c i capacity row room =
      let whole = weigh_rows weigh k c i (kept_rows k c i ++ row ∷ []) (there_by_room k c i capacity room) in
      omega (arith, whole, sum_by_push weigh (kept_rows k c i) row)

  pub weigh_first : (weigh : R → ℕ) (k : Kept R) (c i : ℕ) (row : R) → first_row k c i ≡ Some row →
      sum_by weigh (rows_in k) ≡ sum_by weigh (rows_in (without_first k c i)) + weigh row
  weigh_first weigh k c i row is =
      let whole = weigh_rows weigh k c i (drop 1 (kept_rows k c i)) (within_row (queues_kept (kept_at k c)) i row is) in
      let split : sum_by weigh (kept_rows k c i) ≡ sum_by weigh (row ∷ drop 1 (kept_rows k c i)) =
      ap (sum_by weigh) (split_row (kept_rows k c i) row is) in
      omega (arith, whole, split, sum_by-cons weigh row (drop 1 (kept_rows k c i)))

  capacity_set : (i : ℕ) (rows : List R) (cell : KeptCell R) → capacity_of (rows_set i rows cell) ≡ capacity_of cell
  capacity_set i rows (numbers shape ns) = refl
  capacity_set i rows (queues shape capacity qs) = refl

  queues_length : (i : ℕ) (rows : List R) (cell : KeptCell R) → length (queues_kept (rows_set i rows cell)) ≡
      length (queues_kept cell)
  queues_length i rows (numbers shape ns) = refl
  queues_length i rows (queues shape capacity qs) = length-set qs i rows

  some_within : (qs : List (List R)) (i j : ℕ) (row : R) → slice_get (slice_index_or qs i []) j ≡ Some row →
      i < length qs
  some_within [] i j row is = absurd (cc is)
  some_within (q ∷ qs) zero j row is = omega arith
  some_within (q ∷ qs) (suc i) j row is = let rest = some_within qs i j row is in omega (arith, rest)

  some_row : (q : List R) (j : ℕ) (row : R) → slice_get q j ≡ Some row → 0 < length q
  some_row [] j row is = absurd (cc is)
  some_row (x ∷ q) j row is = omega arith

  -- a queue has room after a row that was taken
  pub room_left : (result : Option R) (k new : Kept R) (c i j : ℕ) (rows : List R) →
      result ≡ slice_get (kept_rows k c i) j →
      new ≡ with_kept_rows k c i rows → length rows ≡ length (kept_rows k c i) - 1 →
      ((row : R) → slice_get (kept_rows k c i) j ≡ Some row → length (kept_rows k c i) ≤ kept_capacity k c) →
      IfSome result (λ row. keeps_room new c i (kept_capacity new c) ≡ true)
  room_left None k new c i j rows read left size within = tt
  room_left (Some row) k new c i j rows read left size within =
      let there = some_within (queues_kept (kept_at k c)) i j row (sym read) in
      let some = some_row (kept_rows k c i) j row (sym read) in
      let cell : kept_at new c ≡ rows_set i rows (kept_at k c) = ap (λ (k : Kept R). kept_at k c) left ∙
      cell_now k c i rows there in
      let here : kept_rows new c i ≡ rows = ap (λ (k : Kept R). kept_rows k c i) left ∙ rows_now k c i rows there in
      let queue : i < length (queues_kept (kept_at new c)) =
      omega (arith, there, ap (λ cell. length (queues_kept cell)) cell, queues_length i rows (kept_at k c)) in
      let room : length (kept_rows new c i) < kept_capacity new c =
      omega (
        arith,
        ap length here,
        size,
        some,
        within row (sym read),
        ap capacity_of cell,
        capacity_set i rows (kept_at k c),
      ) in
      ap₂ (λ a b. a && b) (lt-ltb i (length (queues_kept (kept_at new c))) queue)
      (lt-ltb (length (kept_rows new c i)) (kept_capacity new c) room)

module _ (R : Type 0) where
  none_first : (me n ltime : ℕ) (form : tree.Form) → rows_of (queues_kept (kept_first {R = R} me n ltime form)) ≡ []
  none_first me n ltime (tree.numbers shape initial) = refl
  none_first me n ltime (tree.queue capacity items) = refl
  none_first me n ltime (tree.queues capacity items) = none_in {R = R} n

  none_of_cells : (me n ltime : ℕ) (cells : List CellTree) →
      flat_map (λ (cell : KeptCell R). rows_of (queues_kept cell)) (map (λ c. kept_first me n ltime c.form) cells) ≡ []
  none_of_cells me n ltime [] = refl
  none_of_cells me n ltime (c ∷ cells) = ap₂ (λ xs ys. xs ++ ys) (none_first me n ltime c.form)
      (none_of_cells me n ltime cells)

  -- there is no row at first
  pub none_at_first : (layer : LayerTree) (me n ltime most : ℕ) → rows_in {R = R} (kept_fresh layer me n ltime most) ≡
      []
  none_at_first layer me n ltime most = none_of_cells me n ltime layer.cells

-- One ring of a cell becomes another.
use Rattle.std.proofs.Common.{◌≡◌, ℕ, zero, suc, ◌+◌, ◌-◌, ◌≤◌, ◌<◌, List, [], ◌∷◌, ◌++◌, map, length, take, drop}
use Rattle.std.proofs.Common.{replicate, slice_get, slice_index_or, slice_set, Option, Some, None, option_to_list}
use Rattle.std.proofs.Common.{MatchOption, refl, sym, ap, ap₂, ◌∙◌, arith}
use Rattle.std.proofs.lemmas.List.{map-set, length-set, length-take, length-map, length_push, drop-set-lt}
use Rattle.std.proofs.lemmas.List.{drop-replicate, take-replicate, get_or-map, get_or-take, get_or-replicate}
use Rattle.std.specs.declared.alloc.Global.{Global}
use Rattle.std.specs.declared.collections.VecDeque.{VecDeque}
use Rattle.std.specs.VecDeque.{deque_items, deque_capacity, deque_len}
use Rattle.cell_store.specs.Kept.{rows_of}
use Rattle.cell_store.proofs.Empty.{all_empty}
use Rattle.cell_store.specs.Rings.{CellQueues, shown_rows, AreRings}

module _ {A : Type 0} where
  -- the front of a list that is written within or after it
  pub take_written : (n : ℕ) (xs : List A) (i : ℕ) (x : A) → take n (slice_set xs i x) ≡ slice_set (take n xs) i x
  take_written zero xs i x = refl
  take_written (suc n) [] i x = refl
  take_written (suc n) (y ∷ xs) zero x = refl
  take_written (suc n) (y ∷ xs) (suc i) x = ap (λ rest. y ∷ rest) (take_written n xs i x)

  pub replicate_written : (n : ℕ) (y : A) (i : ℕ) → slice_set (replicate n y) i y ≡ replicate n y
  replicate_written zero y i = refl
  replicate_written (suc n) y zero = refl
  replicate_written (suc n) y (suc i) = ap (λ rest. y ∷ rest) (replicate_written n y i)

module _ {R : Type 0} where
  -- the view of rings
  abbrev pub viewed : ℕ → ℕ → List (VecDeque R Global) → CellQueues R
  viewed capacity shown rings = record { capacity = capacity; most = length rings; rows = shown_rows shown rings }

  -- a shown ring has the rows that are shown
  pub shown_at : (shown : ℕ) (rings : List (VecDeque R Global)) (i : ℕ) (ring : VecDeque R Global) → i < shown →
      shown ≤ length rings →
      ring ≡ slice_index_or rings i ring → slice_index_or (shown_rows shown rings) i [] ≡ deque_items ring
  shown_at shown rings i ring below within read =
      get_or-take shown (map deque_items rings) i [] below
      ∙ get_or-map deque_items rings i ring [] (omega (arith, below, within)) ∙ sym (ap deque_items read)

  -- and it has the capacity
  pub capacity_at : (capacity shown : ℕ) (rings : List (VecDeque R Global)) (i : ℕ) (ring : VecDeque R Global) →
      AreRings capacity shown rings → i < shown → ring ≡ slice_index_or rings i ring → deque_capacity ring ≡ capacity
  capacity_at capacity shown rings i ring are below read =
      let within : i < length rings = omega (arith, below, are.shown_there) in
      ap deque_capacity read ∙ sym (get_or-map deque_capacity rings i ring 0 within)
      ∙ ap (λ xs. slice_index_or xs i 0) are.capacities ∙ get_or-replicate (length rings) i capacity 0 within

  -- a row of the cell stands among the rings that it shows
  pub within_shown : (capacity shown : ℕ) (rings : List (VecDeque R Global)) (p : CellQueues R) (i : ℕ) →
      viewed capacity shown rings ≡ p → i < length p.rows → i < shown
  within_shown capacity shown rings p i view below =
      let size : length (take shown (map deque_items rings)) ≡ length p.rows =
      ap (λ (q : CellQueues R). length q.rows) view in
      omega (arith, size, below, length-take shown (map deque_items rings))

  pub rows_read : (capacity shown : ℕ) (rings : List (VecDeque R Global)) (p : CellQueues R) (i : ℕ)
      (ring : VecDeque R Global) →
      viewed capacity shown rings ≡ p → AreRings capacity shown rings → i < shown → ring ≡ slice_index_or rings i ring →
      deque_items ring ≡ slice_index_or p.rows i []
  rows_read capacity shown rings p i ring view are below read =
      sym (shown_at shown rings i ring below are.shown_there read) ∙
      ap (λ (q : CellQueues R). slice_index_or q.rows i []) view

  -- a ring whose rows are fewer than the capacity has room
  pub has_room : (capacity shown : ℕ) (rings : List (VecDeque R Global)) (p : CellQueues R) (i : ℕ)
      (ring : VecDeque R Global) →
      viewed capacity shown rings ≡ p → AreRings capacity shown rings → i < shown → ring ≡ slice_index_or rings i ring →
      length (slice_index_or p.rows i []) < p.capacity → deque_len ring < deque_capacity ring
  has_room capacity shown rings p i ring view are below read room =
      let rows : length (deque_items ring) ≡ length (slice_index_or p.rows i []) =
      ap length (rows_read capacity shown rings p i ring view are below read) in
      let kept = capacity_at capacity shown rings i ring are below read in
      let same : capacity ≡ p.capacity = ap (λ (q : CellQueues R). q.capacity) view in
      omega (arith, rows, kept, same, room, ring.ok.0)

  pub still_rings : (capacity shown : ℕ) (rings : List (VecDeque R Global)) (i : ℕ) (ring new : VecDeque R Global) →
      AreRings capacity shown rings → i < shown → ring ≡ slice_index_or rings i ring →
      deque_capacity new ≡ deque_capacity ring →
      AreRings capacity shown (slice_set rings i new)
  still_rings capacity shown rings i ring new are below read same = record {
    few = are.few;
    shown_there = omega (arith, length-set rings i new, are.shown_there);
    capacities = map-set deque_capacity rings i new
        ∙ ap (slice_set (map deque_capacity rings) i) (same ∙ capacity_at capacity shown rings i ring are below read)
        ∙ ap (λ xs. slice_set xs i capacity) are.capacities ∙ replicate_written (length rings) capacity i
        ∙ ap (λ n. replicate n capacity) (sym (length-set rings i new));
    others_empty = ap (drop shown) (map-set deque_items rings i new) ∙
        drop-set-lt shown (map deque_items rings) i (deque_items new) below
        ∙ are.others_empty ∙ ap (λ n. replicate (n - shown) []) (sym (length-set rings i new));
  }

  pub shown_written : (capacity shown : ℕ) (rings : List (VecDeque R Global)) (p : CellQueues R) (i : ℕ)
      (new : VecDeque R Global)
      (rows : List R) → viewed capacity shown rings ≡ p → deque_items new ≡ rows →
      viewed capacity shown (slice_set rings i new) ≡ record p { rows = slice_set p.rows i rows }
  shown_written capacity shown rings p i new rows view is =
      let written : shown_rows shown (slice_set rings i new) ≡ slice_set (shown_rows shown rings) i rows =
      ap (take shown) (map-set deque_items rings i new) ∙ take_written shown (map deque_items rings) i (deque_items new)
      ∙ ap (slice_set (shown_rows shown rings) i) is in
      (λ k. record { capacity = capacity; most = length-set rings i new k; rows = written k })
      ∙ ap (λ (q : CellQueues R). record q { rows = slice_set q.rows i rows }) view

  -- a last row that is popped
  last_pushed : (front : List R) (x : R) → slice_get (front ++ x ∷ []) (length front) ≡ Some x
  last_pushed [] x = refl
  last_pushed (y ∷ front) x = last_pushed front x

  last_of_none : (items : List R) → length items ≡ 0 → None ≡ slice_get items (length items - 1)
  last_of_none [] none = refl
  last_of_none (x ∷ items) none = absurd (omega (arith, none))

  pub last_popped : (result : Option R) (items front : List R) (n m : ℕ) → n ≡ length items →
      items ≡ front ++ option_to_list result →
      MatchOption result ((n ≡ 0) × (m ≡ 0)) (λ _. m + 1 ≡ n) → result ≡ slice_get items (length items - 1)
  last_popped None items front n m size split cases = last_of_none items (sym size ∙ cases.0)
  last_popped (Some x) items front n m size split cases =
      let place : length items - 1 ≡ length front = omega (arith, ap length split, length_push front x) in
      sym (last_pushed front x) ∙ ap₂ slice_get (sym split) (sym place)

  pub last_rest : (ring : VecDeque R Global) (rows : List R) → deque_items ring ≡ rows →
      take (deque_len ring - 1) (deque_items ring) ≡ take (length rows - 1) rows
  last_rest ring rows is = ap (λ n. take (n - 1) (deque_items ring)) ring.ok.0 ∙ ap (λ q. take (length q - 1) q) is

  pub ring_few : (capacity shown : ℕ) (rings : List (VecDeque R Global)) (i : ℕ) (ring : VecDeque R Global) →
      AreRings capacity shown rings → i < shown → ring ≡ slice_index_or rings i ring → deque_len ring ≤ 255
  ring_few capacity shown rings i ring are below read =
      omega (arith, capacity_at capacity shown rings i ring are below read, are.few, ring.small.1)

  -- rings without a row
  pub rings_empty : (capacity shown : ℕ) (rings : List (VecDeque R Global)) (p : CellQueues R) →
      viewed capacity shown rings ≡ p →
      AreRings capacity shown rings → rows_of p.rows ≡ [] → map deque_items rings ≡ replicate (length rings) []
  rings_empty capacity shown rings p view are none =
      let size : length (map deque_items rings) ≡ length rings = length-map rings deque_items in
      all_empty shown (map deque_items rings) (omega (arith, size, are.shown_there))
      (ap (λ (q : CellQueues R). rows_of q.rows) view ∙ none)
      (are.others_empty ∙ ap (λ n. replicate (n - shown) []) (sym size)) ∙ ap (λ n. replicate n []) size

  pub rings_again : (capacity shown : ℕ) (rings : List (VecDeque R Global)) (p : CellQueues R) (n : ℕ) →
      viewed capacity shown rings ≡ p →
      AreRings capacity shown rings → rows_of p.rows ≡ [] → n ≤ p.most → AreRings capacity n rings
  rings_again capacity shown rings p n view are none within = record {
    few = are.few;
    shown_there = omega (arith, ap (λ (q : CellQueues R). q.most) view, within);
    capacities = are.capacities;
    others_empty = ap (drop n) (rings_empty capacity shown rings p view are none) ∙ drop-replicate n (length rings) [];
  }

  pub shown_again : (capacity shown : ℕ) (rings : List (VecDeque R Global)) (p : CellQueues R) (n : ℕ) →
      viewed capacity shown rings ≡ p →
      AreRings capacity shown rings → rows_of p.rows ≡ [] → n ≤ p.most →
      viewed capacity n rings ≡ record p { rows = replicate n [] }
  shown_again capacity shown rings p n view are none within =
      let rows : shown_rows n rings ≡ replicate n [] = ap (take n) (rings_empty capacity shown rings p view are none)
      ∙ take-replicate n (length rings) [] (omega (arith, ap (λ (q : CellQueues R). q.most) view, within)) in
      (λ k. record { capacity = capacity; most = length rings; rows = rows k })
      ∙ ap (λ (q : CellQueues R). record q { rows = replicate n [] }) view

  -- a ring has no more rows than its capacity
  pub ring_within : (capacity shown : ℕ) (rings : List (VecDeque R Global)) (p : CellQueues R) (i : ℕ)
      (ring : VecDeque R Global) →
      viewed capacity shown rings ≡ p → AreRings capacity shown rings → i < shown → ring ≡ slice_index_or rings i ring →
      length (slice_index_or p.rows i []) ≤ p.capacity
  ring_within capacity shown rings p i ring view are below read =
      let rows : length (deque_items ring) ≡ length (slice_index_or p.rows i []) =
      ap length (rows_read capacity shown rings p i ring view are below read) in
      let same : capacity ≡ p.capacity = ap (λ (q : CellQueues R). q.capacity) view in
      omega (arith, rows, capacity_at capacity shown rings i ring are below read, same, ring.ok.0, ring.small.1)

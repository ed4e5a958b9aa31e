-- A layer whose own cells a caller changes.
use Rattle.std.proofs.Common.{◌≡◌, ℕ, zero, suc, ◌-◌, ◌≤◌, ◌<◌, true, List, [], ◌∷◌, ◌++◌, Option, Some, None, IfSome}
use Rattle.std.proofs.Common.{map, length, take, drop, get_or, set, slice_get, flat_map, refl, sym, ap, subst, ◌∙◌}
use Rattle.std.proofs.Common.{arith}
use Rattle.std.specs.List.{AllByRecursion}
use Rattle.std.proofs.Math.ListN.{get_or-map}
use Rattle.std.proofs.Math.Seq.{map-set_same}
use Rattle.std.proofs.lemmas.List.{length-append, set-get_or}
use Rattle.slot_pool.specs.Held.{Held}
use Rattle.slot_pool.specs.Times.{times}
use Rattle.slot_pool.proofs.Times.{times-append}
use Rattle.layer_mean.specs.State.{has_room}
use Rattle.layer_mean.specs.Tree.{LayerTree}
use Rattle.cell_store.specs.Kept.{KeptCell, numbers, queues, Kept, nothing_kept, queues_kept, capacity_of, kept_at}
use Rattle.cell_store.specs.Kept.{kept_rows, kept_row, kept_capacity, keeps_room, number_set, rows_set}
use Rattle.cell_store.specs.Kept.{with_kept_number, with_kept_rows, with_last, with_first, without_first, without_last}
use Rattle.cell_store.specs.Kept.{first_row, last_row, state_of}
use Rattle.cell_store.specs.Fresh.{IsFor}
use Rattle.cell_store.proofs.Seen.{room_seen, number_for, rows_for}
use Rattle.pool_message.specs.Seen.{row_refs, row_seen, RowLies}
use Rattle.pool_message.specs.declared.row.PoolRow.{PoolRow}
use Rattle.live_layer.specs.Fits.{IsShortIf, QueueFits, CellFits}
use Rattle.live_layer.specs.Layer.{place_of, tree_of, most_of, taken_by}
use Rattle.live_layer.specs.OwnCells.{capacity_at, CanBeOwn, row_refs_if, AreTogether, IsAsBefore}
use Rattle.live_layer.specs.Ready.{layout_of}
use Rattle.live_layer.specs.Rest.{IsMadeFor, KeepsFew, IsAtRest}
use Rattle.live_layer.specs.Stock.{cell_refs, kept_refs, CellLies}
use Rattle.live_layer.specs.declared.desk.FileDesk.{FileDesk}
use Rattle.live_layer.specs.declared.layer.FileLayer.{FileLayer}
use Rattle.live_layer.proofs.Found.{row_lies}
use Rattle.live_layer.proofs.Held.{times_get}
use Rattle.live_layer.proofs.Lists.{all-append, all-at, all-get, all-set, times-at, times-both, times-one}
use Rattle.live_layer.proofs.ReadyCells.{refs_same, there_with_room, rows_set_fits, rows_set_capacity, set_refs}
use Rattle.live_layer.proofs.ReadyCells.{set_lies, set_fits, set_capacity}
use Rattle.live_layer.proofs.Rows.{rows_times, last_times, first_times, rows_lie, rows_set_lie}

-- ---- lists with one row less

module _ {A : Type 0} (P : A → Type 0) where
  all-taken : (n : ℕ) (xs : List A) → AllByRecursion P xs → AllByRecursion P (take n xs)
  all-taken zero xs a = tt
  all-taken (suc n) [] a = tt
  all-taken (suc n) (x ∷ xs) a = (a.0, all-taken n xs a.1)

  all-rest : (xs : List A) → AllByRecursion P xs → AllByRecursion P (drop 1 xs)
  all-rest [] a = tt
  all-rest (x ∷ xs) a = a.1

module _ {A : Type 0} where
  taken_few : (n : ℕ) (xs : List A) → length (take n xs) ≤ length xs
  taken_few zero xs = omega arith
  taken_few (suc n) [] = omega arith
  taken_few (suc n) (x ∷ xs) = let rest = taken_few n xs in omega arith

  rest_few : (xs : List A) → length (drop 1 xs) ≤ length xs
  rest_few [] = omega arith
  rest_few (x ∷ xs) = omega arith

  split_first : (q : List A) (x : A) → slice_get q 0 ≡ Some x → q ≡ x ∷ drop 1 q
  split_first [] x is = absurd (cc)
  split_first (y ∷ q) x is = let same : y ≡ x = cc in ap (λ z. z ∷ q) same

  none_first : (q : List A) → slice_get q 0 ≡ None → drop 1 q ≡ q
  none_first [] is = refl
  none_first (y ∷ q) is = absurd (cc)

  split_last : (q : List A) (n : ℕ) (x : A) → n ≡ length q - 1 → slice_get q n ≡ Some x → q ≡ take n q ++ x ∷ []
  split_last [] n x last is = absurd (cc)
  split_last (y ∷ []) zero x last is = let same : y ≡ x = cc in ap (λ z. z ∷ []) same
  split_last (y ∷ []) (suc n) x last is = absurd (omega arith)
  split_last (y ∷ z ∷ q) zero x last is = absurd (omega arith)
  split_last (y ∷ z ∷ q) (suc n) x last is = ap (λ xs. y ∷ xs) (split_last (z ∷ q) n x (omega arith) is)

  none_last : (q : List A) (n : ℕ) → n ≡ length q - 1 → slice_get q n ≡ None → take n q ≡ q
  none_last [] zero last is = refl
  none_last [] (suc n) last is = refl
  none_last (y ∷ []) zero last is = absurd (cc)
  none_last (y ∷ []) (suc n) last is = absurd (omega arith)
  none_last (y ∷ z ∷ q) zero last is = absurd (omega arith)
  none_last (y ∷ z ∷ q) (suc n) last is = ap (λ xs. y ∷ xs) (none_last (z ∷ q) n (omega arith) is)

  -- A queue with a row is there.
  within_row : (qs : List (List A)) (i r : ℕ) (x : A) → slice_get (get_or qs i []) r ≡ Some x → i < length qs
  within_row [] i r x is = absurd (cc)
  within_row (q ∷ qs) zero r x is = omega arith
  within_row (q ∷ qs) (suc i) r x is = let rest = within_row qs i r x is in omega arith

-- ---- a desk at rest with other cells

module _ (layer : LayerTree) (p : List Held) (d : FileDesk) (is : IsAtRest layer p d) where
  with_cells : (k : Kept PoolRow) → AllByRecursion (CellLies p) k.cells → AllByRecursion CellFits k.cells →
      IsFor layer k →
      map capacity_of k.cells ≡ map capacity_of d.cells.cells → IsAtRest layer p (record d { cells = k })
  with_cells k lie fit forms same =
      let layout : layout_of d ≡ layout_of (record d { cells = k }) = λ j. record (layout_of d) { rows = sym same j } in
      record {
        lie = lie;
        cells = fit;
        forms = forms;
        numbers = is.numbers;
        messages = is.messages;
        arrived = is.arrived;
        hand = is.hand;
        sent = is.sent;
        numbers_room = is.numbers_room;
        messages_room = is.messages_room;
        few = subst KeepsFew layout is.few;
        made = subst (IsMadeFor layer) layout is.made;
      }

  cell_fit : (c : ℕ) → CellFits (kept_at d.cells c)
  cell_fit c = all-get CellFits d.cells.cells c nothing_kept is.cells (omega arith, tt)

  queue_fits : (c i : ℕ) → QueueFits (kept_capacity d.cells c) (kept_rows d.cells c i)
  queue_fits c i =
      all-get (QueueFits (kept_capacity d.cells c)) (queues_kept (kept_at d.cells c)) i [] (cell_fit c).1
      (record { few = omega arith; short = tt })

  pub number_rest : (c i v : ℕ) → IsAtRest layer p (record d { cells = with_kept_number d.cells c i v })
  number_rest c i v =
      let cell = kept_at d.cells c in
      with_cells (with_kept_number d.cells c i v)
      (all-set (CellLies p) d.cells.cells c (number_set i v cell) is.lie
      (set_lies p i v cell (all-get (CellLies p) d.cells.cells c nothing_kept is.lie tt)))
      (all-set CellFits d.cells.cells c (number_set i v cell) is.cells (set_fits i v cell (cell_fit c)))
      (number_for layer d.cells c i v is.forms)
      (map-set_same capacity_of d.cells.cells c (number_set i v cell) nothing_kept (set_capacity i v cell))

  rows_rest : (c i : ℕ) (rows : List PoolRow) → AllByRecursion (RowLies p) rows →
      QueueFits (kept_capacity d.cells c) rows →
      IsAtRest layer p (record d { cells = with_kept_rows d.cells c i rows })
  rows_rest c i rows lie fit =
      let cell = kept_at d.cells c in
      with_cells (with_kept_rows d.cells c i rows)
      (rows_set_lie p d.cells c i is.lie rows lie)
      (all-set CellFits d.cells.cells c (rows_set i rows cell) is.cells (rows_set_fits i rows cell (cell_fit c) fit))
      (rows_for layer d.cells c i rows is.forms)
      (map-set_same capacity_of d.cells.cells c (rows_set i rows cell) nothing_kept (rows_set_capacity i rows cell))

  module _ (c i : ℕ) where
    pub last_rest : (row : PoolRow) → length (kept_rows d.cells c i) < kept_capacity d.cells c →
        CanBeOwn p row.message →
        IsAtRest layer p (record d { cells = with_last d.cells c i row })
    last_rest row room own =
        rows_rest c i (kept_rows d.cells c i ++ row ∷ [])
        (all-append (RowLies p) (kept_rows d.cells c i) (row ∷ []) (rows_lie p d.cells c i is.lie) (own.lies, tt))
        (record {
          few = omega (arith, length-append (kept_rows d.cells c i) (row ∷ []));
          short = all-append (λ (r : PoolRow). IsShortIf r.message) (kept_rows d.cells c i) (row ∷ [])
              (queue_fits c i).short (own.short, tt);
        })

    pub first_rest : (row : PoolRow) → length (kept_rows d.cells c i) < kept_capacity d.cells c →
        CanBeOwn p row.message →
        IsAtRest layer p (record d { cells = with_first d.cells c i row })
    first_rest row room own =
        rows_rest c i (row ∷ kept_rows d.cells c i) (own.lies, rows_lie p d.cells c i is.lie)
        (record { few = omega arith; short = (own.short, (queue_fits c i).short) })

    pub without_first_rest : (k : Kept PoolRow) → k ≡ without_first d.cells c i →
        IsAtRest layer p (record d { cells = k })
    without_first_rest k new =
        let queue = queue_fits c i in let few = rest_few (kept_rows d.cells c i) in let all = queue.few in
        subst (λ k. IsAtRest layer p (record d { cells = k })) (sym new)
        (rows_rest c i (drop 1 (kept_rows d.cells c i))
        (all-rest (RowLies p) (kept_rows d.cells c i) (rows_lie p d.cells c i is.lie))
        (record {
          few = omega arith;
          short = all-rest (λ (r : PoolRow). IsShortIf r.message) (kept_rows d.cells c i)
              queue.short;
        }))

    pub without_last_rest : (k : Kept PoolRow) → k ≡ without_last d.cells c i →
        IsAtRest layer p (record d { cells = k })
    without_last_rest k new =
        let queue = queue_fits c i in let n = length (kept_rows d.cells c i) - 1 in
        let few = taken_few n (kept_rows d.cells c i) in let all = queue.few in
        subst (λ k. IsAtRest layer p (record d { cells = k })) (sym new)
        (rows_rest c i (take n (kept_rows d.cells c i))
        (all-taken (RowLies p) n (kept_rows d.cells c i) (rows_lie p d.cells c i is.lie))
        (record {
          few = omega arith;
          short = all-taken (λ (r : PoolRow). IsShortIf r.message) n (kept_rows d.cells c i)
              queue.short;
        }))

    -- A row that is there has no message, or one that a row may have.
    pub row_own : (r : ℕ) (o : Option PoolRow) → o ≡ kept_row d.cells c i r → IfSome o (λ row. CanBeOwn p row.message)
    row_own r None there = tt
    row_own r (Some row) there = record {
      lies = row_lies p d.cells c i r is.lie row (sym there);
      short = all-at (λ (x : PoolRow). IsShortIf x.message) (kept_rows d.cells c i) r row (sym there)
          (queue_fits c i).short;
    }

-- ---- what stays of a layer

capacities : (old k : Kept PoolRow) → map capacity_of k.cells ≡ map capacity_of old.cells → (c : ℕ) →
    kept_capacity k c ≡ kept_capacity old c
capacities old k same c =
    sym (get_or-map capacity_of k.cells c nothing_kept) ∙ ap (λ ns. get_or ns c 0) same ∙
    get_or-map capacity_of old.cells c nothing_kept

as_before : (s : FileLayer) (k : Kept PoolRow) → k.most ≡ s.desk.cells.most →
    map capacity_of k.cells ≡ map capacity_of s.desk.cells.cells →
    IsAsBefore s (record s { desk = record s.desk { cells = k } })
unfolding place_of tree_of most_of taken_by capacity_at
as_before s k most same =
    record { place = refl; tree = refl; most = most; taken = refl; capacity = capacities s.desk.cells k same }

pub number_before : (s : FileLayer) (c i v : ℕ) (k : Kept PoolRow) → k ≡ with_kept_number s.desk.cells c i v →
    IsAsBefore s (record s { desk = record s.desk { cells = k } })
number_before s c i v k new =
    let cell = kept_at s.desk.cells c in
    as_before s k (ap (λ (k : Kept PoolRow). k.most) new)
    (ap (λ (k : Kept PoolRow). map capacity_of k.cells) new ∙
    map-set_same capacity_of s.desk.cells.cells c (number_set i v cell) nothing_kept (set_capacity i v cell))

pub rows_before : (s : FileLayer) (c i : ℕ) (rows : List PoolRow) (k : Kept PoolRow) →
    k ≡ with_kept_rows s.desk.cells c i rows →
    IsAsBefore s (record s { desk = record s.desk { cells = k } })
rows_before s c i rows k new =
    let cell = kept_at s.desk.cells c in
    as_before s k (ap (λ (k : Kept PoolRow). k.most) new)
    (ap (λ (k : Kept PoolRow). map capacity_of k.cells) new ∙
    map-set_same capacity_of s.desk.cells.cells c (rows_set i rows cell) nothing_kept (rows_set_capacity i rows cell))

-- ---- references

pub number_refs : (old k : Kept PoolRow) (c i v : ℕ) → k ≡ with_kept_number old c i v → kept_refs k ≡ kept_refs old
number_refs old k c i v new = ap kept_refs new ∙ refs_same old.cells c (number_set i v (kept_at old c))
    (set_refs i v (kept_at old c))

set_back : (i : ℕ) (cell : KeptCell PoolRow) → rows_set i (get_or (queues_kept cell) i []) cell ≡ cell
set_back i (numbers shape ns) = refl
set_back i (queues shape capacity qs) = ap (λ qs. queues shape capacity qs) (set-get_or qs i [])

-- A queue with the rows that it has.
as_it_was : (k : Kept PoolRow) (c i : ℕ) (rows : List PoolRow) → rows ≡ kept_rows k c i → with_kept_rows k c i rows ≡ k
as_it_was k c i rows same =
    ap (with_kept_rows k c i) same ∙
    ap (λ cells. record k { cells = cells })
    (ap (set k.cells c) (set_back i (kept_at k c)) ∙ set-get_or k.cells c nothing_kept)

module _ (old k : Kept PoolRow) (c i : ℕ) where
  pub last_together : (row : PoolRow) → keeps_room old c i (kept_capacity old c) ≡ true → k ≡ with_last old c i row →
      AreTogether (kept_refs k) (row_refs row) (kept_refs old)
  last_together row room new = record {
    times = λ j. ap (λ (k : Kept PoolRow). times j (kept_refs k)) new ∙
        last_times old c i (there_with_room old c i (kept_capacity old c) room).0 row j;
  }

  pub first_together : (row : PoolRow) → keeps_room old c i (kept_capacity old c) ≡ true → k ≡ with_first old c i row →
      AreTogether (kept_refs k) (row_refs row) (kept_refs old)
  first_together row room new = record {
    times = λ j.
        let same = ap (λ (k : Kept PoolRow). times j (kept_refs k)) new in
        let all = rows_times old c i (there_with_room old c i (kept_capacity old c) room).0 j (row ∷ kept_rows old c i)
        in
        let both = times-append j (row_refs row) (flat_map row_refs (kept_rows old c i)) in omega arith;
  }

  -- The rows of a queue that has none stay, whatever is taken.
  none_together : (rows : List PoolRow) → rows ≡ kept_rows old c i → k ≡ with_kept_rows old c i rows →
      AreTogether (kept_refs old) [] (kept_refs k)
  none_together rows none new = record {
    times = λ j. let same = ap (λ (k : Kept PoolRow). times j (kept_refs k)) (new ∙ as_it_was old c i rows none) in
        omega arith;
  }

  pub front_together : (o : Option PoolRow) → o ≡ first_row old c i → k ≡ without_first old c i →
      AreTogether (kept_refs old) (row_refs_if o) (kept_refs k)
  front_together None none new = none_together (drop 1 (kept_rows old c i)) (none_first (kept_rows old c i) (sym none))
      new
  front_together (Some row) there new = record {
    times = λ j.
        let same = ap (λ (k : Kept PoolRow). times j (kept_refs k)) new in
        let out = first_times old c i (within_row (queues_kept (kept_at old c)) i 0 row (sym there)) row
        (drop 1 (kept_rows old c i))
        (split_first (kept_rows old c i) row (sym there)) j in omega arith;
  }

  pub back_together : (o : Option PoolRow) → o ≡ last_row old c i → k ≡ without_last old c i →
      AreTogether (kept_refs old) (row_refs_if o) (kept_refs k)
  back_together None none new =
      none_together (take (length (kept_rows old c i) - 1) (kept_rows old c i))
      (none_last (kept_rows old c i) _ refl (sym none)) new
  back_together (Some row) there new = record {
    times = λ j.
        let front = take (length (kept_rows old c i) - 1) (kept_rows old c i) in
        let same = ap (λ (k : Kept PoolRow). times j (kept_refs k)) new in
        let out = rows_times old c i
        (within_row (queues_kept (kept_at old c)) i (length (kept_rows old c i) - 1) row (sym there)) j front in
        let whole = ap (λ rows. times j (flat_map row_refs rows))
        (split_last (kept_rows old c i) _ row refl (sym there)) in
        let both = times-both row_refs j front (row ∷ []) in let one = times-one row_refs j row in omega arith;
  }

-- A row's references are among those of the layer.
pub row_among : (k : Kept PoolRow) (c i r : ℕ) (row : PoolRow) → kept_row k c i r ≡ Some row → (j : ℕ) →
    times j (row_refs row) ≤ times j (kept_refs k)
row_among k c i r row at j =
    let one = times-at row_refs j (kept_rows k c i) r row at in
    let queue = times_get (flat_map row_refs) j (queues_kept (kept_at k c)) i [] refl in
    let cell = times_get cell_refs j k.cells c nothing_kept refl in omega arith

-- ---- room

-- Room in the words of the state is room in those of the cells.
pub room_kept : (k : Kept PoolRow) (c i : ℕ) →
    ((p : List Held) → has_room (state_of (row_seen p) k) c i (kept_capacity k c) ≡ true) →
    keeps_room k c i (kept_capacity k c) ≡ true
room_kept k c i room = sym (room_seen (row_seen []) k c i (kept_capacity k c)) ∙ room []

pub room_after : (k : Kept PoolRow) (c i : ℕ) (o : Option PoolRow) →
    IfSome o (λ row. keeps_room k c i (kept_capacity k c) ≡ true) →
    IfSome o (λ row. (p : List Held) → has_room (state_of (row_seen p) k) c i (kept_capacity k c) ≡ true)
room_after k c i None room = tt
room_after k c i (Some row) room = λ p. room_seen (row_seen p) k c i (kept_capacity k c) ∙ room

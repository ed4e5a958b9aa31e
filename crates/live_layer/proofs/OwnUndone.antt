-- What is seen of a layer's own cells that a caller changes, and that changes are undone.
use Rattle.std.proofs.Common.{◌≡◌, ℕ, zero, suc, ◌-◌, true, List, [], ◌∷◌, Some, option_map, map, length, take, get_or}
use Rattle.std.proofs.Common.{set, slice_index, refl, sym, ap, subst, ◌∙◌, Option}
use Rattle.std.proofs.lemmas.Iterator.Adapters.{option_map_id}
use Rattle.std.proofs.lemmas.List.{length-map, map-id, set-get_or, set-set}
use Rattle.layer_words.specs.declared.sorts.Shape.TheVariants.{One}
use Rattle.layer_mean.specs.State as state
use Rattle.layer_mean.specs.State.{State, Contents, no_cell, numbers_in, rows_at, row_at, has_room}
use Rattle.layer_mean.specs.State.{with_element, with_rows, with_row, without_front}
use Rattle.layer_mean.specs.declared.run.Row.{Row}
use Rattle.cell_store.specs.Kept.{KeptCell, numbers, queues, Kept, kept_rows, kept_row, with_last, with_first}
use Rattle.cell_store.specs.Kept.{without_first, without_last, first_row, last_row, contents_seen, state_of}
use Rattle.cell_store.proofs.Seen.{rows_set_seen, rows_seen, row_seen, room_seen, last_seen, front_seen}
use Rattle.cell_store.proofs.Undone.{first_undone, last_undone}
use Rattle.live_layer.specs.OwnCells.{last_row_at, without_back, with_front_row, OwnChangesAreUndone}

-- ---- what is seen

module _ {R : Type 0} (see : R → Row) where
  taken_seen : (n : ℕ) (xs : List R) → map see (take n xs) ≡ take n (map see xs)
  taken_seen zero xs = refl
  taken_seen (suc n) [] = refl
  taken_seen (suc n) (x ∷ xs) = ap (λ ys. see x ∷ ys) (taken_seen n xs)

  pub put_seen : (k : Kept R) (c i : ℕ) (row : R) → state_of see (with_first k c i row) ≡
      with_front_row (state_of see k) c i (see row)
  put_seen k c i row =
      rows_set_seen see k c i (row ∷ kept_rows k c i) ∙ ap (λ rows. with_rows (state_of see k) c i (see row ∷ rows))
      (sym (rows_seen see k c i))

  long_seen : (k : Kept R) (c i : ℕ) → length (rows_at (state_of see k) c i) ≡ length (kept_rows k c i)
  long_seen k c i = ap length (rows_seen see k c i) ∙ length-map (kept_rows k c i) see

  back_seen : (k : Kept R) (c i : ℕ) → state_of see (without_last k c i) ≡ without_back (state_of see k) c i
  back_seen k c i =
      rows_set_seen see k c i (take (length (kept_rows k c i) - 1) (kept_rows k c i)) ∙
      ap (with_rows (state_of see k) c i)
      (taken_seen (length (kept_rows k c i) - 1) (kept_rows k c i) ∙
      (λ j. take (sym (long_seen k c i) j - 1) (sym (rows_seen see k c i) j)))

  last_seen_at : (k : Kept R) (c i : ℕ) → last_row_at (state_of see k) c i ≡ option_map see (last_row k c i)
  last_seen_at k c i =
      ap (λ n. row_at (state_of see k) c i (n - 1)) (long_seen k c i) ∙
      row_seen see k c i (length (kept_rows k c i) - 1)

  -- The front row and the last, as they are taken.
  pub front_read : (k : Kept R) (c i : ℕ) (o : Option R) → o ≡ first_row k c i →
      option_map see o ≡ row_at (state_of see k) c i 0
  front_read k c i o is = ap (option_map see) is ∙ sym (row_seen see k c i 0)

  pub last_read : (k : Kept R) (c i : ℕ) (o : Option R) → o ≡ last_row k c i →
      option_map see o ≡ last_row_at (state_of see k) c i
  last_read k c i o is = ap (option_map see) is ∙ sym (last_seen_at k c i)

  -- What is left.
  pub front_left : (old k : Kept R) (c i : ℕ) → k ≡ without_first old c i →
      state_of see k ≡ without_front (state_of see old) c i
  front_left old k c i new = ap (state_of see) new ∙ front_seen see old c i

  pub back_left : (old k : Kept R) (c i : ℕ) → k ≡ without_last old c i →
      state_of see k ≡ without_back (state_of see old) c i
  back_left old k c i new = ap (state_of see) new ∙ back_seen old c i

-- ---- a state is that of cells whose rows are as they are seen

abbrev as_seen : Row → Row
as_seen row = row

abbrev kept_cell : Contents → KeptCell Row
kept_cell (state.numbers ns) = numbers One ns
kept_cell (state.queues qs) = queues One 0 qs

abbrev kept_of : State → Kept Row
kept_of s = record { me = s.me; count = s.count; ltime = s.ltime; most = 0; cells = map kept_cell s.cells }

queues_same : (qs : List (List Row)) → map (map as_seen) qs ≡ qs
queues_same [] = refl
queues_same (q ∷ qs) = λ j. map-id q j ∷ queues_same qs j

cell_same : (cell : Contents) → contents_seen as_seen (kept_cell cell) ≡ cell
cell_same (state.numbers ns) = refl
cell_same (state.queues qs) = ap (λ qs. state.queues qs) (queues_same qs)

cells_same : (cells : List Contents) → map (contents_seen as_seen) (map kept_cell cells) ≡ cells
cells_same [] = refl
cells_same (cell ∷ cells) = λ j. cell_same cell j ∷ cells_same cells j

state_same : (s : State) → state_of as_seen (kept_of s) ≡ s
state_same s = ap (λ cells. record s { cells = cells }) (cells_same s.cells)

-- ---- changes are undone

module _ (k : Kept Row) (c i : ℕ) where
  front_kept : (row : Row) → row_at (state_of as_seen k) c i 0 ≡ Some row →
      with_front_row (without_front (state_of as_seen k) c i) c i row ≡ state_of as_seen k
  front_kept row is =
      ap (λ s. with_front_row s c i row) (sym (front_seen as_seen k c i)) ∙
      sym (put_seen as_seen (without_first k c i) c i row) ∙
      ap (state_of as_seen)
      (first_undone k c i row (sym (option_map_id (kept_row k c i 0)) ∙ sym (row_seen as_seen k c i 0) ∙ is))

  back_kept : (capacity : ℕ) (row : Row) → has_room (state_of as_seen k) c i capacity ≡ true →
      (last_row_at (with_row (state_of as_seen k) c i row) c i ≡ Some row) ×
      (without_back (with_row (state_of as_seen k) c i row) c i ≡ state_of as_seen k)
  back_kept capacity row room =
      let undone = last_undone k c i capacity row (sym (room_seen as_seen k c i capacity) ∙ room) in
      let pushed = sym (last_seen as_seen k c i row) in (
        ap (λ s. last_row_at s c i) pushed ∙ last_seen_at as_seen (with_last k c i row) c i ∙
            option_map_id (last_row (with_last k c i row) c i) ∙ undone.0,
        ap (λ s. without_back s c i) pushed ∙ sym (back_seen as_seen (with_last k c i row) c i) ∙
            ap (state_of as_seen) undone.1,
      )

written_back : (cell : Contents) (i v : ℕ) → with_element i (slice_index (numbers_in cell) i) (with_element i v cell) ≡
    cell
written_back (state.numbers ns) i v =
    ap (λ ns. state.numbers ns) (set-set ns i v (slice_index ns i) ∙ set-get_or ns i 0)
written_back (state.queues qs) i v = refl

-- Cells with the number of one written, and written back.
cells_back : (cells : List Contents) (c i v : ℕ) →
    let wrote = set cells c (with_element i v (get_or cells c no_cell)) in
    set wrote c (with_element i (slice_index (numbers_in (get_or cells c no_cell)) i) (get_or wrote c no_cell)) ≡ cells
cells_back [] c i v = refl
cells_back (cell ∷ cells) zero i v = ap (λ x. x ∷ cells) (written_back cell i v)
cells_back (cell ∷ cells) (suc c) i v = ap (λ xs. cell ∷ xs) (cells_back cells c i v)

pub own_undone : OwnChangesAreUndone
own_undone = record {
  number = λ s c i v. ap (λ cells. record s { cells = cells }) (cells_back s.cells c i v);
  front = λ s c i row.
      subst (λ s. row_at s c i 0 ≡ Some row → with_front_row (without_front s c i) c i row ≡ s) (state_same s)
      (front_kept (kept_of s) c i row);
  back = λ s c i capacity row.
      subst (λ s. has_room s c i capacity ≡ true → (last_row_at (with_row s c i row) c i ≡ Some row) ×
      (without_back (with_row s c i row) c i ≡ s))
      (state_same s) (back_kept (kept_of s) c i capacity row);
}

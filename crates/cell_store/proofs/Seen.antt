-- Seeing the rows of what is kept goes together with reading and changing it.
use Rattle.std.proofs.Common.{◌≡◌, ℕ, zero, suc, ◌&&◌, nat_lt, List, [], ◌∷◌, ◌++◌, map, length, drop, replicate}
use Rattle.std.proofs.Common.{slice_get, slice_index, slice_index_or, slice_set, Option, Some, None, option_map, refl}
use Rattle.std.proofs.Common.{sym, ap, ap₂, ◌∙◌}
use Rattle.std.proofs.lemmas.List.{map-set, set-get_or, map_push, drop-map, length-map}
use Rattle.layer_mean.specs.Tree as tree
use Rattle.layer_mean.specs.Tree.{LayerTree, CellTree}
use Rattle.layer_mean.specs.State as state
use Rattle.layer_mean.specs.State.{State, numbers_in, queues_in, cell_at, number_at, rows_at, row_at}
use Rattle.layer_mean.specs.State.{has_room, with_number, with_rows, with_row, without_front, with_element, with_queue}
use Rattle.layer_mean.specs.Visit.{bare_state, fresh, fresh_cell}
use Rattle.layer_mean.specs.declared.run.Row.{Row}
use Rattle.cell_store.specs.Kept.{KeptCell, numbers, queues, Kept, nothing_kept, numbers_kept, queues_kept, capacity_of}
use Rattle.cell_store.specs.Kept.{kept_at, kept_capacity, kept_number, kept_rows, kept_row, keeps_room, number_set}
use Rattle.cell_store.specs.Kept.{rows_set, with_kept_number, with_kept_rows, with_last, without_first, cell_emptied}
use Rattle.cell_store.specs.Kept.{emptied, contents_seen, state_of}
use Rattle.layer_words.specs.declared.sorts.Shape.{Shape}
use Rattle.cell_store.specs.Frames.{capacity_in}
use Rattle.cell_store.specs.Fresh.{kept_first, kept_fresh, kept_form, tree_form, IsFor}

module _ {A B : Type 0} where
  read_map : (f : A → B) (xs : List A) (i : ℕ) (d : A) → slice_index_or (map f xs) i (f d) ≡ f (slice_index_or xs i d)
  read_map f [] i d = refl
  read_map f (x ∷ xs) zero d = refl
  read_map f (x ∷ xs) (suc i) d = read_map f xs i d

  get_map : (f : A → B) (xs : List A) (i : ℕ) → slice_get (map f xs) i ≡ option_map f (slice_get xs i)
  get_map f [] i = refl
  get_map f (x ∷ xs) zero = refl
  get_map f (x ∷ xs) (suc i) = get_map f xs i

  map_replicate : (f : A → B) (n : ℕ) (x : A) → map f (replicate n x) ≡ replicate n (f x)
  map_replicate f zero x = refl
  map_replicate f (suc n) x = ap (λ rest. f x ∷ rest) (map_replicate f n x)

  -- what doesn't see a change
  pub set_same : (f : A → B) (xs : List A) (i : ℕ) (d new : A) → f new ≡ f (slice_index_or xs i d) →
      map f (slice_set xs i new) ≡ map f xs
  set_same f xs i d new same =
      map-set f xs i new ∙ ap (slice_set (map f xs) i) same ∙ sym (map-set f xs i (slice_index_or xs i d)) ∙
      ap (map f) (set-get_or xs i d)

-- the capacity that a form tells
abbrev told : Option ℕ → ℕ
told None = 0
told (Some capacity) = capacity

abbrev capacity_told : Shape × Option ℕ → ℕ
capacity_told form = told form.1

told_tree : (form : tree.Form) → capacity_told (tree_form form) ≡ capacity_in form
told_tree (tree.numbers shape initial) = refl
told_tree (tree.queue capacity items) = refl
told_tree (tree.queues capacity items) = refl

told_trees : (cells : List CellTree) → map capacity_told (map (λ c. tree_form c.form) cells) ≡
    map (λ c. capacity_in c.form) cells
told_trees [] = refl
told_trees (c ∷ cells) = ap₂ (λ x xs. x ∷ xs) (told_tree c.form) (told_trees cells)

module _ {R : Type 0} (see : R → Row) where
  cell_seen : (k : Kept R) (c : ℕ) → cell_at (state_of see k) c ≡ contents_seen see (kept_at k c)
  cell_seen k c = read_map (contents_seen see) k.cells c nothing_kept

  numbers_seen : (cell : KeptCell R) → numbers_in (contents_seen see cell) ≡ numbers_kept cell
  numbers_seen (numbers shape ns) = refl
  numbers_seen (queues shape capacity qs) = refl

  queues_seen : (cell : KeptCell R) → queues_in (contents_seen see cell) ≡ map (map see) (queues_kept cell)
  queues_seen (numbers shape ns) = refl
  queues_seen (queues shape capacity qs) = refl

  queues_at : (k : Kept R) (c : ℕ) → queues_in (cell_at (state_of see k) c) ≡ map (map see) (queues_kept (kept_at k c))
  queues_at k c = ap queues_in (cell_seen k c) ∙ queues_seen (kept_at k c)

  pub number_seen : (k : Kept R) (c i : ℕ) → number_at (state_of see k) c i ≡ kept_number k c i
  number_seen k c i = ap (λ ns. slice_index ns i) (ap numbers_in (cell_seen k c) ∙ numbers_seen (kept_at k c))

  pub rows_seen : (k : Kept R) (c i : ℕ) → rows_at (state_of see k) c i ≡ map see (kept_rows k c i)
  rows_seen k c i = ap (λ qs. slice_index_or qs i []) (queues_at k c) ∙
      read_map (map see) (queues_kept (kept_at k c)) i []

  pub row_seen : (k : Kept R) (c i j : ℕ) → row_at (state_of see k) c i j ≡ option_map see (kept_row k c i j)
  row_seen k c i j = ap (λ rows. slice_get rows j) (rows_seen k c i) ∙ get_map see (kept_rows k c i) j

  pub room_seen : (k : Kept R) (c i capacity : ℕ) → has_room (state_of see k) c i capacity ≡ keeps_room k c i capacity
  room_seen k c i capacity = ap₂ (λ n m. nat_lt i n && nat_lt m capacity)
      (ap length (queues_at k c) ∙ length-map (queues_kept (kept_at k c)) (map see))
      (ap length (rows_seen k c i) ∙ length-map (kept_rows k c i) see)

  written_seen : (i v : ℕ) (cell : KeptCell R) → contents_seen see (number_set i v cell) ≡
      with_element i v (contents_seen see cell)
  written_seen i v (numbers shape ns) = refl
  written_seen i v (queues shape capacity qs) = refl

  filled_seen : (i : ℕ) (rows : List R) (cell : KeptCell R) → contents_seen see (rows_set i rows cell) ≡
      with_queue i (map see rows) (contents_seen see cell)
  filled_seen i rows (numbers shape ns) = refl
  filled_seen i rows (queues shape capacity qs) = ap state.queues (map-set (map see) qs i rows)

  pub set_seen : (k : Kept R) (c i v : ℕ) → state_of see (with_kept_number k c i v) ≡ with_number (state_of see k) c i v
  set_seen k c i v = ap (λ cells. record (state_of see k) { cells = cells })
      (map-set (contents_seen see) k.cells c (number_set i v (kept_at k c))
      ∙ ap (slice_set (map (contents_seen see) k.cells) c)
      (written_seen i v (kept_at k c) ∙ ap (with_element i v) (sym (cell_seen k c))))

  pub rows_set_seen : (k : Kept R) (c i : ℕ) (rows : List R) → state_of see (with_kept_rows k c i rows) ≡
      with_rows (state_of see k) c i (map see rows)
  rows_set_seen k c i rows = ap (λ cells. record (state_of see k) { cells = cells })
      (map-set (contents_seen see) k.cells c (rows_set i rows (kept_at k c))
      ∙ ap (slice_set (map (contents_seen see) k.cells) c)
      (filled_seen i rows (kept_at k c) ∙ ap (with_queue i (map see rows)) (sym (cell_seen k c))))

  pub last_seen : (k : Kept R) (c i : ℕ) (row : R) → state_of see (with_last k c i row) ≡
      with_row (state_of see k) c i (see row)
  last_seen k c i row = rows_set_seen k c i (kept_rows k c i ++ row ∷ [])
      ∙ ap (with_rows (state_of see k) c i)
      (map_push see (kept_rows k c i) row ∙ ap (λ rows. rows ++ see row ∷ []) (sym (rows_seen k c i)))

  pub front_seen : (k : Kept R) (c i : ℕ) → state_of see (without_first k c i) ≡ without_front (state_of see k) c i
  front_seen k c i = rows_set_seen k c i (drop 1 (kept_rows k c i))
      ∙ ap (with_rows (state_of see k) c i)
      (sym (drop-map see 1 (kept_rows k c i)) ∙ ap (drop 1) (sym (rows_seen k c i)))

  first_seen : (me n ltime : ℕ) (form : tree.Form) → contents_seen see (kept_first me n ltime form) ≡
      fresh_cell (bare_state me n ltime) form
  first_seen me n ltime (tree.numbers shape initial) = refl
  first_seen me n ltime (tree.queue capacity items) = refl
  first_seen me n ltime (tree.queues capacity items) = ap state.queues (map_replicate (map see) n [])

  cells_seen : (me n ltime : ℕ) (cells : List CellTree) →
      map (contents_seen see) (map (λ c. kept_first me n ltime c.form) cells) ≡
      map (λ c. fresh_cell (bare_state me n ltime) c.form) cells
  cells_seen me n ltime [] = refl
  cells_seen me n ltime (c ∷ cells) = ap₂ (λ x xs. x ∷ xs) (first_seen me n ltime c.form) (cells_seen me n ltime cells)

  pub fresh_seen : (layer : LayerTree) (me n ltime most : ℕ) → state_of see (kept_fresh layer me n ltime most) ≡
      fresh layer me n ltime
  fresh_seen layer me n ltime most = ap (λ cells. record (bare_state me n ltime) { cells = cells })
      (cells_seen me n ltime layer.cells)

module _ (R : Type 0) where
  form_first : (me n ltime : ℕ) (form : tree.Form) → kept_form (kept_first {R = R} me n ltime form) ≡ tree_form form
  form_first me n ltime (tree.numbers shape initial) = refl
  form_first me n ltime (tree.queue capacity items) = refl
  form_first me n ltime (tree.queues capacity items) = refl

  forms_first : (me n ltime : ℕ) (cells : List CellTree) →
      map (kept_form {R = R}) (map (λ c. kept_first me n ltime c.form) cells) ≡ map (λ c. tree_form c.form) cells
  forms_first me n ltime [] = refl
  forms_first me n ltime (c ∷ cells) = ap₂ (λ x xs. x ∷ xs) (form_first me n ltime c.form)
      (forms_first me n ltime cells)

  pub fresh_for : (layer : LayerTree) (me n ltime most : ℕ) → IsFor {R = R} layer (kept_fresh layer me n ltime most)
  fresh_for layer me n ltime most = forms_first me n ltime layer.cells

module _ {R : Type 0} where
  form_number : (i v : ℕ) (cell : KeptCell R) → kept_form (number_set i v cell) ≡ kept_form cell
  form_number i v (numbers shape ns) = refl
  form_number i v (queues shape capacity qs) = refl

  form_rows : (i : ℕ) (rows : List R) (cell : KeptCell R) → kept_form (rows_set i rows cell) ≡ kept_form cell
  form_rows i rows (numbers shape ns) = refl
  form_rows i rows (queues shape capacity qs) = refl

  pub number_for : (layer : LayerTree) (k : Kept R) (c i v : ℕ) → IsFor layer k → IsFor layer (with_kept_number k c i v)
  number_for layer k c i v is = set_same kept_form k.cells c nothing_kept _ (form_number i v (kept_at k c)) ∙ is

  pub rows_for : (layer : LayerTree) (k : Kept R) (c i : ℕ) (rows : List R) → IsFor layer k →
      IsFor layer (with_kept_rows k c i rows)
  rows_for layer k c i rows is = set_same kept_form k.cells c nothing_kept _ (form_rows i rows (kept_at k c)) ∙ is

  form_emptied : (cell : KeptCell R) → kept_form cell ≡ kept_form (cell_emptied cell)
  form_emptied (numbers shape ns) = refl
  form_emptied (queues shape capacity qs) = refl

  forms_emptied : (cells : List (KeptCell R)) → map kept_form cells ≡ map kept_form (map cell_emptied cells)
  forms_emptied [] = refl
  forms_emptied (cell ∷ cells) = ap₂ (λ x xs. x ∷ xs) (form_emptied cell) (forms_emptied cells)

  pub emptied_for : (layer : LayerTree) (old new : Kept R) → emptied new ≡ emptied old → IsFor layer old →
      IsFor layer new
  emptied_for layer old new same is =
      forms_emptied new.cells ∙ ap (λ (k : Kept R). map kept_form k.cells) same ∙ sym (forms_emptied old.cells) ∙ is

  told_cell : (cell : KeptCell R) → capacity_of cell ≡ capacity_told (kept_form cell)
  told_cell (numbers shape ns) = refl
  told_cell (queues shape capacity qs) = refl

  told_cells : (cells : List (KeptCell R)) (c : ℕ) →
      capacity_of (slice_index_or cells c nothing_kept) ≡ slice_index (map capacity_told (map kept_form cells)) c
  told_cells [] c = refl
  told_cells (cell ∷ cells) zero = told_cell cell
  told_cells (cell ∷ cells) (suc c) = told_cells cells c

  pub capacity_for : (layer : LayerTree) (k : Kept R) (c : ℕ) → IsFor layer k →
      kept_capacity k c ≡ slice_index (map (λ c. capacity_in c.form) layer.cells) c
  capacity_for layer k c is = told_cells k.cells c
      ∙ ap (λ forms. slice_index (map capacity_told forms) c) is ∙
      ap (λ capacities. slice_index capacities c) (told_trees layer.cells)

-- What is kept, as one of its cells changes.
use Rattle.std.proofs.Common.{◌≡◌, ℕ, ◌≤◌, ◌<◌, true, ◌&&◌, nat_lt, List, [], map, length, take, drop, slice_get}
use Rattle.std.proofs.Common.{slice_index_or, slice_set, Option, Some, None, refl, sym, ap, ◌∙◌, subst, arith}
use Rattle.std.specs.List.{sum_by}
use Rattle.cell_store.specs.declared.slot.Frame.{Frame}
use Rattle.cell_store.specs.declared.slot.Frame.TheVariants.{Numbers, Queues}
use Rattle.cell_store.specs.declared.slot.StoredCell.{StoredCell}
use Rattle.cell_store.specs.Kept.{KeptCell, Kept, nothing_kept, queues_kept, capacity_of, kept_at, kept_rows}
use Rattle.cell_store.specs.Kept.{kept_capacity, keeps_room, rows_set, with_kept, with_kept_rows}
use Rattle.cell_store.specs.Frames.{numbers_for}
use Rattle.cell_store.specs.Rings.{CellQueues}
use Rattle.cell_store.specs.Slots.{framed, slot_kept, FitsFrame, AreLaid, AreSlots}
use Rattle.cell_store.proofs.Laid.{lies, map_some, queues_read, nothing_read, within_some, no_room, with_rows}
use Rattle.cell_store.proofs.Laid.{rows_written, laid_written, frames_written}

module _ {R : Type 0} where
  -- the view of a state
  abbrev pub whole : ℕ → ℕ → ℕ → ℕ → List (KeptCell R) → Kept R
  whole me n ltime most cells = record { me = me; count = n; ltime = ltime; most = most; cells = cells }

  -- a cell that becomes what a function makes of it
  pub changed : (me n ltime most c : ℕ) (f : KeptCell R → KeptCell R) (cells news : List (KeptCell R)) (p : Kept R) →
      whole me n ltime most cells ≡ p → news ≡ slice_set cells c (f (slice_index_or cells c nothing_kept)) →
      whole me n ltime most news ≡ with_kept p c (f (kept_at p c))
  changed me n ltime most c f cells news p view is =
      ap (whole me n ltime most) is ∙ ap (λ (p : Kept R). with_kept p c (f (kept_at p c))) view

  -- nothing changes
  pub unchanged : (me n ltime most c : ℕ) (f : KeptCell R → KeptCell R) (cells : List (KeptCell R)) (p : Kept R) →
      whole me n ltime most cells ≡ p → cells ≡ slice_set cells c (f (slice_index_or cells c nothing_kept)) →
      p ≡ with_kept p c (f (kept_at p c))
  unchanged me n ltime most c f cells p view is = sym view ∙ changed me n ltime most c f cells cells p view is

  -- rows of a queue
  pub queue_read : (most end : ℕ) (block : List ℕ) (slots : List (StoredCell R)) (p : Kept R) (me n ltime most' c i : ℕ)
      (s : StoredCell R) →
      whole me n ltime most' (map (slot_kept block) slots) ≡ p → AreLaid most 0 end slots → slice_get slots c ≡ Some s →
      slice_index_or s.rings.rows i [] ≡ kept_rows p c i
  queue_read most end block slots p me n ltime most' c i s view laid is =
      ap (λ qs. slice_index_or qs i [])
      (queues_read most end block slots p.cells c s (ap (λ (k : Kept R). k.cells) view) laid is)

  pub queue_changed : (block : List ℕ) (slots : List (StoredCell R)) (p : Kept R) (me n ltime most' c i : ℕ)
      (s : StoredCell R)
      (rings : CellQueues R) (rows rows' : List R) → whole me n ltime most' (map (slot_kept block) slots) ≡ p →
      slice_get slots c ≡ Some s → rings ≡ record s.rings { rows = slice_set s.rings.rows i rows } → rows ≡ rows' →
      whole me n ltime most' (map (slot_kept block) (slice_set slots c (record s { rings = rings }))) ≡
      with_kept_rows p c i rows'
  queue_changed block slots p me n ltime most' c i s rings rows rows' view is new same =
      changed me n ltime most' c (rows_set i rows') (map (slot_kept block) slots) _ p view
      (ap (λ r. map (slot_kept block) (slice_set slots c (record s { rings = r }))) new
      ∙ ap (λ rows. map (slot_kept block) (slice_set slots c (with_rows i rows s))) same
      ∙ rows_written block slots c i rows' s is)

  pub still_slots : (n most capacity : ℕ) (block : List ℕ) (slots : List (StoredCell R)) (c i : ℕ) (s : StoredCell R)
      (rings : CellQueues R)
      (rows : List R) → AreSlots n most capacity block slots → slice_get slots c ≡ Some s →
      rings ≡ record s.rings { rows = slice_set s.rings.rows i rows } →
      AreSlots n most capacity block (slice_set slots c (record s { rings = rings }))
  still_slots n most capacity block slots c i s rings rows are is new =
      subst (λ r. AreSlots n most capacity block (slice_set slots c (record s { rings = r }))) (sym new) record {
        few = are.few;
        most_few = are.most_few;
        laid = laid_written most 0 (length block) slots c i rows s are.laid is;
        room = subst (λ frames. sum_by (numbers_for most) frames ≤ capacity) (sym (frames_written slots c i rows s is))
            are.room;
      }

  -- a queue with room is there
  pub room_there : (block : List ℕ) (slots : List (StoredCell R)) (p : Kept R) (me n ltime most' c i : ℕ) →
      whole me n ltime most' (map (slot_kept block) slots) ≡ p → keeps_room p c i (kept_capacity p c) ≡ true →
      c < length slots
  room_there block slots p me n ltime most' c i view room = go (slice_get slots c) refl
    where
      go : (o : Option (StoredCell R)) → slice_get slots c ≡ o → c < length slots
      go None is =
          let none = nothing_read block slots p.cells c (ap (λ (k : Kept R). k.cells) view) is in
          let room_none = ap (λ (cell : KeptCell R). nat_lt i (length (queues_kept cell))
          && nat_lt (length (slice_index_or (queues_kept cell) i [])) (capacity_of cell)) none ∙ room in
          absurd (cc (no_room i (nat_lt 0 0), room_none))
      go (Some s) is = within_some slots c s is

  row_framed : (most count i j : ℕ) (row : R) (frame : Frame) (ns : List ℕ) (qs : CellQueues R) →
      FitsFrame most frame count qs →
      slice_get (slice_index_or qs.rows i []) j ≡ Some row → capacity_of (framed frame ns qs) ≡ qs.capacity
  row_framed most count i j row (Numbers shape) ns qs fits is =
      absurd (cc (ap (λ (rows : List (List R)). slice_get (slice_index_or rows i []) j) fits.1, is))
  row_framed most count i j row (Queues shape) ns qs fits is = refl

  -- a queue that has a row has no more than its capacity
  pub row_within : (most end : ℕ) (block : List ℕ) (slots : List (StoredCell R)) (p : Kept R)
      (me n ltime most' c i j : ℕ)
      (s : StoredCell R) (row : R) →
      whole me n ltime most' (map (slot_kept block) slots) ≡ p → AreLaid most 0 end slots → slice_get slots c ≡ Some s →
      length (slice_index_or s.rings.rows i []) ≤ s.rings.capacity → slice_get (kept_rows p c i) j ≡ Some row →
      length (kept_rows p c i) ≤ kept_capacity p c
  row_within most end block slots p me n ltime most' c i j s row view laid is within has =
      let rows = queue_read most end block slots p me n ltime most' c i s view laid is in
      let cell : kept_at p c ≡ slot_kept block s = ap (λ (k : Kept R). kept_at k c) (sym view) ∙
      map_some (slot_kept block) slots c s nothing_kept is in
      let same = row_framed most s.count i j row s.frame (take s.count (drop s.at block)) s.rings
      (lies most 0 end slots c s laid is).fits
      (ap (λ q. slice_get q j) rows ∙ has) in
      omega (arith, ap length rows, within, ap capacity_of cell, same)

-- All rows of what is kept.
use Rattle.std.proofs.Common.{◌≡◌, ℕ, zero, suc, ◌+◌, ◌<◌, List, [], ◌∷◌, ◌++◌, map, length, take, drop, slice_get}
use Rattle.std.proofs.Common.{slice_index_or, slice_set, Option, Some, None, option_to_list, IfNone, refl, sym, ap, ap₂}
use Rattle.std.proofs.Common.{◌∙◌, subst, arith}
use Rattle.std.proofs.lemmas.List.{append_assoc, append-nil, map-set, set-get_or}
use Rattle.std.proofs.lemmas.Grind.{flat_map-append}
use Rattle.std.specs.List.{flat_map}
use Rattle.cell_store.specs.declared.slot.StoredCell.{StoredCell}
use Rattle.cell_store.specs.Kept.{KeptCell, numbers, queues, Kept, nothing_kept, queues_kept, kept_at, rows_of, rows_in}
use Rattle.cell_store.specs.Kept.{rows_set, cell_emptied, emptied, with_kept_rows}
use Rattle.cell_store.specs.Rings.{CellQueues}
use Rattle.cell_store.specs.Slots.{slot_kept, AreLaid, slot_rows, HasFirst, HasFirstIn}
use Rattle.cell_store.proofs.Empty.{none_of_append}
use Rattle.cell_store.proofs.Laid.{queues_framed, within_some, with_rows}
use Rattle.cell_store.proofs.Changed.{whole}

module _ {R : Type 0} where
  rows_lie : (most at end : ℕ) (block : List ℕ) (slots : List (StoredCell R)) → AreLaid most at end slots →
      flat_map (λ cell. rows_of (queues_kept cell)) (map (slot_kept block) slots) ≡ slot_rows slots
  rows_lie most at end block [] laid = refl
  rows_lie most at end block (s ∷ rest) laid = ap₂ (λ xs ys. xs ++ ys)
      (ap rows_of (queues_framed most s.count s.frame (take s.count (drop s.at block)) s.rings laid.1.0))
      (rows_lie most (s.at + s.count) end block rest laid.1.1)

  -- the rows that are kept are those of the cells
  pub rows_kept : (most end : ℕ) (block : List ℕ) (slots : List (StoredCell R)) (p : Kept R) (me n ltime most' : ℕ) →
      whole me n ltime most' (map (slot_kept block) slots) ≡ p → AreLaid most 0 end slots → rows_in p ≡ slot_rows slots
  rows_kept most end block slots p me n ltime most' view laid = ap rows_in (sym view) ∙
      rows_lie most 0 end block slots laid

  -- cells without rows, from the last
  pub slots_popped : (olds news : List (StoredCell R)) (s : StoredCell R) → olds ≡ news ++ s ∷ [] →
      slot_rows olds ≡ [] →
      (slot_rows news ≡ []) × (rows_of s.rings.rows ≡ [])
  slots_popped olds news s split none =
      let parts = none_of_append (slot_rows news) (slot_rows (s ∷ []))
      (sym (flat_map-append (λ (s : StoredCell R). rows_of s.rings.rows) news (s ∷ [])) ∙ ap slot_rows (sym split) ∙
      none) in
      (parts.0, sym (append-nil (rows_of s.rings.rows)) ∙ parts.1)

  -- a cell of cells without rows
  pub none_at : (slots : List (StoredCell R)) (c : ℕ) (s : StoredCell R) → slot_rows slots ≡ [] →
      slice_get slots c ≡ Some s →
      rows_of s.rings.rows ≡ []
  none_at [] c s none is = absurd (cc is)
  none_at (t ∷ rest) zero s none is =
      let same : t ≡ s = cc is in
      subst (λ (s : StoredCell R). rows_of s.rings.rows ≡ []) same
      (none_of_append (rows_of t.rings.rows) (slot_rows rest) none).0
  none_at (t ∷ rest) (suc c) s none is =
      none_at rest c s (none_of_append (rows_of t.rings.rows) (slot_rows rest) none).1 is

  -- the front row of the first queue that has one is the first of all rows
  first_of_queues : (qs : List (List R)) (i : ℕ) → rows_of (take i qs) ≡ [] →
      rows_of qs ≡ option_to_list (slice_get (slice_index_or qs i []) 0) ++
      rows_of (slice_set qs i (drop 1 (slice_index_or qs i [])))
  first_of_queues [] i none = refl
  first_of_queues ([] ∷ qs) zero none = refl
  first_of_queues ((row ∷ q) ∷ qs) zero none = refl
  first_of_queues (q ∷ qs) (suc i) none =
      let parts = none_of_append q (rows_of (take i qs)) none in
      ap (λ xs. xs ++ rows_of qs) parts.0 ∙ first_of_queues qs i parts.1
      ∙ ap (λ xs. option_to_list (slice_get (slice_index_or qs i []) 0) ++
      (xs ++ rows_of (slice_set qs i (drop 1 (slice_index_or qs i []))))) (sym parts.0)

  pub first_of_slots : (slots : List (StoredCell R)) (c i : ℕ) (s : StoredCell R) → slice_get slots c ≡ Some s →
      HasFirst slots c i →
      slot_rows slots ≡ option_to_list (slice_get (slice_index_or s.rings.rows i []) 0)
      ++ slot_rows (slice_set slots c (with_rows i (drop 1 (slice_index_or s.rings.rows i [])) s))
  first_of_slots [] c i s is first = absurd (cc is)
  first_of_slots (t ∷ rest) zero i s is first =
      let same : t ≡ s = cc is in
      subst (λ (s : StoredCell R). slot_rows (t ∷ rest) ≡
      option_to_list (slice_get (slice_index_or s.rings.rows i []) 0)
      ++ slot_rows (with_rows i (drop 1 (slice_index_or s.rings.rows i [])) s ∷ rest)) same
      (ap (λ xs. xs ++ slot_rows rest) (first_of_queues t.rings.rows i first.1.1)
      ∙ append_assoc (option_to_list (slice_get (slice_index_or t.rings.rows i []) 0)) _ (slot_rows rest))
  first_of_slots (t ∷ rest) (suc c) i s is first =
      let parts = none_of_append (rows_of t.rings.rows) (slot_rows (take c rest)) first.0 in
      let more = with_rows i (drop 1 (slice_index_or s.rings.rows i [])) s in
      ap (λ xs. xs ++ slot_rows rest) parts.0 ∙ first_of_slots rest c i s is (parts.1, first.1)
      ∙ ap (λ xs. option_to_list (slice_get (slice_index_or s.rings.rows i []) 0) ++
      (xs ++ slot_rows (slice_set rest c (with_rows i (drop 1 (slice_index_or s.rings.rows i [])) s))))
      (sym parts.0)

  pub first_there : (xs ys : List (StoredCell R)) (c i : ℕ) → xs ≡ ys → HasFirst xs c i →
      (c < length ys) × HasFirst ys c i
  first_there xs ys c i same first = (go (slice_get ys c) refl, subst (λ zs. HasFirst zs c i) same first)
    where
      here : HasFirstIn i (slice_get ys c)
      here = (subst (λ zs. HasFirst zs c i) same first).1

      go : (o : Option (StoredCell R)) → slice_get ys c ≡ o → c < length ys
      go None is = absurd (subst (HasFirstIn i) is here)
      go (Some s) is = within_some ys c s is

  -- and there is such a row
  pub there_is_first : (slots : List (StoredCell R)) (c i : ℕ) (s : StoredCell R) (result : Option R) (none : Type 0) →
      slice_get slots c ≡ Some s →
      HasFirst slots c i → result ≡ slice_get (slice_index_or s.rings.rows i []) 0 → IfNone result none
  there_is_first slots c i s result none is first read =
      go (slice_index_or s.rings.rows i []) (subst (HasFirstIn i) is first.1).0 result read
    where
      go : (q : List R) → 0 < length q → (result : Option R) → result ≡ slice_get q 0 → IfNone result none
      go [] more result read = absurd (omega (arith, more))
      go (row ∷ q) more None read = absurd (cc read)
      go (row ∷ q) more (Some x) read = tt

  -- it is the first of all rows that are kept
  pub taken_first : (most end : ℕ) (block : List ℕ) (slots : List (StoredCell R)) (p : Kept R)
      (me n ltime most' c i : ℕ)
      (s : StoredCell R)
      (result : Option R) (rings : CellQueues R) (rest : Kept R) →
      whole me n ltime most' (map (slot_kept block) slots) ≡ p →
      AreLaid most 0 end slots → AreLaid most 0 end (slice_set slots c (record s { rings = rings })) →
      slice_get slots c ≡ Some s →
      HasFirst slots c i → result ≡ slice_get (slice_index_or s.rings.rows i []) 0 →
      rings ≡ record s.rings { rows = slice_set s.rings.rows i (drop 1 (slice_index_or s.rings.rows i [])) } →
      rest ≡ whole me n ltime most' (map (slot_kept block) (slice_set slots c (record s { rings = rings }))) →
      rows_in p ≡ option_to_list result ++ rows_in rest
  taken_first most end block slots p me n ltime most' c i s result rings rest view laid still is first read new left =
      rows_kept most end block slots p me n ltime most' view laid ∙ first_of_slots slots c i s is first
      ∙ ap₂ (λ (o : Option R) xs. option_to_list o ++ xs) (sym read)
      (ap (λ r. slot_rows (slice_set slots c (record s { rings = r }))) (sym new)
      ∙ sym (rows_kept most end block _ rest me n ltime most' (sym left) still))

  -- rows that change leave the rest
  nothing_left : (qs : List (List R)) (i : ℕ) (rows : List R) → map {B = List R} (λ q. []) (slice_set qs i rows) ≡
      map (λ q. []) qs
  nothing_left [] i rows = refl
  nothing_left (q ∷ qs) zero rows = refl
  nothing_left (q ∷ qs) (suc i) rows = ap (λ xs. [] ∷ xs) (nothing_left qs i rows)

  cell_left : (i : ℕ) (rows : List R) (cell : KeptCell R) → cell_emptied (rows_set i rows cell) ≡ cell_emptied cell
  cell_left i rows (numbers shape ns) = refl
  cell_left i rows (queues shape capacity qs) = ap (queues shape capacity) (nothing_left qs i rows)

  pub emptied_rows : (p : Kept R) (c i : ℕ) (rows : List R) → emptied (with_kept_rows p c i rows) ≡ emptied p
  emptied_rows p c i rows =
      ap (λ cells. record p { cells = cells }) (map-set cell_emptied p.cells c (rows_set i rows (kept_at p c))
      ∙ ap (slice_set (map cell_emptied p.cells) c) (cell_left i rows (kept_at p c))
      ∙ sym (map-set cell_emptied p.cells c (kept_at p c)) ∙ ap (map cell_emptied) (set-get_or p.cells c nothing_kept))

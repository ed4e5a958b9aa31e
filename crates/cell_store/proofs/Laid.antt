-- Cells that lie one after the other: what is read and written of one.
use Rattle.std.proofs.lemmas.Bool.{le-ltb}
use Rattle.std.proofs.Common.{◌≡◌, Bool, false, ◌&&◌, nat_lt, ℕ, zero, suc, ◌+◌, ◌-◌, ◌≤◌, ◌<◌, List, [], ◌∷◌, map}
use Rattle.std.proofs.Common.{length, take, drop, slice_get, slice_index, slice_index_or, slice_set, Option, Some, None}
use Rattle.std.proofs.Common.{refl, sym, ap, ap₂, ◌∙◌, subst, arith}
use Rattle.std.proofs.lemmas.List.{map-set, length-map, length-take, drop-set-lt, drop-set-add, take-set-le, get_or-map}
use Rattle.std.proofs.lemmas.List.{get_or-take, get_or-drop, get_or_past, set_past, set-get_or}
use Rattle.cell_store.specs.declared.slot.Frame.{Frame}
use Rattle.cell_store.specs.declared.slot.Frame.TheVariants.{Numbers, Queues}
use Rattle.cell_store.specs.declared.slot.StoredCell.{StoredCell}
use Rattle.cell_store.specs.Kept.{KeptCell, numbers, nothing_kept, numbers_kept, queues_kept, number_set, rows_set}
use Rattle.cell_store.specs.Rings.{CellQueues}
use Rattle.cell_store.specs.Slots.{framed, slot_kept, FitsFrame, AreLaid, frames_of}
use Rattle.cell_store.proofs.Written.{take_written}

-- there is no queue before the first
pub no_room : (i : ℕ) (more : Bool) → false ≡ nat_lt i 0 && more
no_room i more = ap (λ b. b && more) (sym (le-ltb i 0 (omega arith)))

module _ {A : Type 0} where
  pub got : (xs : List A) (i : ℕ) (x : A) → i < length xs → x ≡ slice_index_or xs i x → slice_get xs i ≡ Some x
  got [] i x within read = absurd (omega (arith, within))
  got (y ∷ xs) zero x within read = ap Some (sym read)
  got (y ∷ xs) (suc i) x within read = got xs i x (omega (arith, within)) read

  -- what was looked up in an equal list
  pub looked : (xs ys : List A) (i : ℕ) (found : Option A) → xs ≡ ys → found ≡ slice_get xs i → slice_get ys i ≡ found
  looked xs ys i found same is = ap (λ zs. slice_get zs i) (sym same) ∙ sym is

  pub at_some : (xs : List A) (i : ℕ) (x d : A) → slice_get xs i ≡ Some x → slice_index_or xs i d ≡ x
  at_some [] i x d is = absurd (cc is)
  at_some (y ∷ xs) zero x d is = cc is
  at_some (y ∷ xs) (suc i) x d is = at_some xs i x d is

  pub within_some : (xs : List A) (i : ℕ) (x : A) → slice_get xs i ≡ Some x → i < length xs
  within_some [] i x is = absurd (cc is)
  within_some (y ∷ xs) zero x is = omega arith
  within_some (y ∷ xs) (suc i) x is = let rest = within_some xs i x is in omega (arith, rest)

  pub past_none : (xs : List A) (i : ℕ) → slice_get xs i ≡ None → length xs ≤ i
  past_none [] i is = omega arith
  past_none (y ∷ xs) zero is = absurd (cc is)
  past_none (y ∷ xs) (suc i) is = let rest = past_none xs i is in omega (arith, rest)

  pub map_some : {B : Type 0} (f : A → B) (xs : List A) (i : ℕ) (x : A) (d : B) → slice_get xs i ≡ Some x →
      slice_index_or (map f xs) i d ≡ f x
  map_some f xs i x d is = get_or-map f xs i x d (within_some xs i x is) ∙ ap f (at_some xs i x x is)

part_untouched : (at count : ℕ) (block : List ℕ) (j v : ℕ) → at + count ≤ j →
    take count (drop at (slice_set block j v)) ≡ take count (drop at block)
part_untouched at count block j v past =
    let place : j ≡ at + (j - at) = omega (arith, past) in
    ap (λ k. take count (drop at (slice_set block k v))) place ∙ ap (take count) (drop-set-add at block (j - at) v)
    ∙ take-set-le count (drop at block) (j - at) v (omega (arith, past))

module _ {R : Type 0} where
  pub laid_within : (most at end : ℕ) (slots : List (StoredCell R)) → AreLaid most at end slots → at ≤ end
  laid_within most at end [] laid = laid
  laid_within most at end (s ∷ rest) laid =
      let following = laid_within most (s.at + s.count) end rest laid.1.1 in omega (arith, following, laid.0)

  -- a cell of them
  pub record Lies (most at end : ℕ) (s : StoredCell R) : Type 0 where
    pub following : at ≤ s.at
    pub fits : FitsFrame most s.frame s.count s.rings
    pub before : s.at + s.count ≤ end

  pub lies : (most at end : ℕ) (slots : List (StoredCell R)) (c : ℕ) (s : StoredCell R) → AreLaid most at end slots →
      slice_get slots c ≡ Some s →
      Lies most at end s
  lies most at end [] c s laid is = absurd (cc is)
  lies most at end (t ∷ rest) zero s laid is = subst (Lies most at end) (cc is)
      record { following = laid.0; fits = laid.1.0; before = laid_within most (t.at + t.count) end rest laid.1.1 }
  lies most at end (t ∷ rest) (suc c) s laid is =
      let next = lies most (t.at + t.count) end rest c s laid.1.1 is in
      record { following = omega (arith, next.following, laid.0); fits = next.fits; before = next.before }

  -- reading
  numbers_framed : (most count : ℕ) (frame : Frame) (ns : List ℕ) (qs : CellQueues R) → FitsFrame most frame count qs →
      numbers_kept (framed frame (take count ns) qs) ≡ take count ns
  numbers_framed most count (Numbers shape) ns qs fits = refl
  numbers_framed most count (Queues shape) ns qs fits = ap (λ n. take n ns) (sym fits.0)

  pub queues_framed : (most count : ℕ) (frame : Frame) (ns : List ℕ) (qs : CellQueues R) →
      FitsFrame most frame count qs →
      queues_kept (framed frame ns qs) ≡ qs.rows
  queues_framed most count (Numbers shape) ns qs fits = sym fits.1
  queues_framed most count (Queues shape) ns qs fits = refl

  -- the numbers of a cell
  pub numbers_lie : (most end : ℕ) (block : List ℕ) (slots : List (StoredCell R)) (c : ℕ) (s : StoredCell R) →
      AreLaid most 0 end slots →
      slice_get slots c ≡ Some s →
      numbers_kept (slice_index_or (map (slot_kept block) slots) c nothing_kept) ≡ take s.count (drop s.at block)
  numbers_lie most end block slots c s laid is =
      ap numbers_kept (map_some (slot_kept block) slots c s nothing_kept is)
      ∙ numbers_framed most s.count s.frame (drop s.at block) s.rings (lies most 0 end slots c s laid is).fits

  pub number_read : (most end : ℕ) (block : List ℕ) (slots : List (StoredCell R)) (cells : List (KeptCell R)) (c i : ℕ)
      (s : StoredCell R) →
      map (slot_kept block) slots ≡ cells → AreLaid most 0 end slots → slice_get slots c ≡ Some s → i < s.count →
      slice_index block (s.at + i) ≡ slice_index (numbers_kept (slice_index_or cells c nothing_kept)) i
  number_read most end block slots cells c i s view laid is below =
      sym (get_or-drop s.at block i 0) ∙ sym (get_or-take s.count (drop s.at block) i 0 below)
      ∙ ap (λ ns. slice_index ns i) (sym (numbers_lie most end block slots c s laid is))
      ∙ ap (λ cells. slice_index (numbers_kept (slice_index_or cells c nothing_kept)) i) view

  pub number_outside : (most end : ℕ) (block : List ℕ) (slots : List (StoredCell R)) (cells : List (KeptCell R))
      (c i : ℕ)
      (s : StoredCell R) →
      map (slot_kept block) slots ≡ cells → AreLaid most 0 end slots → slice_get slots c ≡ Some s → s.count ≤ i →
      0 ≡ slice_index (numbers_kept (slice_index_or cells c nothing_kept)) i
  number_outside most end block slots cells c i s view laid is past =
      let ns = take s.count (drop s.at block) in
      sym (get_or_past ns i 0 (omega (arith, length-take s.count (drop s.at block), past)))
      ∙ ap (λ ns. slice_index ns i) (sym (numbers_lie most end block slots c s laid is))
      ∙ ap (λ cells. slice_index (numbers_kept (slice_index_or cells c nothing_kept)) i) view

  pub queues_read : (most end : ℕ) (block : List ℕ) (slots : List (StoredCell R)) (cells : List (KeptCell R)) (c : ℕ)
      (s : StoredCell R) →
      map (slot_kept block) slots ≡ cells → AreLaid most 0 end slots → slice_get slots c ≡ Some s →
      s.rings.rows ≡ queues_kept (slice_index_or cells c nothing_kept)
  queues_read most end block slots cells c s view laid is =
      sym (queues_framed most s.count s.frame (take s.count (drop s.at block)) s.rings
      (lies most 0 end slots c s laid is).fits)
      ∙ ap queues_kept (sym (map_some (slot_kept block) slots c s nothing_kept is))
      ∙ ap (λ cells. queues_kept (slice_index_or cells c nothing_kept)) view

  -- where there is no cell
  pub nothing_read : (block : List ℕ) (slots : List (StoredCell R)) (cells : List (KeptCell R)) (c : ℕ) →
      map (slot_kept block) slots ≡ cells →
      slice_get slots c ≡ None → nothing_kept ≡ slice_index_or cells c nothing_kept
  nothing_read block slots cells c view is =
      sym (get_or_past (map (slot_kept block) slots) c nothing_kept
      (omega (arith, past_none slots c is, length-map slots (slot_kept block))))
      ∙ ap (λ cells. slice_index_or cells c nothing_kept) view

  -- writing a number
  untouched : (most at end : ℕ) (block : List ℕ) (slots : List (StoredCell R)) (j v : ℕ) → AreLaid most at end slots →
      j < at →
      map (slot_kept (slice_set block j v)) slots ≡ map (slot_kept block) slots
  untouched most at end block [] j v laid front = refl
  untouched most at end block (s ∷ rest) j v laid front = ap₂ (λ x xs. x ∷ xs)
      (ap (λ ns. framed s.frame (take s.count ns) s.rings) (drop-set-lt s.at block j v (omega (arith, front, laid.0))))
      (untouched most (s.at + s.count) end block rest j v laid.1.1 (omega (arith, front, laid.0)))

  number_framed : (most i v : ℕ) (block : List ℕ) (s : StoredCell R) → FitsFrame most s.frame s.count s.rings →
      i < s.count →
      slot_kept (slice_set block (s.at + i) v) s ≡ number_set i v (slot_kept block s)
  number_framed most i v block s fits below = go s.frame s.rings fits
    where
      part : take s.count (drop s.at (slice_set block (s.at + i) v)) ≡ slice_set (take s.count (drop s.at block)) i v
      part = ap (take s.count) (drop-set-add s.at block i v) ∙ take_written s.count (drop s.at block) i v

      go : (frame : Frame) (qs : CellQueues R) → FitsFrame most frame s.count qs →
          framed frame (take s.count (drop s.at (slice_set block (s.at + i) v))) qs
          ≡ number_set i v (framed frame (take s.count (drop s.at block)) qs)
      go (Numbers shape) qs fits = ap (numbers shape) part
      go (Queues shape) qs fits = absurd (omega (arith, fits.0, below))

  pub number_written : (most at end : ℕ) (block : List ℕ) (slots : List (StoredCell R)) (c i v : ℕ) (s : StoredCell R) →
      AreLaid most at end slots →
      slice_get slots c ≡ Some s → i < s.count →
      map (slot_kept (slice_set block (s.at + i) v)) slots
      ≡ slice_set (map (slot_kept block) slots) c
      (number_set i v (slice_index_or (map (slot_kept block) slots) c nothing_kept))
  number_written most at end block [] c i v s laid is below = absurd (cc is)
  number_written most at end block (t ∷ rest) zero i v s laid is below =
      let same : t ≡ s = cc is in
      subst (λ s. map (slot_kept (slice_set block (s.at + i) v)) (t ∷ rest) ≡ number_set i v (slot_kept block t) ∷
      map (slot_kept block) rest) same
      (ap₂ (λ x xs. x ∷ xs)
      (number_framed most i v block t laid.1.0 (subst (λ (s : StoredCell R). i < s.count) (sym same) below))
      (untouched most (t.at + t.count) end block rest (t.at + i) v laid.1.1
      (omega (arith, subst (λ (s : StoredCell R). i < s.count) (sym same) below))))
  number_written most at end block (t ∷ rest) (suc c) i v s laid is below =
      let next = lies most (t.at + t.count) end rest c s laid.1.1 is in
      ap₂ (λ x xs. x ∷ xs)
      (ap (λ ns. framed t.frame ns t.rings)
      (part_untouched t.at t.count block (s.at + i) v (omega (arith, next.following))))
      (number_written most (t.at + t.count) end block rest c i v s laid.1.1 is below)

  number_set_past : (most i v : ℕ) (block : List ℕ) (s : StoredCell R) → FitsFrame most s.frame s.count s.rings →
      s.count ≤ i →
      number_set i v (slot_kept block s) ≡ slot_kept block s
  number_set_past most i v block s fits past = go s.frame
    where
      ns : List ℕ
      ns = take s.count (drop s.at block)

      go : (frame : Frame) → number_set i v (framed frame (take s.count (drop s.at block)) s.rings) ≡
          framed frame (take s.count (drop s.at block)) s.rings
      go (Numbers shape) = ap (numbers shape)
          (set_past (take s.count (drop s.at block)) i v (omega (arith, length-take s.count (drop s.at block), past)))
      go (Queues shape) = refl

  -- outside of a cell nothing is written
  pub number_past : (most end : ℕ) (block : List ℕ) (slots : List (StoredCell R)) (c i v : ℕ) (s : StoredCell R) →
      AreLaid most 0 end slots →
      slice_get slots c ≡ Some s → s.count ≤ i →
      map (slot_kept block) slots
      ≡ slice_set (map (slot_kept block) slots) c
      (number_set i v (slice_index_or (map (slot_kept block) slots) c nothing_kept))
  number_past most end block slots c i v s laid is past =
      let read = map_some (slot_kept block) slots c s nothing_kept is in
      sym (set-get_or (map (slot_kept block) slots) c nothing_kept)
      ∙ ap (slice_set (map (slot_kept block) slots) c)
      (read ∙ sym (number_set_past most i v block s (lies most 0 end slots c s laid is).fits past) ∙
      ap (number_set i v) (sym read))

  -- where there is no cell nothing is written
  pub cell_past : (block : List ℕ) (slots : List (StoredCell R)) (c : ℕ) (cell : KeptCell R) → length slots ≤ c →
      map (slot_kept block) slots ≡ slice_set (map (slot_kept block) slots) c cell
  cell_past block slots c cell past =
      sym (set_past (map (slot_kept block) slots) c cell (omega (arith, length-map slots (slot_kept block), past)))

  -- writing rows
  abbrev pub with_rows : ℕ → List R → StoredCell R → StoredCell R
  with_rows i rows s = record s { rings = record s.rings { rows = slice_set s.rings.rows i rows } }

  rows_framed : (i : ℕ) (rows : List R) (frame : Frame) (ns : List ℕ) (qs : CellQueues R) →
      framed frame ns (record qs { rows = slice_set qs.rows i rows }) ≡ rows_set i rows (framed frame ns qs)
  rows_framed i rows (Numbers shape) ns qs = refl
  rows_framed i rows (Queues shape) ns qs = refl

  pub rows_written : (block : List ℕ) (slots : List (StoredCell R)) (c i : ℕ) (rows : List R) (s : StoredCell R) →
      slice_get slots c ≡ Some s →
      map (slot_kept block) (slice_set slots c (with_rows i rows s))
      ≡ slice_set (map (slot_kept block) slots) c
      (rows_set i rows (slice_index_or (map (slot_kept block) slots) c nothing_kept))
  rows_written block slots c i rows s is =
      map-set (slot_kept block) slots c (with_rows i rows s)
      ∙ ap (slice_set (map (slot_kept block) slots) c)
      (rows_framed i rows s.frame (take s.count (drop s.at block)) s.rings
      ∙ ap (rows_set i rows) (sym (map_some (slot_kept block) slots c s nothing_kept is)))

  fits_written : (most i : ℕ) (rows : List R) (frame : Frame) (count : ℕ) (qs : CellQueues R) →
      FitsFrame most frame count qs →
      FitsFrame most frame count (record qs { rows = slice_set qs.rows i rows })
  fits_written most i rows (Numbers shape) count qs fits = (fits.0, ap (λ q. slice_set q i rows) fits.1)
  fits_written most i rows (Queues shape) count qs fits = fits

  pub laid_written : (most at end : ℕ) (slots : List (StoredCell R)) (c i : ℕ) (rows : List R) (s : StoredCell R) →
      AreLaid most at end slots →
      slice_get slots c ≡ Some s → AreLaid most at end (slice_set slots c (with_rows i rows s))
  laid_written most at end [] c i rows s laid is = laid
  laid_written most at end (t ∷ rest) zero i rows s laid is =
      let same : t ≡ s = cc is in
      subst (λ s. AreLaid most at end (with_rows i rows s ∷ rest)) same
      (laid.0, (fits_written most i rows t.frame t.count t.rings laid.1.0, laid.1.1))
  laid_written most at end (t ∷ rest) (suc c) i rows s laid is =
      (laid.0, (laid.1.0, laid_written most (t.at + t.count) end rest c i rows s laid.1.1 is))

  pub frames_written : (slots : List (StoredCell R)) (c i : ℕ) (rows : List R) (s : StoredCell R) →
      slice_get slots c ≡ Some s →
      frames_of (slice_set slots c (with_rows i rows s)) ≡ frames_of slots
  frames_written slots c i rows s is =
      map-set (λ s. s.frame) slots c (with_rows i rows s)
      ∙ ap (slice_set (frames_of slots) c) (sym (map_some (λ (s : StoredCell R). s.frame) slots c s s.frame is))
      ∙ set-get_or (frames_of slots) c s.frame

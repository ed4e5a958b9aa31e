-- What writes change of the states of places.
use Rattle.std.proofs.Common.{◌≡◌, ℕ, ◌<◌, ◌==◌, nat_lt, Bool, true, false, ◌&&◌, if◌then◌else◌, List, [], length}
use Rattle.std.proofs.Common.{slice_index, slice_index_or, slice_set, refl, sym, ap, ap₂, ◌∙◌, subst, arith}
use Rattle.std.proofs.lemmas.Bool.{eqb-true, eqb-false, ltb-true, ltb-false, lt-ltb, le-ltb, and_parts}
use Rattle.std.proofs.lemmas.List.{length-set, get_or-set_same, get_or-set_other, get_or_past, set_past}
use Rattle.layer_mean.specs.declared.run.Row.{Row}
use Rattle.layer_mean.specs.State.{State, Contents, numbers, queues, no_cell, numbers_in, queues_in, cell_at, number_at}
use Rattle.layer_mean.specs.State.{rows_at, with_cell, with_element, with_queue}
use Rattle.layer_mean.specs.Visit.{no_state}
use Rattle.guard_mean.specs.Hoist.{is_here}
use Rattle.guard_laws.specs.Sound.{extent, queue_count}
use Rattle.trace_mean.specs.Worth.{state_of}

and-false : (b : Bool) → (b && false) ≡ false
and-false true = refl
and-false false = refl

-- an item of a list in which one is set
pub get_set : {A : Type 0} (xs : List A) (k j : ℕ) (v d : A) →
    slice_index_or (slice_set xs k v) j d ≡ (if (j == k) && nat_lt j (length xs) then v else slice_index_or xs j d)
get_set xs k j v d = go (j == k) refl where
  inside : (b : Bool) → nat_lt j (length xs) ≡ b → j ≡ k → slice_index_or (slice_set xs k v) j d ≡
      (if b then v else slice_index_or xs j d)
  inside true is same = subst (λ k. slice_index_or (slice_set xs k v) j d ≡ v) same
      (get_or-set_same xs j v d (ltb-true j (length xs) is))
  inside false is same = let past = ltb-false j (length xs) is in
      ap (λ ys. slice_index_or ys j d) (set_past xs k v (omega (arith, past, same)))

  go : (b : Bool) → (j == k) ≡ b → slice_index_or (slice_set xs k v) j d ≡
      (if b && nat_lt j (length xs) then v else slice_index_or xs j d)
  go true is = inside (nat_lt j (length xs)) refl (eqb-true j k is)
  go false is = get_or-set_other xs k j v d (eqb-false j k is)

abbrev pub is_there : List State → ℕ → ℕ → Bool
is_there ss q d = nat_lt q (length ss) && nat_lt d (length (state_of ss q).cells)

abbrev pub cell_in : List State → ℕ → ℕ → Contents
cell_in ss p c = cell_at (state_of ss p) c

abbrev pub celled : List State → ℕ → ℕ → Contents → List State
celled ss q d held = slice_set ss q (with_cell (state_of ss q) d held)

-- a cell that isn't there
pub not_there : (ss : List State) (q d : ℕ) → is_there ss q d ≡ false → cell_in ss q d ≡ no_cell
not_there ss q d is = go (nat_lt q (length ss)) refl is where
  go : (b : Bool) → nat_lt q (length ss) ≡ b → (b && nat_lt d (length (state_of ss q).cells)) ≡ false →
      cell_in ss q d ≡ no_cell
  go true there is = get_or_past (state_of ss q).cells d no_cell (ltb-false d (length (state_of ss q).cells) is)
  go false there is = ap (λ s. cell_at s d) (get_or_past ss q no_state (ltb-false q (length ss) there))

-- the cells after a change of one
pub cell_after : (ss : List State) (q d : ℕ) (held : Contents) (p c : ℕ) →
    cell_in (celled ss q d held) p c ≡ (if is_here p c q d && is_there ss q d then held else cell_in ss p c)
cell_after ss q d held p c = go (p == q) refl where
  s : State
  s = state_of ss q

  placed : (b : Bool) → nat_lt p (length ss) ≡ b → p ≡ q →
      cell_at (if b then with_cell s d held else state_of ss p) c ≡
      (if (c == d) && (b && nat_lt d (length s.cells)) then held else cell_at s c)
  placed true is same = get_set s.cells d c held no_cell
      ∙ swapped (c == d) refl where
        swapped : (b : Bool) → (c == d) ≡ b → (if b && nat_lt c (length s.cells) then held else cell_at s c) ≡
            (if b && nat_lt d (length s.cells) then held else cell_at s c)
        swapped true is = ap (λ n. if nat_lt n (length s.cells) then held else cell_at s c) (eqb-true c d is)
        swapped false is = refl
  placed false is same = ap (λ x. cell_at (state_of ss x) c) same ∙
      ap (λ (b : Bool). if b then held else cell_at s c) (sym (and-false (c == d)))

  go : (b : Bool) → (p == q) ≡ b → cell_in (celled ss q d held) p c ≡
      (if (b && (c == d)) && is_there ss q d then held else cell_in ss p c)
  go true is =
      let same = eqb-true p q is in
      ap (λ x. cell_at x c) (get_set ss q p (with_cell s d held) no_state
      ∙ ap (λ b. if b && nat_lt p (length ss) then with_cell s d held else state_of ss p) is)
      ∙ placed (nat_lt p (length ss)) refl same
      ∙ ap₂ (λ x y. if (c == d) && (nat_lt x (length ss) && nat_lt d (length s.cells)) then held else cell_at
      (state_of ss y) c) same (sym same)
  go false is = ap (λ x. cell_at x c) (get_or-set_other ss q p (with_cell s d held) no_state (eqb-false p q is))

-- what is seen of a cell after a change of one
pub seen_after : {A : Type 0} (f : Contents → A) (ss : List State) (q d : ℕ) (held : Contents) (p c : ℕ) →
    f (cell_in (celled ss q d held) p c) ≡ (if is_here p c q d && is_there ss q d then f held else f (cell_in ss p c))
seen_after f ss q d held p c = ap f (cell_after ss q d held p c) ∙ go (is_here p c q d && is_there ss q d) where
  go : (b : Bool) → f (if b then held else cell_in ss p c) ≡ (if b then f held else f (cell_in ss p c))
  go true = refl
  go false = refl

pub here : (p c q d : ℕ) → is_here p c q d ≡ true → (p ≡ q) × (c ≡ d)
here p c q d is = let parts = and_parts (p == q) (c == d) is in (eqb-true p q parts.0, eqb-true c d parts.1)

-- what the change of a cell doesn't change there stays everywhere
pub same_after : {A : Type 0} (f : Contents → A) (ss : List State) (q d : ℕ) (held : Contents) (p c : ℕ) →
    f held ≡ f (cell_in ss q d) →
    f (cell_in (celled ss q d held) p c) ≡ f (cell_in ss p c)
same_after f ss q d held p c same = seen_after f ss q d held p c ∙ go (is_here p c q d) refl where
  again : (b : Bool) → f held ≡ f (cell_in ss p c) → (if b then f held else f (cell_in ss p c)) ≡ f (cell_in ss p c)
  again true is = is
  again false is = refl

  go : (b : Bool) → is_here p c q d ≡ b → (if b && is_there ss q d then f held else f (cell_in ss p c)) ≡
      f (cell_in ss p c)
  go true is = let at = here p c q d is in again
      (is_there ss q d) (same ∙ ap₂ (λ x y. f (cell_in ss x y)) (sym at.0) (sym at.1))
  go false is = refl

written_numbers : (k v : ℕ) (cell : Contents) → numbers_in (with_element k v cell) ≡ slice_set (numbers_in cell) k v
written_numbers k v (numbers ns) = refl
written_numbers k v (queues qs) = refl

written_queues : (k v : ℕ) (cell : Contents) → queues_in (with_element k v cell) ≡ queues_in cell
written_queues k v (numbers ns) = refl
written_queues k v (queues qs) = refl

filled_numbers : (k : ℕ) (rows : List Row) (cell : Contents) → numbers_in (with_queue k rows cell) ≡ numbers_in cell
filled_numbers k rows (numbers ns) = refl
filled_numbers k rows (queues qs) = refl

filled_queues : (k : ℕ) (rows : List Row) (cell : Contents) → queues_in (with_queue k rows cell) ≡
    slice_set (queues_in cell) k rows
filled_queues k rows (numbers ns) = refl
filled_queues k rows (queues qs) = refl

module _ (ss : List State) (q d k v : ℕ) where
  abbrev pub numbered : List State
  numbered = celled ss q d (with_element k v (cell_in ss q d))

  pub numbers_after : (p c j : ℕ) → number_at (state_of numbered p) c j ≡
      (if is_here p c q d && ((j == k) && nat_lt j (extent ss p c)) then v else number_at (state_of ss p) c j)
  numbers_after p c j = seen_after (λ cell. slice_index (numbers_in cell) j) ss q d (with_element k v (cell_in ss q d))
      p c
      ∙ go (is_here p c q d) (is_there ss q d) refl refl where
        old : ℕ
        old = number_at (state_of ss p) c j

        new : ℕ
        new = slice_index (numbers_in (with_element k v (cell_in ss q d))) j

        go : (b t : Bool) → is_here p c q d ≡ b → is_there ss q d ≡ t →
            (if b && t then new else old) ≡ (if b && ((j == k) && nat_lt j (extent ss p c)) then v else old)
        go true true is there = let at = here p c q d is in
            ap (λ ns. slice_index ns j) (written_numbers k v (cell_in ss q d)) ∙
            get_set (numbers_in (cell_in ss q d)) k j v 0
            ∙ ap₂ (λ x y. if (j == k) && nat_lt j (extent ss x y) then v else number_at (state_of ss x) y j) (sym at.0)
            (sym at.1)
        go true false is there = let at = here p c q d is in
            let none : extent ss p c ≡ 0 = ap₂ (extent ss) at.0 at.1 ∙
            ap (λ cell. length (numbers_in cell)) (not_there ss q d there) in
            let outside : nat_lt j (extent ss p c) ≡ false = le-ltb j (extent ss p c) (omega (arith, none)) in
            sym (ap (λ (b : Bool). if b then v else old) (ap (λ b. (j == k) && b) outside ∙ and-false (j == k)))
        go false t is there = refl

  pub extents_after : (p c : ℕ) → extent numbered p c ≡ extent ss p c
  extents_after p c = same_after (λ cell. length (numbers_in cell)) ss q d (with_element k v (cell_in ss q d)) p c
      (ap length (written_numbers k v (cell_in ss q d)) ∙ length-set (numbers_in (cell_in ss q d)) k v)

  pub queues_after : (p c j : ℕ) → rows_at (state_of numbered p) c j ≡ rows_at (state_of ss p) c j
  queues_after p c j = same_after (λ cell. slice_index_or (queues_in cell) j []) ss q d
      (with_element k v (cell_in ss q d)) p
      c
      (ap (λ qs. slice_index_or qs j []) (written_queues k v (cell_in ss q d)))

module _ (ss : List State) (q d k : ℕ) (new : List Row) where
  abbrev pub queued : List State
  queued = celled ss q d (with_queue k new (cell_in ss q d))

  pub numbers_stay : (p c j : ℕ) → number_at (state_of queued p) c j ≡ number_at (state_of ss p) c j
  numbers_stay p c j = same_after (λ cell. slice_index (numbers_in cell) j) ss q d (with_queue k new (cell_in ss q d)) p
      c
      (ap (λ ns. slice_index ns j) (filled_numbers k new (cell_in ss q d)))

  pub extents_stay : (p c : ℕ) → extent queued p c ≡ extent ss p c
  extents_stay p c = same_after (λ cell. length (numbers_in cell)) ss q d (with_queue k new (cell_in ss q d)) p c
      (ap length (filled_numbers k new (cell_in ss q d)))

  pub rows_after : k < queue_count ss q d → (p c j : ℕ) → rows_at (state_of queued p) c j ≡
      (if is_here p c q d && (j == k) then new else rows_at (state_of ss p) c j)
  rows_after there p c j = seen_after (λ cell. slice_index_or (queues_in cell) j []) ss q d
      (with_queue k new (cell_in ss q d)) p c
      ∙ go (is_here p c q d) (is_there ss q d) refl refl where
        old : List Row
        old = rows_at (state_of ss p) c j

        now : List Row
        now = slice_index_or (queues_in (with_queue k new (cell_in ss q d))) j []

        inside : (b : Bool) → (j == k) ≡ b → (b && nat_lt j (queue_count ss q d)) ≡ b
        inside true is = let same = eqb-true j k is in lt-ltb j (queue_count ss q d) (omega (arith, same, there))
        inside false is = refl

        go : (b t : Bool) → is_here p c q d ≡ b → is_there ss q d ≡ t → (if b && t then now else old) ≡
            (if b && (j == k) then new else old)
        go true true is is_in = let at = here p c q d is in
            ap (λ qs. slice_index_or qs j []) (filled_queues k new (cell_in ss q d)) ∙
            get_set (queues_in (cell_in ss q d)) k j new []
            ∙ ap (λ (b : Bool). if b then new else slice_index_or (queues_in (cell_in ss q d)) j [])
            (inside (j == k) refl)
            ∙ ap₂ (λ x y. if j == k then new else rows_at (state_of ss x) y j) (sym at.0) (sym at.1)
        go true false is is_in =
            let none : queue_count ss q d ≡ 0 = ap (λ cell. length (queues_in cell)) (not_there ss q d is_in) in
            absurd (omega (arith, none, there))
        go false t is is_in = refl

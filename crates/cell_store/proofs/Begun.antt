-- Cells before the first event, one more at a time.
use Rattle.std.proofs.Math.Nat.{mul-le-mul}
use Rattle.std.proofs.Common.{◌≡◌, ℕ, ◌+◌, ◌≤◌, ◌<◌, List, [], ◌∷◌, ◌++◌, map, length, take, drop, replicate}
use Rattle.std.proofs.Common.{slice_index_or, slice_set, Option, Some, refl, sym, ap, ap₂, ◌∙◌, subst, arith}
use Rattle.std.proofs.lemmas.List.{map-append, map_more, take-map, length-append, length-map, get_or-drop, drop-drop}
use Rattle.std.proofs.lemmas.List.{drop-set-lt, take_more_set, length-drop, length-replicate, drop-append-le}
use Rattle.std.proofs.lemmas.List.{take-append-le, drop_at, take_all}
use Rattle.std.proofs.lemmas.List.Sums.{sum_by_push, sum_by-le-sum_by, sum_by-take-le}
use Rattle.std.proofs.lemmas.Grind.{flat_map-append}
use Rattle.std.specs.List.{sum_by}
use Rattle.layer_words.specs.declared.sorts.Shape.{Shape}
use Rattle.layer_words.specs.declared.sorts.Shape.TheVariants.{One, Array, Square}
use Rattle.layer_mean.specs.Tree as tree
use Rattle.layer_mean.specs.Tree.{CellTree}
use Rattle.layer_mean.specs.State.{size_of}
use Rattle.cell_store.specs.declared.slot.Frame.{Frame}
use Rattle.cell_store.specs.declared.slot.Frame.TheVariants.{Numbers, Queues}
use Rattle.cell_store.specs.declared.slot.StoredCell.{StoredCell}
use Rattle.typed_layer.specs.declared.tree.Cell.{Cell}
use Rattle.typed_layer.specs.View.{cell_tree, form_tree}
use Rattle.cell_store.specs.Kept.{numbers, queues, rows_of}
use Rattle.cell_store.proofs.Empty.{none_in}
use Rattle.cell_store.proofs.Laid.{got, map_some, lies}
use Rattle.cell_store.proofs.Rows.{none_at}
use Rattle.cell_store.specs.Fresh.{kept_first, kept_form, tree_form, initial_value}
use Rattle.cell_store.specs.Frames.{numbers_for, queues_for, frame_in, first_numbers}
use Rattle.cell_store.specs.Rings.{CellQueues}
use Rattle.cell_store.specs.Slots.{framed, form_framed, slot_kept, slot_form, FitsFrame, AreLaid, AreFirst, AreSlots}
use Rattle.cell_store.specs.Slots.{frames_of, slot_rows, slot_first, slot_again}
use Rattle.msg_core.specs.View.{most_members}

-- a cell has no fewer numbers for more members
pub more_numbers : (n most : ℕ) → n ≤ most → (frame : Frame) → numbers_for n frame ≤ numbers_for most frame
more_numbers n most few (Numbers One) = omega arith
more_numbers n most few (Numbers Array) = few
more_numbers n most few (Numbers Square) = mul-le-mul few few
more_numbers n most few (Queues shape) = omega arith

pub room_for_fewer : (n most : ℕ) → n ≤ most → (frames : List Frame) →
    sum_by (numbers_for n) frames ≤ sum_by (numbers_for most) frames
room_for_fewer n most few frames = sum_by-le-sum_by (numbers_for n) (numbers_for most) frames (more_numbers n most few)

-- the first numbers of a form are as many as its frame has
pub first_size : (me n ltime : ℕ) (form : tree.Form) → length (first_numbers me n ltime form) ≡
    numbers_for n (frame_in form)
first_size me n ltime (tree.numbers shape initial) = length-replicate _ _
first_size me n ltime (tree.queue capacity items) = refl
first_size me n ltime (tree.queues capacity items) = refl

some_same : {a b : ℕ} → Some a ≡ Some b → a ≡ b
some_same same = cc same

-- the form of a cell determines its frame
frame_of_form : (frame : Frame) (capacity : ℕ) (form : tree.Form) → form_framed frame capacity ≡ tree_form form →
    frame ≡ frame_in form
frame_of_form (Numbers shape) capacity (tree.numbers shape' initial) same =
    ap (λ (p : Shape × Option ℕ). Numbers p.0) same
frame_of_form (Numbers shape) capacity (tree.queue capacity' items) same =
    absurd (cc (ap (λ (p : Shape × Option ℕ). p.1) same))
frame_of_form (Numbers shape) capacity (tree.queues capacity' items) same =
    absurd (cc (ap (λ (p : Shape × Option ℕ). p.1) same))
frame_of_form (Queues shape) capacity (tree.numbers shape' initial) same =
    absurd (cc (ap (λ (p : Shape × Option ℕ). p.1) same))
frame_of_form (Queues shape) capacity (tree.queue capacity' items) same = ap (λ (p : Shape × Option ℕ). Queues p.0) same
frame_of_form (Queues shape) capacity (tree.queues capacity' items) same =
    ap (λ (p : Shape × Option ℕ). Queues p.0) same

-- one cell more of a layer
pub one_more : (i : ℕ) (cells : List Cell) (cell : Cell) → i < length cells → cell ≡ slice_index_or cells i cell →
    map cell_tree (take (i + 1) cells) ≡ map cell_tree (take i cells) ++ cell_tree cell ∷ []
one_more i cells cell within read = map_more cell_tree cells i cell within ∙
    ap (λ c. map cell_tree (take i cells) ++ cell_tree c ∷ []) (sym read)

-- there is room for the numbers of one cell more
abbrev frames_in : List CellTree → List Frame
frames_in cells = map (λ c. frame_in c.form) cells

pub room_here : (n most capacity i : ℕ) (cells : List Cell) (cell : Cell) → n ≤ most →
    sum_by (numbers_for most) (frames_in (map cell_tree cells)) ≤ capacity → i < length cells →
    cell ≡ slice_index_or cells i cell →
    sum_by (numbers_for n) (frames_in (map cell_tree (take i cells))) + numbers_for n (frame_in (form_tree cell.form)) ≤
    capacity
room_here n most capacity i cells cell few room within read =
    let step : frames_in (map cell_tree (take (i + 1) cells)) ≡ frames_in (map cell_tree (take i cells)) ++ frame_in
    (form_tree cell.form) ∷ [] =
    ap frames_in (one_more i cells cell within read) ∙
    map-append (λ (c : CellTree). frame_in c.form) (map cell_tree (take i cells)) (cell_tree cell ∷ []) in
    let front : take (i + 1) (frames_in (map cell_tree cells)) ≡ frames_in (map cell_tree (take (i + 1) cells)) =
    take-map (λ (c : CellTree). frame_in c.form) (i + 1) (map cell_tree cells) ∙ ap frames_in
    (take-map cell_tree (i + 1) cells) in
    let all = sum_by-take-le (numbers_for n) (frames_in (map cell_tree cells)) (i + 1) in
    let more = room_for_fewer n most few (frames_in (map cell_tree cells)) in
    omega (
      arith,
      ap (sum_by (numbers_for n)) (front ∙ step),
      sum_by_push (numbers_for n) (frames_in (map cell_tree (take i cells))) (frame_in (form_tree cell.form)),
      all,
      more,
      room,
    )

module _ {R : Type 0} where
  laid_more : (most at end end' : ℕ) (slots : List (StoredCell R)) (s : StoredCell R) → AreLaid most at end slots →
      end ≤ s.at →
      FitsFrame most s.frame s.count s.rings → s.at + s.count ≤ end' → AreLaid most at end' (slots ++ s ∷ [])
  laid_more most at end end' [] s laid following fits before = (omega (arith, laid, following), (fits, before))
  laid_more most at end end' (t ∷ rest) s laid following fits before =
      (laid.0, (laid.1.0, laid_more most (t.at + t.count) end end' rest s laid.1.1 following fits before))

  laid_bound : (most at end : ℕ) (slots : List (StoredCell R)) → AreLaid most at end slots → at ≤ end
  laid_bound most at end [] laid = laid
  laid_bound most at end (s ∷ rest) laid = let rest = laid_bound most (s.at + s.count) end rest laid.1.1 in
      omega (arith, rest, laid.0)

  kept_more : (most at : ℕ) (block more : List ℕ) (slots : List (StoredCell R)) → AreLaid most at (length block) slots →
      map (slot_kept (block ++ more)) slots ≡ map (slot_kept block) slots
  kept_more most at block more [] laid = refl
  kept_more most at block more (s ∷ rest) laid =
      let within = laid_bound most (s.at + s.count) (length block) rest laid.1.1 in
      let part : take s.count (drop s.at (block ++ more)) ≡ take s.count (drop s.at block) =
      ap (take s.count) (drop-append-le s.at block more (omega (arith, within)))
      ∙ take-append-le s.count (drop s.at block) more (omega (arith, within, length-drop s.at block)) in
      ap₂ (λ x xs. x ∷ xs) (ap (λ ns. framed s.frame ns s.rings) part)
      (kept_more most (s.at + s.count) block more rest laid.1.1)

  -- a cell that begins after a block
  pub record Begins (me n ltime most at : ℕ) (form : tree.Form) (s : StoredCell R) : Type 0 where
    pub place : s.at ≡ at
    pub count : s.count ≡ length (first_numbers me n ltime form)
    pub frame : s.frame ≡ frame_in form
    pub fits : FitsFrame most s.frame s.count s.rings
    pub kept : framed s.frame (first_numbers me n ltime form) s.rings ≡ kept_first me n ltime form

  pub first_more : (me n ltime most : ℕ) (cells : List CellTree) (block block' : List ℕ) (slots : List (StoredCell R))
      (cell : CellTree)
      (s : StoredCell R) → AreFirst me n ltime most cells block slots →
      block' ≡ block ++ first_numbers me n ltime cell.form →
      Begins me n ltime most (length block) cell.form s →
      AreFirst me n ltime most (cells ++ cell ∷ []) block' (slots ++ s ∷ [])
  first_more me n ltime most cells block block' slots cell s first new begins =
      subst (λ block. AreFirst me n ltime most (cells ++ cell ∷ []) block (slots ++ s ∷ [])) (sym new) record {
        laid = laid_more most 0 (length block) (length (block ++ more)) slots s first.laid (omega (arith, begins.place))
            begins.fits
            (omega (arith, begins.place, begins.count, length-append block more));
        kept = map-append (slot_kept (block ++ more)) slots (s ∷ [])
            ∙ ap₂ (λ xs x. xs ++ x ∷ []) (kept_more most 0 block more slots first.laid ∙ first.kept)
            (here ∙ begins.kept)
            ∙ sym (map-append (λ (c : CellTree). kept_first me n ltime c.form) cells (cell ∷ []));
        frames = map-append (λ (s : StoredCell R). s.frame) slots (s ∷ []) ∙
            ap₂ (λ xs x. xs ++ x ∷ []) first.frames begins.frame
            ∙ sym (map-append (λ (c : CellTree). frame_in c.form) cells (cell ∷ []));
        size = length-append block more ∙
            ap₂ (λ a b. a + b) first.size (first_size me n ltime cell.form ∙ ap (numbers_for n) (sym begins.frame))
            ∙ sym (sum_by_push (numbers_for n) (frames_of slots) s.frame)
            ∙ ap (sum_by (numbers_for n)) (sym (map-append (λ (s : StoredCell R). s.frame) slots (s ∷ [])));
      }
    where
      more : List ℕ
      more = first_numbers me n ltime cell.form

      here : slot_kept (block ++ first_numbers me n ltime cell.form) s ≡
          framed s.frame (first_numbers me n ltime cell.form) s.rings
      here = ap (λ ns. framed s.frame ns s.rings)
          (ap₂ (λ at count. take count (drop at (block ++ first_numbers me n ltime cell.form))) begins.place
          begins.count
          ∙ ap (take (length (first_numbers me n ltime cell.form)))
          (drop_at block (first_numbers me n ltime cell.form) (length block) refl)
          ∙ take_all (length (first_numbers me n ltime cell.form)) (first_numbers me n ltime cell.form) (omega arith))

  pub begins_first : (me n ltime at : ℕ) (form : tree.Form) →
      Begins me n ltime n at form (slot_first {R = R} n n at form)
  begins_first me n ltime at (tree.numbers shape initial) =
      record { place = refl; count = sym (length-replicate _ _); frame = refl; fits = (omega arith, refl); kept = refl }
  begins_first me n ltime at (tree.queue capacity items) =
      record { place = refl; count = refl; frame = refl; fits = (refl, refl); kept = refl }
  begins_first me n ltime at (tree.queues capacity items) =
      record { place = refl; count = refl; frame = refl; fits = (refl, refl); kept = refl }

  -- one cell more is made
  pub begun_one : (me n ltime i : ℕ) (cells : List Cell) (cell : Cell) (block block' : List ℕ)
      (slots slots' : List (StoredCell R)) (s : StoredCell R) →
      AreFirst me n ltime n (map cell_tree (take i cells)) block slots → slot_rows slots ≡ [] → i < length cells →
      cell ≡ slice_index_or cells i cell → block' ≡ block ++ first_numbers me n ltime (form_tree cell.form) →
      s ≡ slot_first n n (length block) (form_tree cell.form) → slots' ≡ slots ++ s ∷ [] →
      AreFirst me n ltime n (map cell_tree (take (i + 1) cells)) block' slots' × (slot_rows slots' ≡ [])
  begun_one me n ltime i cells cell block block' slots slots' s first none within read new made pushed =
      let all : slots' ≡ slots ++ slot_first n n (length block) (form_tree cell.form) ∷ [] = pushed ∙
      ap (λ s. slots ++ s ∷ []) made in (
        subst (λ slots. AreFirst me n ltime n (map cell_tree (take (i + 1) cells)) block' slots) (sym all)
            (subst (λ trees. AreFirst me n ltime n trees block'
            (slots ++ slot_first n n (length block) (form_tree cell.form) ∷ []))
            (sym (one_more i cells cell within read))
            (first_more me n ltime n (map cell_tree (take i cells)) block block' slots (cell_tree cell) _ first new
            (begins_first me n ltime (length block) (form_tree cell.form)))),
        ap slot_rows all ∙ flat_map-append (λ (s : StoredCell R). rows_of s.rings.rows) slots _
            ∙ ap₂ (λ xs ys. xs ++ (ys ++ [])) none (none_in (queues_for n (frame_in (form_tree cell.form)))),
      )

  -- a cell that begins again
  begins_again_of : (me n ltime most at at' count : ℕ) → n ≤ most →
      (frame : Frame) (qs : CellQueues R) (form : tree.Form) →
      form_framed frame qs.capacity ≡ tree_form form → FitsFrame most frame count qs →
      Begins me n ltime most at form (slot_again n at (record { frame = frame; at = at'; count = count; rings = qs }))
  begins_again_of me n ltime most at at' count few (Numbers shape) qs (tree.numbers shape' initial) same fits =
      let shapes : shape ≡ shape' = ap (λ (p : Shape × Option ℕ). p.0) same in
      record {
        place = refl;
        count = ap (size_of n) shapes ∙ sym (length-replicate _ _);
        frame = ap Numbers shapes;
        fits = (more_numbers n most few (Numbers shape), refl);
        kept = ap (λ shape. numbers shape (replicate (size_of n shape') (initial_value initial me n ltime))) shapes;
      }
  begins_again_of me n ltime most at at' count few (Numbers shape) qs (tree.queue capacity items) same fits =
      absurd (cc (ap (λ (p : Shape × Option ℕ). p.1) same))
  begins_again_of me n ltime most at at' count few (Numbers shape) qs (tree.queues capacity items) same fits =
      absurd (cc (ap (λ (p : Shape × Option ℕ). p.1) same))
  begins_again_of me n ltime most at at' count few (Queues shape) qs (tree.numbers shape' initial) same fits =
      absurd (cc (ap (λ (p : Shape × Option ℕ). p.1) same))
  begins_again_of me n ltime most at at' count few (Queues shape) qs (tree.queue capacity items) same fits =
      let shapes : shape ≡ One = ap (λ (p : Shape × Option ℕ). p.0) same in
      let capacities : qs.capacity ≡ capacity = some_same (ap (λ (p : Shape × Option ℕ). p.1) same) in
      record {
        place = refl;
        count = refl;
        frame = ap Queues shapes;
        fits = (refl, fits.1);
        kept = λ k. queues (shapes k) (capacities k) (replicate (size_of n (shapes k)) []);
      }
  begins_again_of me n ltime most at at' count few (Queues shape) qs (tree.queues capacity items) same fits =
      let shapes : shape ≡ Array = ap (λ (p : Shape × Option ℕ). p.0) same in
      let capacities : qs.capacity ≡ capacity = some_same (ap (λ (p : Shape × Option ℕ). p.1) same) in
      record {
        place = refl;
        count = refl;
        frame = ap Queues shapes;
        fits = (refl, fits.1);
        kept = λ k. queues (shapes k) (capacities k) (replicate (size_of n (shapes k)) []);
      }

  pub begins_again : (me n ltime most at : ℕ) → n ≤ most → (s : StoredCell R) (form : tree.Form) →
      slot_form s ≡ tree_form form →
      FitsFrame most s.frame s.count s.rings → Begins me n ltime most at form (slot_again n at s)
  begins_again me n ltime most at few s form same fits = begins_again_of me n ltime most at s.at s.count few s.frame
      s.rings form same fits

  pub frames_of_forms : (slots : List (StoredCell R)) (cells : List CellTree) →
      map slot_form slots ≡ map (λ c. tree_form c.form) cells →
      frames_of slots ≡ map (λ c. frame_in c.form) cells
  frames_of_forms [] [] same = refl
  frames_of_forms [] (cell ∷ cells) same = absurd (cc same)
  frames_of_forms (s ∷ slots) [] same = absurd (cc same)
  frames_of_forms (s ∷ slots) (cell ∷ cells) same =
      let head : slot_form s ≡ tree_form cell.form = cc same in
      let rest : map slot_form slots ≡ map (λ c. tree_form c.form) cells = cc same in
      ap₂ (λ x xs. x ∷ xs) (frame_of_form s.frame s.rings.capacity cell.form head) (frames_of_forms slots cells rest)

  -- one cell more begins again
  same_after : (xs ys : List (StoredCell R)) (i : ℕ) (d : StoredCell R) → drop i xs ≡ drop i ys →
      slice_index_or xs i d ≡ slice_index_or ys i d
  same_after xs ys i d same =
      let place : i + 0 ≡ i = omega arith in
      ap (λ k. slice_index_or xs k d) (sym place) ∙ sym (get_or-drop i xs 0 d) ∙ ap (λ zs. slice_index_or zs 0 d) same ∙
      get_or-drop i ys 0 d
      ∙ ap (λ k. slice_index_or ys k d) place

  -- what is known of the cell before
  pub record Before (most i : ℕ) (cell : Cell) (olds : List (StoredCell R)) (s : StoredCell R) : Type 0 where
    pub form : slot_form s ≡ tree_form (form_tree cell.form)
    pub fits : FitsFrame most s.frame s.count s.rings
    pub empty : rows_of s.rings.rows ≡ []

  pub before : (most end i : ℕ) (cells : List Cell) (cell : Cell) (slots olds : List (StoredCell R))
      (s : StoredCell R) →
      AreLaid most 0 end olds →
      map slot_form olds ≡ map (λ c. tree_form c.form) (map cell_tree cells) → slot_rows olds ≡ [] →
      drop i slots ≡ drop i olds →
      length slots ≡ length olds → i < length slots → s ≡ slice_index_or slots i s → i < length cells →
      cell ≡ slice_index_or cells i cell →
      Before most i cell olds s
  before most end i cells cell slots olds s laid forms none left size within read within' read' =
      let at = got olds i s (omega (arith, within, size)) (read ∙ same_after slots olds i s left) in
      record {
        form = sym (map_some slot_form olds i s (slot_form s) at) ∙ ap (λ fs. slice_index_or fs i (slot_form s)) forms
            ∙ map_some (λ (c : CellTree). tree_form c.form) (map cell_tree cells) i (cell_tree cell) (slot_form s)
            (got (map cell_tree cells) i (cell_tree cell) (omega (arith, within', length-map cells cell_tree))
            (sym (map_some cell_tree cells i cell (cell_tree cell) (got cells i cell within' read'))));
        fits = (lies most 0 end olds i s laid at).fits;
        empty = none_at olds i s none at;
      }

  pub restarted_one : (me n ltime most i : ℕ) → n ≤ most →
      (cells : List Cell) (cell : Cell) (block block' : List ℕ) (slots : List (StoredCell R)) (s new : StoredCell R) →
      AreFirst me n ltime most (map cell_tree (take i cells)) block (take i slots) → i < length cells →
      cell ≡ slice_index_or cells i cell →
      block' ≡ block ++ first_numbers me n ltime (form_tree cell.form) → i < length slots →
      slot_form s ≡ tree_form (form_tree cell.form) →
      FitsFrame most s.frame s.count s.rings → new ≡ slot_again n (length block) s →
      AreFirst me n ltime most (map cell_tree (take (i + 1) cells)) block' (take (i + 1) (slice_set slots i new))
  restarted_one me n ltime most i few cells cell block block' slots s new first within
      read filled there form fits again =
      subst (λ trees. AreFirst me n ltime most trees block' (take (i + 1) (slice_set slots i new)))
      (sym (one_more i cells cell within read))
      (subst (AreFirst me n ltime most (map cell_tree (take i cells) ++ cell_tree cell ∷ []) block')
      (sym (take_more_set slots i new there ∙ ap (λ s. take i slots ++ s ∷ []) again))
      (first_more me n ltime most (map cell_tree (take i cells)) block block' (take i slots) (cell_tree cell) _ first
      filled
      (begins_again me n ltime most (length block) few s (form_tree cell.form) form fits)))

  pub left_after : (i : ℕ) (slots olds : List (StoredCell R)) (new : StoredCell R) → drop i slots ≡ drop i olds →
      drop (i + 1) (slice_set slots i new) ≡ drop (i + 1) olds
  left_after i slots olds new left =
      drop-set-lt (i + 1) slots i new (omega arith) ∙ sym (drop-drop 1 i slots) ∙ ap (drop 1) left ∙ drop-drop 1 i olds

  pub all_first : (me n ltime most i : ℕ) (cells : List Cell) (block : List ℕ) (slots : List (StoredCell R)) →
      AreFirst me n ltime most (map cell_tree (take i cells)) block (take i slots) → length cells ≤ i →
      length slots ≤ i →
      AreFirst me n ltime most (map cell_tree cells) block slots
  all_first me n ltime most i cells block slots first all all' =
      subst (λ xs. AreFirst me n ltime most (map cell_tree xs) block slots) (take_all i cells all)
      (subst (AreFirst me n ltime most (map cell_tree (take i cells)) block) (take_all i slots all') first)

  -- a cell that has room for the most has it for fewer
  queues_again : (n most : ℕ) (frame : Frame) (count : ℕ) (qs : CellQueues R) → n ≤ most →
      FitsFrame most frame count qs →
      queues_for n frame ≤ qs.most
  queues_again n most (Numbers shape) count qs few fits = omega arith
  queues_again n most (Queues shape) count qs few fits = let sizes = more_numbers n most few (Numbers shape) in
      omega (arith, sizes, fits.1)

  pub queues_fit : (n most : ℕ) (s : StoredCell R) → n ≤ most → FitsFrame most s.frame s.count s.rings →
      queues_for n s.frame ≤ s.rings.most
  queues_fit n most s few fits = queues_again n most s.frame s.count s.rings few fits

  pub same_count : (slots : List (StoredCell R)) (cells : List Cell) →
      map slot_form slots ≡ map (λ c. tree_form c.form) (map cell_tree cells) →
      length slots ≡ length cells
  same_count slots cells forms =
      sym (length-map slots slot_form) ∙ ap length forms ∙ length-map (map cell_tree cells) (λ c. tree_form c.form) ∙
      length-map cells cell_tree

  pub room_in_forms : (most capacity : ℕ) (slots : List (StoredCell R)) (cells : List CellTree) →
      map slot_form slots ≡ map (λ c. tree_form c.form) cells →
      sum_by (numbers_for most) (frames_of slots) ≤ capacity →
      sum_by (numbers_for most) (map (λ c. frame_in c.form) cells) ≤ capacity
  room_in_forms most capacity slots cells forms room =
      subst (λ frames. sum_by (numbers_for most) frames ≤ capacity) (frames_of_forms slots cells forms) room

  -- the forms of what is kept are those of its cells
  kept_framed : (frame : Frame) (ns : List ℕ) (qs : CellQueues R) → form_framed frame qs.capacity ≡
      kept_form (framed frame ns qs)
  kept_framed (Numbers shape) ns qs = refl
  kept_framed (Queues shape) ns qs = refl

  pub forms_kept : (block : List ℕ) (slots : List (StoredCell R)) →
      map slot_form slots ≡ map kept_form (map (slot_kept block) slots)
  forms_kept block [] = refl
  forms_kept block (s ∷ rest) = ap₂ (λ x xs. x ∷ xs) (kept_framed s.frame (take s.count (drop s.at block)) s.rings)
      (forms_kept block rest)

  pub again_slots : (me n ltime most capacity capacity' : ℕ) (cells : List CellTree) (block block' : List ℕ)
      (slots slots' : List (StoredCell R)) →
      n ≤ most → most ≤ most_members → AreFirst me n ltime most cells block' slots' →
      map slot_form slots ≡ map (λ c. tree_form c.form) cells →
      sum_by (numbers_for most) (frames_of slots) ≤ capacity → capacity ≤ capacity' →
      AreSlots n most capacity' block' slots'
  again_slots me n ltime most capacity capacity' cells block block' slots slots' few most_few first forms room more =
      record {
        few = few;
        most_few = most_few;
        laid = first.laid;
        room = let frames = ap (sum_by (numbers_for most)) first.frames in
            omega (arith, frames, room_in_forms most capacity slots cells forms room, more);
      }

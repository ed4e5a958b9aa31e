-- Noted messages, which are written anew wherever they are read.
use Rattle.std.proofs.Common.{◌≡◌, ℕ, zero, suc, ◌+◌, ◌≤◌, ◌&&◌, true, List, [], ◌∷◌, ◌++◌, codes, length, min, take}
use Rattle.std.proofs.Common.{Some, None, refl, sym, ap, subst, ◌∙◌, append-nil, arith}
use Rattle.std.proofs.lemmas.Bool.{and_parts, le-leb, leb-true}
use Rattle.std.proofs.lemmas.List.{append_assoc, get_or_past, length-map, length-take, map-append, take-append-le}
use Rattle.std.proofs.lemmas.List.{take_all, take-take}
use Rattle.std.proofs.lemmas.List.Folds.{list_all-append}
use Rattle.std.proofs.lemmas.List.Sums.{fold-append}
use Rattle.std.proofs.lemmas.Option.{get_or_from_slice_get, slice_get_within}
use Rattle.std.specs.Fmt.{decimal}
use Rattle.std.specs.List.{fold, slice_get}
use Rattle.std.specs.Option.{unwrap_or}
use Rattle.std.specs.Prelude.{OnOk, Result, slice_index_or}
use Rattle.bypass_mean.specs.Text.{message_text, nothing_written, with_note}
use Rattle.layer_mean.specs.Tree.{LayerTree}
use Rattle.synth_print.specs.Lines.{done_text, message_of, noted_text, operation_of, with_row}
use Rattle.synth_print.specs.Texts.{layers_in, terms_in, written_in, written_of}
use Rattle.synth_print.specs.Within.{are_within, is_within, rows_named}
use Rattle.synth_print.specs.Written.{before_note, note_text, note_texts, row_called, rows_called, with_text}
use Rattle.synth_print.specs.Written.{written_all}
use Rattle.synth_print.specs.declared.scope.Scope.{Scope}
use Rattle.synth_print.specs.declared.written.Note.{Note}
use Rattle.synth_print.specs.declared.written.Note.TheVariants as told
use Rattle.synth_print.specs.declared.written.Spot.{Spot}
use Rattle.synth_print.proofs.Follows.{counting, message_bare}
use Rattle.trace_core.specs.View.{Term, message_in}
use Rattle.trace_core.specs.declared.operation.Operation.{Operation}
use Rattle.trace_core.proofs.Terms.{get_more, last_get, length_one}

-- where there is none, the list ends before
past_none : {X : Type 0} (xs : List X) (k : ℕ) → slice_get xs k ≡ None → length xs ≤ k
past_none [] k is = omega arith
past_none (x ∷ xs) zero is = absurd (cc is)
past_none (x ∷ xs) (suc k) is = omega (arith, past_none xs k is)

module _ (stack : List LayerTree) (ts : List Term) (rows : List Spot) where
  abbrev texts_of : List (List ℕ) → List Note → List (List ℕ)
  texts_of texts notes = fold (with_text stack ts rows) texts notes

  kept : (texts : List (List ℕ)) (notes : List Note) (k : ℕ) (x : List ℕ) → slice_get texts k ≡ Some x →
      slice_get (texts_of texts notes) k ≡ Some x
  kept texts [] k x is = is
  kept texts (note ∷ notes) k x is = kept (with_text stack ts rows texts note) notes k x
      (get_more texts (note_text stack ts rows texts note) k x is)

  -- a note's text is told from those before it
  text_at : (texts : List (List ℕ)) (notes : List Note) (k : ℕ) (note : Note) → slice_get notes k ≡ Some note →
      slice_get (texts_of texts notes) (length texts + k) ≡
      Some (note_text stack ts rows (texts_of texts (take k notes)) note)
  text_at texts [] k note is = absurd (cc is)
  text_at texts (x ∷ notes) zero note is =
      let here : length texts + 0 ≡ length texts = omega arith in
      ap (λ k. slice_get (texts_of (with_text stack ts rows texts x) notes) k) here
      ∙ kept (with_text stack ts rows texts x) notes (length texts) (note_text stack ts rows texts x)
      (last_get texts (note_text stack ts rows texts x))
      ∙ ap (λ o. Some (note_text stack ts rows texts (unwrap_or o x))) is
  text_at texts (x ∷ notes) (suc k) note is =
      let next : length texts + suc k ≡ suc (length texts) + k = omega arith in
      ap (λ n. slice_get (texts_of (with_text stack ts rows texts x) notes) n)
      (next ∙ ap (λ n. n + k) (sym (length_one texts (note_text stack ts rows texts x))))
      ∙ text_at (with_text stack ts rows texts x) notes k note is

  many_texts : (texts : List (List ℕ)) (notes : List Note) → length (texts_of texts notes) ≡ length texts + length notes
  many_texts texts [] = omega arith
  many_texts texts (note ∷ notes) =
      omega (
        arith,
        many_texts (with_text stack ts rows texts note) notes,
        length_one texts (note_text stack ts rows texts note),
      )

  read_note : (notes : List Note) (k : ℕ) (note : Note) → slice_get notes k ≡ Some note →
      slice_index_or (note_texts stack ts rows notes) k [] ≡
      note_text stack ts rows (note_texts stack ts rows (take k notes)) note
  unfolding note_texts
  read_note notes k note is =
      let at : 0 + k ≡ k = omega arith in
      get_or_from_slice_get (texts_of [] notes) k (note_text stack ts rows (texts_of [] (take k notes)) note) []
      (ap (slice_get (texts_of [] notes)) (sym at) ∙ text_at [] notes k note is)

  pub all_texts : (notes : List Note) → length (note_texts stack ts rows notes) ≡ length notes
  unfolding note_texts
  all_texts notes = let same : 0 + length notes ≡ length notes = omega arith in many_texts [] notes ∙ same

  read_none : (notes : List Note) (k : ℕ) → slice_get notes k ≡ None →
      slice_index_or (note_texts stack ts rows notes) k [] ≡ []
  unfolding note_texts
  read_none notes k is = get_or_past (texts_of [] notes) k [] (omega (arith, many_texts [] notes, past_none notes k is))

  more_texts : (notes : List Note) (note : Note) →
      note_texts stack ts rows (notes ++ note ∷ []) ≡ with_text stack ts rows (note_texts stack ts rows notes) note
  unfolding note_texts
  more_texts notes note = fold-append (with_text stack ts rows) [] notes (note ∷ [])

  -- a row that is taken later is named by none of the notes
  same_text : (row : Spot) (texts : List (List ℕ)) (note : Note) → is_within (length rows) note ≡ true →
      note_text stack ts (rows ++ row ∷ []) texts note ≡ note_text stack ts rows texts note
  same_text row texts told.Called within = refl
  same_text row texts (told.Spelled message many) within =
      let le : many ≤ length rows = leb-true many (length rows) within in
      λ t. message_text stack (record (before_note stack rows texts many) {
        rows = rows_called stack (take-append-le many rows (row ∷ []) le t);
      }) (message_in ts message)

  same_texts : (row : Spot) (texts : List (List ℕ)) (notes : List Note) → are_within (length rows) notes ≡ true →
      fold (with_text stack ts (rows ++ row ∷ [])) texts notes ≡ texts_of texts notes
  same_texts row texts [] within = refl
  same_texts row texts (note ∷ notes) within =
      let x = and_parts (is_within (length rows) note) _ within in
      ap (λ z. fold (with_text stack ts (rows ++ row ∷ [])) z notes) (λ t. texts ++ same_text row texts note x.0 t ∷ [])
      ∙ same_texts row (with_text stack ts rows texts note) notes x.1

  later_row : (row : Spot) (notes : List Note) → are_within (length rows) notes ≡ true →
      note_texts stack ts (rows ++ row ∷ []) notes ≡ note_texts stack ts rows notes
  unfolding note_texts
  later_row row notes within = same_texts row [] notes within

-- one more note
one_within : (n : ℕ) (notes : List Note) (note : Note) (more : List Note) → more ≡ notes ++ note ∷ [] →
    is_within n note ≡ true →
    are_within n notes ≡ true → are_within n more ≡ true
one_within n notes note more is one within =
    ap (are_within n) is ∙ list_all-append (is_within n) notes (note ∷ []) ∙ (λ t. within t && (one t && true))

pub spelled_within : (n : ℕ) (notes : List Note) (message rows : ℕ) (more : List Note) →
    more ≡ notes ++ told.Spelled message rows ∷ [] → rows ≡ n →
    are_within n notes ≡ true → are_within n more ≡ true
spelled_within n notes message rows more is all within =
    one_within n notes (told.Spelled message rows) more is (le-leb rows n (omega (arith, all))) within

pub called_within : (n : ℕ) (notes more : List Note) → more ≡ notes ++ told.Called ∷ [] → are_within n notes ≡ true →
    are_within n more ≡ true
called_within n notes more is within = one_within n notes told.Called more is (le-leb 0 n (omega arith)) within

pub called_more : (stack : List LayerTree) (ts : List Term) (many : ℕ) (spots : List Spot) (notes more : List Note) →
    more ≡ notes ++ told.Called ∷ [] →
    written_all stack ts many spots more
    ≡ with_note (codes "m." ++ decimal (length (written_all stack ts many spots notes).notes))
    (written_all stack ts many spots notes)
called_more stack ts many spots notes more is =
    λ t. record (written_all stack ts many spots notes) {
      notes = (ap (note_texts stack ts spots) is ∙ more_texts stack ts spots notes told.Called) t;
    }

pub noted : (stack : List LayerTree) (ts : List Term) (many : ℕ) (spots : List Spot) (notes more : List Note)
    (message rows : ℕ) →
    rows ≡ length spots → more ≡ notes ++ told.Spelled message rows ∷ [] →
    written_all stack ts many spots more
    ≡ with_note (message_text stack (written_all stack ts many spots notes) (message_in ts message))
    (written_all stack ts many spots notes)
noted stack ts many spots notes more message rows all is =
    λ t. record (written_all stack ts many spots notes) {
      notes = (ap (note_texts stack ts spots) is ∙ more_texts stack ts spots notes note
          ∙ ap (λ text. note_texts stack ts spots notes ++ text ∷ []) own) t;
    }
  where
    note : Note
    note = told.Spelled message rows

    own : note_text stack ts spots (note_texts stack ts spots notes) note
        ≡ message_text stack (written_all stack ts many spots notes) (message_in ts message)
    own = ap (λ xs. message_text stack
        (record (counting 0 (written_all stack ts many spots notes)) { rows = rows_called stack xs })
        (message_in ts message)) (take_all rows spots (omega (arith, all)))
        ∙ message_bare stack 0 (written_all stack ts many spots notes) (message_in ts message)

-- one more row
within_more : (n : ℕ) (notes : List Note) → are_within n notes ≡ true → are_within (suc n) notes ≡ true
within_more n [] within = refl
within_more n (note ∷ notes) within =
    let x = and_parts (is_within n note) _ within in
    λ t. le-leb (rows_named note) (suc n) (omega (arith, leb-true (rows_named note) n x.0)) t &&
    within_more n notes x.1 t

pub taken_within : (rows more : List Spot) (row : Spot) (notes : List Note) → more ≡ rows ++ row ∷ [] →
    are_within (length rows) notes ≡ true →
    are_within (length more) notes ≡ true
taken_within rows more row notes is within =
    ap (λ n. are_within n notes) (ap length is ∙ length_one rows row) ∙ within_more (length rows) notes within

pub taken : (stack : List LayerTree) (ts : List Term) (many : ℕ) (spots more : List Spot) (notes : List Note)
    (row : Spot) →
    more ≡ spots ++ row ∷ [] → are_within (length spots) notes ≡ true →
    written_all stack ts many more notes ≡ with_row (row_called stack row) (written_all stack ts many spots notes)
taken stack ts many spots more notes row is within = λ t. record (written_all stack ts many spots notes) {
  rows = (ap (rows_called stack) is ∙ map-append (row_called stack) spots (row ∷ [])) t;
  notes = (ap (λ xs. note_texts stack ts xs notes) is ∙ later_row stack ts spots row notes within) t;
}

-- a note is read in its own scope
module _ {E : Type 0} (r : Result (Unit {0}) E) (s : Scope) (k : ℕ) (old new : List ℕ) where
  few_notes : (note : Note) → Some note ≡ slice_get (take s.notes s.written.now.notes.items) k →
      k ≤ min s.notes (length s.written.now.notes.items)
  few_notes note is =
      let notes = s.written.now.notes.items in
      omega (arith, slice_get_within (take s.notes notes) k note (sym is), length-take s.notes notes)

  -- the text of a note that may be named, told from those before it
  text_of : (note : Note) → Some note ≡ slice_get (take s.notes s.written.now.notes.items) k →
      slice_index_or (written_in s).notes k []
      ≡ note_text (layers_in s) (terms_in s) s.written.now.rows.items
      (note_texts (layers_in s) (terms_in s) s.written.now.rows.items (take k s.written.now.notes.items)) note
  text_of note is =
      let spots = s.written.now.rows.items in
      let notes = s.written.now.notes.items in
      read_note (layers_in s) (terms_in s) spots (take s.notes notes) k note (sym is)
      ∙ ap (λ xs. note_text (layers_in s) (terms_in s) spots (note_texts (layers_in s) (terms_in s) spots xs) note)
      (take-take k s.notes notes (omega (arith, few_notes note is)))

  pub note_read : (message rows : ℕ) → Some (told.Spelled message rows) ≡
      slice_get (take s.notes s.written.now.notes.items) k →
      OnOk r (new ≡ old ++ message_text (layers_in s) (written_in (record s { rows = rows; notes = k }))
      (message_in (terms_in s) message)) →
      OnOk r (new ≡ old ++ slice_index_or (written_in s).notes k [])
  note_read message rows is put =
      subst (λ text. OnOk r (new ≡ old ++ text))
      (sym (text_of (told.Spelled message rows) is
      ∙ message_bare (layers_in s) 0 (written_in (record s { rows = rows; notes = k }))
      (message_in (terms_in s) message))) put

  pub note_called : Some told.Called ≡ slice_get (take s.notes s.written.now.notes.items) k →
      OnOk r (new ≡ old ++ codes "m." ++ decimal k) → OnOk r (new ≡ old ++ slice_index_or (written_in s).notes k [])
  note_called is put =
      let notes = s.written.now.notes.items in
      let many : length (note_texts (layers_in s) (terms_in s) s.written.now.rows.items (take k notes)) ≡ k =
      omega (
        arith,
        all_texts (layers_in s) (terms_in s) s.written.now.rows.items (take k notes),
        length-take k notes,
        few_notes told.Called is,
      ) in
      subst (λ text. OnOk r (new ≡ text))
      (append_assoc old (codes "m.") (decimal k)
      ∙ ap (λ text. old ++ text) (sym (text_of told.Called is ∙ ap (λ n. codes "m." ++ decimal n) many))) put

pub no_note : (s : Scope) (k : ℕ) (old : List ℕ) → None ≡ slice_get (take s.notes s.written.now.notes.items) k →
    old ≡ old ++ slice_index_or (written_in s).notes k []
no_note s k old is =
    let notes = take s.notes s.written.now.notes.items in
    sym (append-nil old) ∙
    ap (λ text. old ++ text) (sym (read_none (layers_in s) (terms_in s) s.written.now.rows.items notes k (sym is)))

-- rows that may be named
pub no_row : (s : Scope) (row k : ℕ) (old : List ℕ) → None ≡ slice_get (take s.rows s.written.now.rows.items) row →
    old ≡ old ++ slice_index_or (slice_index_or (written_in s).rows row []) k []
no_row s row k old is =
    let spots = take s.rows s.written.now.rows.items in
    sym (append-nil old) ∙ ap (λ called. old ++ slice_index_or called k [])
    (sym (get_or_past (rows_called (layers_in s) spots) row []
    (omega (arith, past_none spots row (sym is), length-map spots (row_called (layers_in s))))))

pub many_rows : (s : Scope) (n : ℕ) → n ≡ min s.rows (length s.written.now.rows.items) → n ≡ length (written_in s).rows
many_rows s n is = is ∙
    sym (length-map (take s.rows s.written.now.rows.items) (row_called (layers_in s)) ∙
    length-take s.rows s.written.now.rows.items)

pub many_notes : (s : Scope) (n : ℕ) → n ≡ min s.notes (length s.written.now.notes.items) →
    n ≡ length (written_in s).notes
many_notes s n is =
    let notes = take s.notes s.written.now.notes.items in
    is ∙ sym (all_texts (layers_in s) (terms_in s) s.written.now.rows.items notes ∙
    length-take s.notes s.written.now.notes.items)

-- a scope in which all that was written may be named
pub whole : (s : Scope) → s.rows ≡ length s.written.now.rows.items → s.notes ≡ length s.written.now.notes.items →
    written_in s ≡ written_of s.stack.now s.source.now s.written.now
whole s rows notes = λ t. record {
  binds = s.written.now.binds;
  rows = rows_called (layers_in s) (take_all s.rows s.written.now.rows.items (omega (arith, rows)) t);
  notes = note_texts (layers_in s) (terms_in s) s.written.now.rows.items
      (take_all s.notes s.written.now.notes.items (omega (arith, notes)) t);
  lines = [];
}

pub whole_nothing : (s : Scope) → s.rows ≡ length s.written.now.rows.items →
    s.notes ≡ length s.written.now.notes.items →
    written_of s.stack.now s.source.now s.written.now ≡ nothing_written → written_in s ≡ nothing_written
whole_nothing s rows notes is = whole s rows notes ∙ is

pub whole_text : {E : Type 0} (r : Result (Unit {0}) E) (s : Scope) (o : Operation) (old new : List ℕ) →
    s.rows ≡ length s.written.now.rows.items →
    s.notes ≡ length s.written.now.notes.items →
    OnOk r (new ≡ old ++ done_text s.source.now.noting (layers_in s) (written_in s) (operation_of s.source.now o)) →
    OnOk r (new ≡ old ++ done_text s.source.now.noting (layers_in s) (written_of s.stack.now s.source.now s.written.now)
    (operation_of s.source.now o))
whole_text r s o old new rows notes put =
    subst (λ w. OnOk r (new ≡ old ++ done_text s.source.now.noting (layers_in s) w (operation_of s.source.now o)))
    (whole s rows notes) put

pub whole_noted : {E : Type 0} (r : Result (Unit {0}) E) (s : Scope) (k : ℕ) (old new : List ℕ) →
    s.rows ≡ length s.written.now.rows.items →
    s.notes ≡ length s.written.now.notes.items →
    OnOk r (new ≡ old ++ noted_text (layers_in s) (written_in s) (message_of s.source.now k)) →
    OnOk r (new ≡ old ++ noted_text (layers_in s) (written_of s.stack.now s.source.now s.written.now)
    (message_of s.source.now k))
whole_noted r s k old new rows notes put =
    subst (λ w. OnOk r (new ≡ old ++ noted_text (layers_in s) w (message_of s.source.now k))) (whole s rows notes) put

-- What operations may name, as the code keeps it.
use Rattle.std.specs.Prelude.{ℕ, List, [], ◌∷◌, ◌++◌, codes, length, map, take}
use Rattle.std.specs.Fmt.{decimal}
use Rattle.std.specs.List.{fold}
use Rattle.layer_mean.specs.Tree.{LayerTree}
use Rattle.trace_mean.specs.Fuse.{form_at}
use Rattle.bypass_mean.specs.Text as mean
use Rattle.bypass_mean.specs.Text.{layer_of, message_text, numbers_called}
use Rattle.synth_print.specs.declared.written.Note.{Note}
use Rattle.synth_print.specs.declared.written.Note.TheVariants as notes
use Rattle.synth_print.specs.declared.written.Spot.{Spot}
use Rattle.synth_print.specs.declared.written.Written.{Written}
use Rattle.trace_core.specs.View.{Term, message_in}

-- What the numbers of taken rows are called.
abbrev pub row_called : List LayerTree → Spot → List (List ℕ)
row_called stack spot = numbers_called (form_at (layer_of stack spot.place) spot.cell)

abbrev pub rows_called : List LayerTree → List Spot → List (List (List ℕ))
rows_called stack spots = map (row_called stack) spots

-- What a noted message may name: the first `many` rows, and messages that are written so.
abbrev pub before_note : List LayerTree → List Spot → List (List ℕ) → ℕ → mean.Written
before_note stack spots texts many = record {
  binds = 0;
  rows = rows_called stack (take many spots);
  notes = texts;
  lines = [];
}

-- How a noted message is told after those that are written so: by its number, or written out.
abbrev pub note_text : List LayerTree → List Term → List Spot → List (List ℕ) → Note → List ℕ
note_text stack ts spots texts notes.Called = codes "m." ++ decimal (length texts)
note_text stack ts spots texts (notes.Spelled message rows) = message_text stack (before_note stack spots texts rows)
    (message_in ts message)

-- How noted messages are told, each of which may name those before it.
abbrev pub with_text : List LayerTree → List Term → List Spot → List (List ℕ) → Note → List (List ℕ)
with_text stack ts spots texts note = texts ++ note_text stack ts spots texts note ∷ []

unfoldable pub note_texts : List LayerTree → List Term → List Spot → List Note → List (List ℕ)
note_texts stack ts spots noted = fold (with_text stack ts spots) [] noted

-- What may be named, where that is the first `many_rows` rows and `many_notes` notes; and where it is all.
abbrev pub written_first : List LayerTree → List Term → Written → (many_rows many_notes : ℕ) → mean.Written
written_first stack ts w many_rows many_notes = record {
  binds = w.binds;
  rows = rows_called stack (take many_rows w.rows.items);
  notes = note_texts stack ts w.rows.items (take many_notes w.notes.items);
  lines = [];
}

abbrev pub written_all : List LayerTree → List Term → ℕ → List Spot → List Note → mean.Written
written_all stack ts many spots noted = record {
  binds = many;
  rows = rows_called stack spots;
  notes = note_texts stack ts spots noted;
  lines = [];
}

abbrev pub written_tree : List LayerTree → List Term → Written → mean.Written
written_tree stack ts w = written_all stack ts w.binds w.rows.items w.notes.items

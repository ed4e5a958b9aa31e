-- How the operations of traces are written, each on a line of its own.
use Rattle.std.specs.Prelude.{ℕ, ◌+◌, Bool, true, false, List, [], ◌∷◌, ◌++◌, map, length, slice_get}
use Rattle.std.specs.Prelude.{slice_index_or, codes, Option, Some, option_to_list}
use Rattle.std.specs.Fmt.{decimal}
use Rattle.std.specs.List.{fold, join_by}
use Rattle.std.specs.Option.{option_map_or}
use Rattle.layer_words.specs.declared.sorts.Shape.TheVariants.{One}
use Rattle.layer_words.specs.Signs.{direction_sign, function_sign, operator_sign}
use Rattle.layer_mean.specs.Headers.{header_of_tag}
use Rattle.layer_mean.specs.Tree.{Form, numbers, queue, queues, CellTree, LayerTree, no_layer}
use Rattle.layer_words.specs.Spelling.{kind_word, sign_text}
use Rattle.trace_mean.specs.Trace.{Atom, number, peer, field, bound, taken_number, value, Core, body, noted}
use Rattle.trace_mean.specs.Trace.{taken_message, nothing, TraceNumber, atom, me, count, ltime, element, square, rows}
use Rattle.trace_mean.specs.Trace.{item, size, binary, apply, pick, TraceMessage, core, held, cut, tail, join, Link}
use Rattle.trace_mean.specs.Trace.{Chained, Operation, bind, note, check, set, set_square, push, take, output}
use Rattle.trace_mean.specs.Fuse.{form_at}

-- Parts in brackets, with commas between.
abbrev pub bracketed_list : List (List ℕ) → List ℕ
bracketed_list parts = codes "(" ++ join_by (λ part. part) (codes ",") parts ++ codes ")"

-- An index in square brackets.
abbrev pub bracketed_index : List ℕ → List ℕ
bracketed_index index = codes "[" ++ index ++ codes "]"

-- What an operation may name, and the lines so far: how many numbers were bound, what the numbers of each taken row are
-- called, and how each noted message is written.
pub record Written : Type 0 where
  pub binds : ℕ
  pub rows : List (List (List ℕ))
  pub notes : List (List ℕ)
  pub lines : List (List ℕ)

-- Before the first operation nothing is named, and there is no line.
abbrev pub nothing_written : Written
nothing_written = record { binds = 0; rows = []; notes = []; lines = [] }

-- The layer at a place of a stack, counted from 0; one with no cells and headers, where there is none.
abbrev pub layer_of : List LayerTree → ℕ → LayerTree
layer_of stack place = slice_index_or stack place no_layer

-- What the numbers of a queue's rows are called.
abbrev pub numbers_called : Option Form → List (List ℕ)
numbers_called (Some (queue capacity items)) = items.numbers
numbers_called (Some (queues capacity items)) = items.numbers
numbers_called _ = []

-- A cell without its index: PLACE.NAME.
abbrev pub cell_name : List LayerTree → ℕ → ℕ → List ℕ
cell_name stack place c =
    decimal place ++ codes "." ++ option_map_or (λ (x : CellTree). x.name) (slice_get (layer_of stack place).cells c) []

-- A cell's name and its index, which is left out where the cell has one number or one queue alone.
abbrev pub with_index : Option Form → List ℕ → List ℕ → List ℕ
with_index (Some (numbers One initial)) name index = name
with_index (Some (queue capacity items)) name index = name
with_index _ name index = name ++ bracketed_index index

-- A cell: PLACE.NAME, and its index unless the cell or queue is alone.
abbrev pub cell_text : List LayerTree → ℕ → ℕ → List ℕ → List ℕ
cell_text stack place c index = with_index (form_at (layer_of stack place) c) (cell_name stack place c) index

-- A number for which no cell is read: a literal, `peer`, `in.K`, `t.K`, `row.K.NAME`, or an entry value `v.K`.
abbrev pub atom_text : Written → Atom → List ℕ
atom_text w (number n) = decimal n
atom_text w peer = codes "peer"
atom_text w (field n) = codes "in." ++ decimal n
atom_text w (bound n) = codes "t." ++ decimal n
atom_text w (taken_number row n) = codes "row." ++ decimal row ++ codes "." ++
    slice_index_or (slice_index_or w.rows row []) n []
atom_text w (value n) = codes "v." ++ decimal n

-- A message for which no cell is read: `body`, what its note is written as, `row.K`, or `nothing`.
abbrev pub core_text : Written → Core → List ℕ
core_text w body = codes "body"
core_text w (noted n) = slice_index_or w.notes n []
core_text w (taken_message row carried) = codes "row." ++ decimal row
core_text w nothing = codes "nothing"

abbrev mutual
  -- A number, each operator between two numbers in brackets of its own.
  pub number_text : List LayerTree → Written → TraceNumber → List ℕ
  number_text stack w (atom a) = atom_text w a
  number_text stack w me = codes "me"
  number_text stack w count = codes "n"
  number_text stack w ltime = codes "ltime"
  number_text stack w (element p c e) = cell_text stack p c (number_text stack w e)
  number_text stack w (square p c row column) =
      cell_name stack p c ++ bracketed_index (number_text stack w row) ++ bracketed_index (number_text stack w column)
  number_text stack w (rows p c e) = codes "len" ++ bracketed_list (cell_text stack p c (number_text stack w e) ∷ [])
  number_text stack w (item p c e row n) =
      codes "at" ++ bracketed_list (cell_text stack p c (number_text stack w e) ∷ number_text stack w row ∷ []) ++
      codes "."
      ++ slice_index_or (numbers_called (form_at (layer_of stack p) c)) n []
  number_text stack w (size m) = codes "size" ++ bracketed_list (message_text stack w m ∷ [])
  number_text stack w (binary operator a b) = codes "(" ++ number_text stack w a ++ codes " " ++
      sign_text (operator_sign operator)
      ++ codes " " ++ number_text stack w b ++ codes ")"
  number_text stack w (apply function a) = sign_text (function_sign function) ++
      bracketed_list (number_text stack w a ∷ [])
  number_text stack w (pick c a b) =
      codes "pick" ++ bracketed_list (number_text stack w c ∷ number_text stack w a ∷ number_text stack w b ∷ [])

  -- A message, without its known headers.
  pub message_text : List LayerTree → Written → TraceMessage → List ℕ
  message_text stack w (core c) = core_text w c
  message_text stack w (held p c e row carried) =
      codes "held" ++ bracketed_list (cell_text stack p c (number_text stack w e) ∷ number_text stack w row ∷ [])
  message_text stack w (cut m from n) =
      codes "cut" ++ bracketed_list (message_text stack w m ∷ number_text stack w from ∷ number_text stack w n ∷ [])
  message_text stack w (tail m from) = codes "tail" ++
      bracketed_list (message_text stack w m ∷ number_text stack w from ∷ [])
  message_text stack w (join first m) = codes "join" ++
      bracketed_list (message_text stack w first ∷ message_text stack w m ∷ [])

-- A known header: LAYER.HEADER(F,F), its fields as they are shown.
abbrev pub link_text : List LayerTree → (Atom → List ℕ) → Link → List ℕ
link_text stack shown l =
    (layer_of stack l.place).name ++ codes "." ++
    option_map_or (λ h. h.name) (header_of_tag (layer_of stack l.place) l.tag)
    []
    ++ bracketed_list (map shown l.fields)

-- Known headers, the lowest place's first, with `/` between.
abbrev pub chain_text : List LayerTree → (Atom → List ℕ) → List Link → List ℕ
chain_text stack shown chain = join_by (link_text stack shown) (codes "/") chain

-- Known headers after what they belong to, where there are any.
abbrev pub following : List LayerTree → Written → List Link → List ℕ
following stack w [] = []
following stack w (l ∷ ls) = codes " " ++ chain_text stack (atom_text w) (l ∷ ls)

-- The message of a row that is pushed, and its known headers after it.
abbrev pub pushed_text : List LayerTree → Written → Chained → List ℕ
pushed_text stack w m = core_text w m.core ++ following stack w m.chain

-- The line of an operation that isn't a note.
abbrev pub line_of : List LayerTree → Written → Operation → List ℕ
line_of stack w (bind e) = codes "bind t." ++ decimal w.binds ++ codes " = " ++ number_text stack w e
line_of stack w (note m) = []
line_of stack w (check e) = codes "check " ++ number_text stack w e
line_of stack w (set p c e x) = codes "set " ++ cell_text stack p c (number_text stack w e) ++ codes " = " ++
    number_text stack w x
line_of stack w (set_square p c row column x) =
    codes "set " ++ number_text stack w (square p c row column) ++ codes " = " ++ number_text stack w x
line_of stack w (push p c e row message) = codes "push " ++ cell_text stack p c (number_text stack w e) ++ codes " "
    ++ bracketed_list (map (number_text stack w) row ++ map (pushed_text stack w) (option_to_list message))
line_of stack w (take p c e) =
    codes "take " ++ cell_text stack p c (number_text stack w e) ++ codes " row." ++ decimal (length w.rows)
line_of stack w (output dir kind arguments message) = codes "out " ++ sign_text (direction_sign dir) ++ codes " " ++
    kind_word kind
    ++ bracketed_list (map (atom_text w) arguments ++
    map (λ (m : Chained). core_text w m.core) (option_to_list message))
    ++ option_map_or (λ (m : Chained). following stack w m.chain) message []

-- One line more.
abbrev pub with_line : List ℕ → Written → Written
with_line line w = record w { lines = w.lines ++ line ∷ [] }

-- One more noted message, which later lines write as this text.
abbrev pub with_note : List ℕ → Written → Written
with_note text w = record w { notes = w.notes ++ text ∷ [] }

-- A note is written out wherever its message is named, or it has a line of its own and a name: `m.` and its number.
abbrev pub writes_note : Bool → List ℕ → Written → Written
writes_note false text w = with_note text w
writes_note true text w = let name = codes "m." ++ decimal (length w.notes) in
    with_note name (with_line (codes "note " ++ name ++ codes " = " ++ text) w)

-- One operation, with or without lines for notes.
abbrev pub writes : Bool → List LayerTree → Written → Operation → Written
writes noting stack w (note m) = writes_note noting (message_text stack w m) w
writes noting stack w (bind e) = let x = with_line (line_of stack w (bind e)) w in record x { binds = x.binds + 1 }
writes noting stack w (take p c e) = let x = with_line (line_of stack w (take p c e)) w in
    record x { rows = x.rows ++ numbers_called (form_at (layer_of stack p) c) ∷ [] }
writes noting stack w operation = with_line (line_of stack w operation) w

-- The lines of a trace's operations; each note has a line of its own if `noting`.
abbrev pub operation_lines : Bool → List LayerTree → List Operation → List (List ℕ)
operation_lines noting stack operations = (fold (writes noting stack) nothing_written operations).lines

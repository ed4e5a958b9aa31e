-- What was written, operation by operation.
use Rattle.std.proofs.Common.{◌≡◌, ℕ, Bool, false, true, List, [], ◌∷◌, ◌++◌, length, map, Option, Some, None}
use Rattle.std.proofs.Common.{option_to_list, refl, sym, append-nil}
use Rattle.std.specs.Fmt.{decimal}
use Rattle.std.specs.Option.{option_map_or}
use Rattle.std.specs.Prelude.{codes, slice_index_or}
use Rattle.layer_words.specs.Spelling.{kind_word}
use Rattle.layer_words.specs.Signs.{direction_sign, function_sign, operator_sign}
use Rattle.layer_mean.specs.Headers.{header_of_tag}
use Rattle.bypass_mean.specs.Text as mean
use Rattle.bypass_mean.specs.Text.{atom_text, core_text, cell_text, cell_name, bracketed_index, bracketed_list}
use Rattle.bypass_mean.specs.Text.{number_text}
use Rattle.bypass_mean.specs.Text.{message_text, line_of, writes}
use Rattle.layer_words.specs.Spelling.{sign_text}
use Rattle.layer_mean.specs.Tree.{LayerTree}
use Rattle.synth_print.specs.Headers.{header_called, more_links}
use Rattle.synth_print.specs.Lines.{bare}
use Rattle.trace_mean.specs.Fuse.{form_at}
use Rattle.trace_mean.specs.Trace as trace
use Rattle.trace_mean.specs.Trace.{Atom, Core, TraceNumber, TraceMessage, Operation}

-- texts are the same however many numbers were bound, and whatever lines there are
abbrev pub counting : ℕ → mean.Written → mean.Written
counting many w = record w { binds = many; lines = [] }

module _ (stack : List LayerTree) (many : ℕ) (w : mean.Written) where
  atom_bare : (a : Atom) → atom_text (counting many w) a ≡ atom_text w a
  atom_bare (trace.number n) = refl
  atom_bare trace.peer = refl
  atom_bare (trace.field n) = refl
  atom_bare (trace.bound n) = refl
  atom_bare (trace.taken_number row n) = refl
  atom_bare (trace.value n) = refl

  core_bare : (c : Core) → core_text (counting many w) c ≡ core_text w c
  core_bare trace.body = refl
  core_bare (trace.noted n) = refl
  core_bare (trace.taken_message row carried) = refl
  core_bare trace.nothing = refl

  mutual
    number_bare : (e : TraceNumber) → number_text stack (counting many w) e ≡ number_text stack w e
    number_bare (trace.atom a) = atom_bare a
    number_bare trace.me = refl
    number_bare trace.count = refl
    number_bare trace.ltime = refl
    number_bare (trace.element p c e) = λ t. cell_text stack p c (number_bare e t)
    number_bare (trace.square p c i j) =
        λ t. cell_name stack p c ++ bracketed_index (number_bare i t) ++ bracketed_index (number_bare j t)
    number_bare (trace.rows p c e) = λ t. codes "len" ++ bracketed_list (cell_text stack p c (number_bare e t) ∷ [])
    number_bare (trace.item p c e row k) =
        λ t. codes "at" ++ bracketed_list (cell_text stack p c (number_bare e t) ∷ number_bare row t ∷ []) ++ codes "."
        ++ slice_index_or (mean.numbers_called (form_at (mean.layer_of stack p) c)) k []
    number_bare (trace.size m) = λ t. codes "size" ++ bracketed_list (message_bare m t ∷ [])
    number_bare (trace.binary o a b) = λ t. codes "(" ++ number_bare a t ++ codes " " ++ sign_text (operator_sign o)
        ++ codes " " ++ number_bare b t ++ codes ")"
    number_bare (trace.apply f a) = λ t. sign_text (function_sign f) ++ bracketed_list (number_bare a t ∷ [])
    number_bare (trace.pick c a b) =
        λ t. codes "pick" ++ bracketed_list (number_bare c t ∷ number_bare a t ∷ number_bare b t ∷ [])

    pub message_bare : (m : TraceMessage) → message_text stack (counting many w) m ≡ message_text stack w m
    message_bare (trace.core c) = core_bare c
    message_bare (trace.held p c e row carried) =
        λ t. codes "held" ++ bracketed_list (cell_text stack p c (number_bare e t) ∷ number_bare row t ∷ [])
    message_bare (trace.cut m i n) =
        λ t. codes "cut" ++ bracketed_list (message_bare m t ∷ number_bare i t ∷ number_bare n t ∷ [])
    message_bare (trace.tail m i) = λ t. codes "tail" ++ bracketed_list (message_bare m t ∷ number_bare i t ∷ [])
    message_bare (trace.join m x) = λ t. codes "join" ++ bracketed_list (message_bare m t ∷ message_bare x t ∷ [])

  atoms_bare : (atoms : List Atom) → map (atom_text (counting many w)) atoms ≡ map (atom_text w) atoms
  atoms_bare [] = refl
  atoms_bare (a ∷ atoms) = λ t. atom_bare a t ∷ atoms_bare atoms t

  numbers_bare : (es : List TraceNumber) → map (number_text stack (counting many w)) es ≡ map
      (number_text stack w) es
  numbers_bare [] = refl
  numbers_bare (e ∷ es) = λ t. number_bare e t ∷ numbers_bare es t

  link_bare : (l : trace.Link) →
      mean.link_text stack (atom_text (counting many w)) l ≡ mean.link_text stack (atom_text w) l
  link_bare l = λ t. (mean.layer_of stack l.place).name ++ codes "." ++
      header_called (header_of_tag (mean.layer_of stack l.place) l.tag)
      ++ bracketed_list (atoms_bare l.fields t)

  more_bare : (ls : List trace.Link) → more_links stack (counting many w) ls ≡ more_links stack w ls
  more_bare [] = refl
  more_bare (l ∷ ls) = λ t. (codes "/" ++ link_bare l t) ++ more_bare ls t

  after_bare : (ls : List trace.Link) → mean.following stack (counting many w) ls ≡ mean.following stack w ls
  after_bare [] = refl
  after_bare (l ∷ ls) = λ t. codes " " ++ (link_bare l t ++ more_bare ls t)

  message_parts : (m : Option trace.Chained) →
      map (mean.pushed_text stack (counting many w)) (option_to_list m) ≡
      map (mean.pushed_text stack w) (option_to_list m)
  message_parts None = refl
  message_parts (Some m) = λ t. (core_bare m.core t ++ after_bare m.chain t) ∷ []

  core_parts : (m : Option trace.Chained) →
      map (λ (m : trace.Chained). core_text (counting many w) m.core) (option_to_list m) ≡
      map (λ (m : trace.Chained). core_text w m.core) (option_to_list m)
  core_parts None = refl
  core_parts (Some m) = λ t. core_bare m.core t ∷ []

  header_parts : (m : Option trace.Chained) →
      option_map_or (λ (m : trace.Chained). mean.following stack (counting many w) m.chain) m []
      ≡ option_map_or (λ (m : trace.Chained). mean.following stack w m.chain) m []
  header_parts None = refl
  header_parts (Some m) = after_bare m.chain

line_bare : (stack : List LayerTree) (w : mean.Written) (o : Operation) → line_of stack (bare w) o ≡ line_of stack w o
line_bare stack w (trace.bind e) = λ t. codes "bind t." ++ decimal w.binds ++ codes " = " ++
    number_bare stack w.binds w e t
line_bare stack w (trace.note m) = refl
line_bare stack w (trace.check e) = λ t. codes "check " ++ number_bare stack w.binds w e t
line_bare stack w (trace.set p c e x) =
    λ t. codes "set " ++ cell_text stack p c (number_bare stack w.binds w e t) ++ codes " = " ++
    number_bare stack w.binds w x t
line_bare stack w (trace.set_square p c i j x) =
    λ t. codes "set " ++ number_bare stack w.binds w (trace.square p c i j) t ++ codes " = " ++
    number_bare stack w.binds w x t
line_bare stack w (trace.push p c e row message) = λ t. codes "push " ++
    cell_text stack p c (number_bare stack w.binds w e t) ++ codes " "
    ++ bracketed_list (numbers_bare stack w.binds w row t ++ message_parts stack w.binds w message t)
line_bare stack w (trace.take p c e) =
    λ t. codes "take " ++ cell_text stack p c (number_bare stack w.binds w e t) ++ codes " row." ++
    decimal (length w.rows)
line_bare stack w (trace.output dir kind arguments message) =
    λ t. codes "out " ++ sign_text (direction_sign dir) ++ codes " " ++ kind_word kind
    ++ bracketed_list (atoms_bare stack w.binds w arguments t ++ core_parts stack w.binds w message t) ++
    header_parts stack w.binds w message t

-- an operation does the same to what was written without lines, and puts its line after those that there are
pub writes_bare : (noting : Bool) (stack : List LayerTree) (w : mean.Written) (o : Operation) →
    bare (writes noting stack (bare w) o) ≡ bare (writes noting stack w o)
writes_bare noting stack w (trace.bind e) = refl
writes_bare false stack w (trace.note m) = λ t.
    record (bare w) { notes = w.notes ++ message_bare stack w.binds w m t ∷ [] }
writes_bare true stack w (trace.note m) = refl
writes_bare noting stack w (trace.check e) = refl
writes_bare noting stack w (trace.set p c e x) = refl
writes_bare noting stack w (trace.set_square p c i j x) = refl
writes_bare noting stack w (trace.push p c e row message) = refl
writes_bare noting stack w (trace.take p c e) = refl
writes_bare noting stack w (trace.output dir kind arguments message) = refl

with_one : (stack : List LayerTree) (w : mean.Written) (o : Operation) →
    w.lines ++ line_of stack w o ∷ [] ≡ w.lines ++ (line_of stack (bare w) o ∷ [])
with_one stack w o = sym (λ t. w.lines ++ line_bare stack w o t ∷ [])

pub writes_lines : (noting : Bool) (stack : List LayerTree) (w : mean.Written) (o : Operation) →
    (writes noting stack w o).lines ≡ w.lines ++ (writes noting stack (bare w) o).lines
writes_lines noting stack w (trace.bind e) = with_one stack w (trace.bind e)
writes_lines false stack w (trace.note m) = sym (append-nil w.lines)
writes_lines true stack w (trace.note m) =
    sym (λ t. w.lines ++ (codes "note " ++ (codes "m." ++ decimal (length w.notes)) ++ codes " = " ++
    message_bare stack w.binds w m t) ∷ [])
writes_lines noting stack w (trace.check e) = with_one stack w (trace.check e)
writes_lines noting stack w (trace.set p c e x) = with_one stack w (trace.set p c e x)
writes_lines noting stack w (trace.set_square p c i j x) = with_one stack w (trace.set_square p c i j x)
writes_lines noting stack w (trace.push p c e row message) = with_one stack w (trace.push p c e row message)
writes_lines noting stack w (trace.take p c e) = with_one stack w (trace.take p c e)
writes_lines noting stack w (trace.output dir kind arguments message) =
    with_one stack w (trace.output dir kind arguments message)

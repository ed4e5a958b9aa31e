-- Operations are read back from their lines.
use Rattle.std.proofs.Common.{◌≡◌, ℕ, zero, suc, ◌+◌, ◌<◌, ◌≤◌, Bool, true, false, not, ◌==◌, List, [], ◌∷◌, ◌++◌}
use Rattle.std.proofs.Common.{map, length, is_some, replicate}
use Rattle.std.proofs.Common.{Option, Some, None, option_map, option_and_then, option_to_list, codes, decimal, refl}
use Rattle.std.proofs.Common.{sym, ap, ◌∙◌, subst, arith, append_assoc, append-nil}
use Rattle.std.specs.Prelude.{if◌then◌else◌}
use Rattle.std.specs.List.{AllByRecursion, list_all}
use Rattle.std.specs.Option.{option_map_or}
use Rattle.std.proofs.lemmas.List.{length-map, length-replicate}
use Rattle.std.proofs.lemmas.List.FromFn.{get_or-map-range_with_len}
use Rattle.layer_words.specs.declared.events.Dir.{Dir}
use Rattle.layer_words.specs.declared.events.Dir.TheVariants.{Up, Down}
use Rattle.layer_words.specs.declared.events.Kind.{Kind}
use Rattle.layer_words.specs.declared.events.Kind.TheVariants as kind
use Rattle.layer_words.specs.Signs.{direction_sign}
use Rattle.layer_words.specs.Spelling.{beside, kinds, kind_word, reserved, symbols}
use Rattle.layer_mean.specs.Event.{carries}
use Rattle.layer_mean.specs.Tree.{Carried, ItemsTree, LayerTree}
use Rattle.trace_mean.specs.Trace as trace
use Rattle.trace_mean.specs.Trace.{Atom, number, Core, body, noted}
use Rattle.trace_mean.specs.Trace.{taken_message, nothing, TraceNumber, element, square, TraceMessage, Link, Chained}
use Rattle.trace_mean.specs.Trace.{Operation, bind, note, check, set, set_square, push, output}
use Rattle.trace_mean.specs.Fuse.{form_at}
use Rattle.trace_form_laws.specs.Names.{AtomNames, SentNames, NumberNames, OperationNames}
use Rattle.trace_form_laws.specs.Closed.{CoreIsMade, IsMade}
use Rattle.trace_form_laws.specs.There.{HasQueue, IsThere}
use Rattle.bypass_mean.specs.Text.{layer_of, bracketed_list, atom_text, core_text, cell_name, cell_text}
use Rattle.layer_words.specs.Spelling.{sign_text}
use Rattle.bypass_mean.specs.Text.{number_text}
use Rattle.bypass_mean.specs.Text.{message_text, following, pushed_text}
use Rattle.pack_mean.specs.Reader.{Reader, ◌>>=◌, yields, option_reader, the_text, is_name_byte, a_name, a_word}
use Rattle.pack_mean.specs.Reader.{nothing_after}
use Rattle.pack_mean.specs.Reader.{each_of}
use Rattle.pack_mean.specs.Named.{Named, items_at, atom_named, core_named, cell_named, kind_named}
use Rattle.pack_mean.specs.Expression.{QueueNamed, Inner, inside, most_brackets, number_of_cell, a_cell, a_number}
use Rattle.pack_mean.specs.Expression.{a_message, a_queue}
use Rattle.pack_mean.specs.Operation.{an_atom, a_core, a_chain, a_chained, row_message, numbers_of, event_message}
use Rattle.pack_mean.specs.Operation.{chained_after, a_row_number}
use Rattle.layer_words.specs.Signs.{directions}
use Rattle.pack_mean.specs.Operation.{setting, operation_by, operation_said}
use Rattle.pack_laws.specs.Written.{note_name, written_with, line_with}
use Rattle.pack_laws.proofs.Spelled.{reach_of}
use Rattle.pack_laws.proofs.Writing.{parted, after_commas, parted_more}
use Rattle.pack_round_laws.specs.Told.{IsWord, AreToldApart}
use Rattle.pack_round_laws.proofs.Fits.{largest_number, AtomFits, CoreFits, NumberFits, SentFits, RowFits}
use Rattle.pack_round_laws.proofs.Fits.{index_brackets}
use Rattle.pack_round_laws.proofs.Fits.{OperationFits}
use Rattle.pack_round_laws.proofs.Front.{Finds, finds_value, finds_then, finds_text, finds_given, finds_known}
use Rattle.pack_round_laws.proofs.Front.{finds_same}
use Rattle.pack_round_laws.proofs.Front.{Stops, run_back, Leads, leads_not, leads_more}
use Rattle.pack_round_laws.proofs.Names.{IsSmall, Messages, atom_names, core_names, cell_names, finds_name, finds_word}
use Rattle.pack_round_laws.proofs.Numbers.{atom_leads, Reads, After, element_after, square_after, queue_back}
use Rattle.pack_round_laws.proofs.Numbers.{number_back, message_back}
use Rattle.pack_round_laws.proofs.Chains.{commas_stop, core_back, each_back, all_atoms, chain_back, chained_back}

-- directions and kinds
direction_back : (dir : Dir) → beside directions (sign_text (direction_sign dir)) ≡ Some dir
unfolding reserved symbols
direction_back Up = refl
direction_back Down = refl

direction_word : (dir : Dir) → list_all (λ byte. not (byte == 32)) (sign_text (direction_sign dir)) ≡ true
unfolding reserved symbols
direction_word Up = refl
direction_word Down = refl

kind_back : (k : Kind) → (kind_named (kind_word k ∷ []) ≡ Some k) × IsWord (kind_word k)
unfolding kinds
kind_back kind.Cast = (refl, refl)
kind_back kind.Send = (refl, refl)
kind_back kind.Timer = (refl, refl)
kind_back kind.Suspect = (refl, refl)
kind_back kind.Stable = (refl, refl)
kind_back kind.Ack = (refl, refl)
kind_back kind.Elect = (refl, refl)
kind_back kind.Block = (refl, refl)
kind_back kind.BlockOk = (refl, refl)
kind_back kind.Flushed = (refl, refl)
kind_back kind.View = (refl, refl)
kind_back kind.Leave = (refl, refl)

-- texts before what follows
set_any : (s t e x rest : List ℕ) → s ++ t ++ e ++ x ++ rest ≡ s ++ (t ++ (e ++ (x ++ rest)))
set_any s t e x rest = simp append_assoc refl

push_any : (s q b o p c rest : List ℕ) → s ++ q ++ b ++ (o ++ p ++ c) ++ rest ≡ s ++
    (q ++ (b ++ (o ++ (p ++ (c ++ rest)))))
push_any s q b o p c rest = simp append_assoc refl

take_any : (s q r n rest : List ℕ) → s ++ q ++ r ++ n ++ rest ≡ s ++ (q ++ ((r ++ n) ++ rest))
take_any s q r n rest = simp append_assoc refl

output_any : (s d b k o p q c h rest : List ℕ) → s ++ d ++ b ++ k ++ (o ++ (p ++ q) ++ c) ++ h ++ rest ≡ s ++
    (d ++ (b ++ (k ++ (o ++ (p ++ (q ++ (c ++ (h ++ rest))))))))
output_any s d b k o p q c h rest = simp append_assoc refl

-- an event has a number
some_numbers : (k : Kind) → numbers_of k ≡ 0 → ⊥
some_numbers kind.Stable none = absurd (omega (arith, none))
some_numbers kind.Ack none = absurd (omega (arith, none))
some_numbers _ none = absurd (omega (arith, none))

module _ (stack : List LayerTree) (told : AreToldApart stack) (few : length stack ≤ largest_number)
    (before : List (List ℕ)) (s : Named)
    (small : IsSmall s) where
  abbrev NumberText : TraceNumber → List ℕ
  NumberText e = number_text stack (written_with before s) e

  abbrev AtomText : Atom → List ℕ
  AtomText a = atom_text (written_with before s) a

  abbrev CoreText : Core → List ℕ
  CoreText c = core_text (written_with before s) c

  abbrev AfterText : List Link → List ℕ
  AfterText chain = following stack (written_with before s) chain

  abbrev PushedText : Chained → List ℕ
  PushedText m = pushed_text stack (written_with before s) m

  abbrev Reading : {A : Type 0} → Reader A → List ℕ → A → Type 0
  Reading read text x = Reads stack told few before s small read text x

  abbrev Made : Atom → Type 0
  Made a = AtomNames (IsMade stack (reach_of s)) a

  -- what is sent: a message after numbers, before a bracket
  record SentCore (o : Option Core) : Type 0 where
    made : AllByRecursion (λ c. CoreIsMade (reach_of s) c) (option_to_list o)
    fits : AllByRecursion (λ c. CoreFits s.rows c) (option_to_list o)

  message_after : (has : Bool) (o : Option Core) (rest : List ℕ) → is_some o ≡ has → SentCore o →
      Finds (event_message s has) (after_commas (map CoreText (option_to_list o)) ++ (41 ∷ rest)) o (41 ∷ rest)
  message_after false None rest is core = finds_value None (41 ∷ rest)
  message_after true None rest is core = absurd (cc is)
  message_after false (Some c) rest is core = absurd (cc is)
  message_after true (Some c) rest is core =
      finds_same (event_message s true) _ (codes "," ++ (CoreText c ++ (41 ∷ rest))) (Some c) (41 ∷ rest)
      (ap (λ l. l ++ (41 ∷ rest)) (append-nil (codes "," ++ CoreText c)))
      (finds_text (codes ",") (λ u. a_core s >>= λ x. yields (Some x)) _ _ _
      (finds_then (a_core s) (λ x. yields (Some x)) _ c _ _ _
      ((core_back stack told few before s small c core.made.0 core.fits.0).said (41 ∷ rest) refl)
      (finds_value (Some c) (41 ∷ rest))))

  numbers_before : (k : Kind) (numbers : List Atom) (rest : List ℕ) → AllByRecursion Made numbers →
      AllByRecursion AtomFits numbers → length numbers ≡ numbers_of k → Stops is_name_byte rest →
      Finds (each_of {B = ℕ} (an_atom s) (replicate (numbers_of k) 0)) (parted (map AtomText numbers) ++ rest) numbers
      rest
  numbers_before k numbers rest made fits count stops =
      each_back stack told few before s small (an_atom s) AtomText numbers (replicate (numbers_of k) 0) rest
      (count ∙ sym (length-replicate {A = ℕ} (numbers_of k) 0))
      (all_atoms stack told few before s small numbers made fits) stops

  sent_text : (k : Kind) (numbers : List Atom) (cores : List (List ℕ)) → length numbers ≡ numbers_of k →
      parted (map AtomText numbers ++ cores) ≡ parted (map AtomText numbers) ++ after_commas cores
  sent_text k [] cores count = absurd (some_numbers k (sym count))
  sent_text k (a ∷ numbers) cores count = sym (parted_more (AtomText a) (map AtomText numbers) cores)

  -- an operation after its word
  abbrev Line : Reader Operation
  Line = a_word >>= operation_by stack s

  led_by : (word rest : List ℕ) (o : Operation) → list_all (λ byte. not (byte == 32)) word ≡ true →
      Stops (λ byte. not (byte == 32)) rest →
      Finds (operation_by stack s word) rest o [] → Finds Line (word ++ rest) o []
  led_by word rest o all stops h = finds_then a_word (operation_by stack s) (word ++ rest) word rest o []
      (run_back (λ byte. not (byte == 32)) word rest all stops) h

  abbrev MadeNumber : TraceNumber → Type 0
  MadeNumber e = NumberNames (IsMade stack (reach_of s)) e

  abbrev ThereNumber : TraceNumber → Type 0
  ThereNumber e = NumberNames (IsThere stack) e

  any_number : (e : TraceNumber) → MadeNumber e → ThereNumber e → NumberFits stack s.rows most_brackets e →
      Reading (a_number stack s) (NumberText e) e
  any_number e made there fits = number_back stack told few before s small most_brackets e made there fits

  an_index : (e : TraceNumber) → MadeNumber e → ThereNumber e → NumberFits stack s.rows index_brackets e →
      Reading (inside stack s most_brackets).number (NumberText e) e
  an_index e made there fits = number_back stack told few before s small index_brackets e made there fits

  all_numbers : (xs : List TraceNumber) → AllByRecursion MadeNumber xs → AllByRecursion ThereNumber xs →
      AllByRecursion (NumberFits stack s.rows index_brackets) xs →
      AllByRecursion (λ e. Reading (a_row_number stack s) (NumberText e) e) xs
  all_numbers [] made there fits = tt
  all_numbers (x ∷ xs) made there fits = (an_index x made.0 there.0 fits.0, all_numbers xs made.1 there.1 fits.1)

  abbrev LineText : Operation → List ℕ
  LineText o = line_with stack before s o

  abbrev IsBack : Operation → Type 0
  IsBack o = Finds Line (LineText o) o []

  bind_back : (e : TraceNumber) → Reading (a_number stack s) (NumberText e) e → IsBack (bind e)
  bind_back e h = finds_same Line _ _ (bind e) []
      (ap (λ l. codes "bind t." ++ decimal s.binds ++ codes " = " ++ l) (sym (append-nil (NumberText e))))
      (led_by (codes "bind") ((codes " t." ++ decimal s.binds ++ codes " = ") ++ (NumberText e ++ [])) (bind e) refl
      refl
      (finds_text (codes " t." ++ decimal s.binds ++ codes " = ") (λ u. a_number stack s >>= λ x. yields (bind x)) _ _ _
      (finds_then (a_number stack s) (λ x. yields (bind x)) _ e _ _ _ (h.said [] tt) (finds_value (bind e) []))))

  note_back : (m : TraceMessage) → Reading (a_message stack s) (message_text stack (written_with before s) m) m →
      IsBack (note m)
  note_back m h = finds_same Line _ _ (note m) []
      (ap (λ l. codes "note m." ++ decimal s.notes ++ codes " = " ++ l)
      (sym (append-nil (message_text stack (written_with before s) m))))
      (led_by (codes "note")
      ((codes " m." ++ decimal s.notes ++ codes " = ") ++ (message_text stack (written_with before s) m ++ []))
      (note m) refl refl
      (finds_text (codes " m." ++ decimal s.notes ++ codes " = ") (λ u. a_message stack s >>= λ x. yields (note x)) _ _
      _
      (finds_then (a_message stack s) (λ x. yields (note x)) _ m _ _ _ (h.said [] tt) (finds_value (note m) []))))

  check_back : (e : TraceNumber) → Reading (a_number stack s) (NumberText e) e → IsBack (check e)
  check_back e h = finds_same Line _ _ (check e) [] (ap (λ l. codes "check " ++ l) (sym (append-nil (NumberText e))))
      (led_by (codes "check") (codes " " ++ (NumberText e ++ [])) (check e) refl refl
      (finds_text (codes " ") (λ u. a_number stack s >>= λ x. yields (check x)) _ _ _
      (finds_then (a_number stack s) (λ x. yields (check x)) _ e _ _ _ (h.said [] tt) (finds_value (check e) []))))

  abbrev Deepest : Inner
  Deepest = inside stack s most_brackets

  -- what is set: a number of a cell
  abbrev Given : TraceNumber → Reader Operation
  Given target = the_text (codes " = ") >>= λ u. a_number stack s >>= λ x. option_reader (setting target x)

  abbrev CellOf : ℕ × ℕ → Reader TraceNumber
  CellOf cell = number_of_cell Deepest cell.0 cell.1 (form_at (layer_of stack cell.0) cell.1)

  set_to : (p c : ℕ) (text : List ℕ) (target x : TraceNumber) (o : Operation) → p < length stack →
      setting target x ≡ Some o →
      Reading (a_number stack s) (NumberText x) x →
      ((rest : List ℕ) → Stops is_name_byte rest → After stack told few before s small
      (number_of_cell Deepest p c (form_at (layer_of stack p) c)) p c text target rest) →
      Finds Line (codes "set " ++ text ++ codes " = " ++ NumberText x) o []
  set_to p c text target x o inside is h after_is =
      let b = after_is (codes " = " ++ (NumberText x ++ [])) refl in
      let n = cell_names stack told few s p c inside b.there in
      finds_same Line _ (codes "set" ++ (codes " " ++ (text ++ (codes " = " ++ (NumberText x ++ []))))) o []
      (sym (append-nil _) ∙ set_any (codes "set ") text (codes " = ") (NumberText x) [])
      (led_by (codes "set") (codes " " ++ (text ++ (codes " = " ++ (NumberText x ++ [])))) o refl refl
      (finds_text (codes " ") (λ u. a_name >>= λ name. a_cell stack Deepest name >>= Given) _ _ _
      (finds_same _ _ _ o [] b.text_is
      (finds_name (cell_named stack) (cell_name stack p c) (p, c) n.names (λ name. a_cell stack Deepest name >>= Given)
      b.more o [] b.stops
      (finds_then (a_cell stack Deepest (n.names.first ∷ n.names.more)) Given b.more target
      (codes " = " ++ (NumberText x ++ [])) o []
      (finds_given (cell_named stack (n.names.first ∷ n.names.more)) CellOf b.more (p, c) target _ n.names.said b.said)
      (finds_text (codes " = ") (λ u. a_number stack s >>= λ y. option_reader (setting target y)) _ _ _
      (finds_then (a_number stack s) (λ y. option_reader (setting target y)) _ x _ _ _ (h.said [] tt)
      (finds_known (setting target x) [] o is))))))))

  -- a row that is pushed
  abbrev RowText : List (List ℕ) → Option Chained → List ℕ
  RowText [] message = parted (map PushedText (option_to_list message))
  RowText (name ∷ names) message = after_commas (map PushedText (option_to_list message))

  abbrev MadeSent : Option Chained → Type 0
  MadeSent message = SentNames (IsMade stack (reach_of s)) message

  message_of_row : (place : ℕ) (names : List (List ℕ)) (carried : Option (List ℕ × Carried))
      (message : Option Chained) → MadeSent message →
      RowFits stack s.rows place carried message →
      Finds (row_message stack s place names carried) (RowText names message ++ codes ")") message (codes ")")
  message_of_row place [] None None made fits = finds_value None (codes ")")
  message_of_row place (name ∷ names) None None made fits = finds_value None (codes ")")
  message_of_row place names None (Some m) made fits = absurd fits
  message_of_row place names (Some carried) None made fits = absurd fits
  message_of_row place [] (Some carried) (Some m) made fits =
      finds_same (row_message stack s place [] (Some carried)) _ (PushedText m ++ codes ")") (Some m) (codes ")")
      (ap (λ l. l ++ codes ")") (append-nil (PushedText m)))
      (finds_then (yields (tt {0})) (λ u. a_chained stack s place >>= λ x. yields (Some x)) _ tt _ _ _
      (finds_value tt (PushedText m ++ codes ")"))
      (finds_then (a_chained stack s place) (λ x. yields (Some x)) _ m _ _ _
      (chained_back stack told few before s small place m (codes ")") fits made refl)
      (finds_value (Some m) (codes ")"))))
  message_of_row place (name ∷ names) (Some carried) (Some m) made fits =
      finds_same (row_message stack s place (name ∷ names) (Some carried)) _ (codes "," ++ (PushedText m ++ codes ")"))
      (Some m) (codes ")")
      (ap (λ l. l ++ codes ")") (append-nil (codes "," ++ PushedText m)))
      (finds_text (codes ",") (λ u. a_chained stack s place >>= λ x. yields (Some x)) _ _ _
      (finds_then (a_chained stack s place) (λ x. yields (Some x)) _ m _ _ _
      (chained_back stack told few before s small place m (codes ")") fits made refl)
      (finds_value (Some m) (codes ")"))))

  abbrev Pushing : QueueNamed → List TraceNumber → Reader Operation
  Pushing q numbers = row_message stack s (q.place + 1) (items_at stack q.place q.cell).numbers
      (items_at stack q.place q.cell).message >>= λ message.
      the_text (codes ")") >>= λ v. yields (push q.place q.cell q.index numbers message)

  abbrev Rows : QueueNamed → Reader Operation
  Rows q = each_of (a_row_number stack s) (items_at stack q.place q.cell).numbers >>= Pushing q

  row_back : (p c : ℕ) (e : TraceNumber) (xs : List TraceNumber) (message : Option Chained) (names : List (List ℕ)) →
      (items_at stack p c).numbers ≡ names → length xs ≡ length names → AllByRecursion
      (λ x. Reading (a_row_number stack s) (NumberText x) x) xs → MadeSent message →
      RowFits stack s.rows (p + 1) (items_at stack p c).message message →
      Finds (each_of (a_row_number stack s) names >>= Pushing (record { place = p; cell = c; index = e }))
      (parted (map NumberText xs ++ map PushedText (option_to_list message)) ++ codes ")") (push p c e xs message) []
  row_back p c e xs message names is same each made fits = go names xs is same each where
    ends : (ns : List (List ℕ)) (ys : List TraceNumber) → (items_at stack p c).numbers ≡ ns →
        Finds (Pushing (record { place = p; cell = c; index = e }) ys) (RowText ns message ++ codes ")")
        (push p c e ys message) []
    ends ns ys is = finds_then (row_message stack s (p + 1) (items_at stack p c).numbers (items_at stack p c).message)
        (λ m. the_text (codes ")") >>= λ v. yields (push p c e ys m)) _ message (codes ")") _ _
        (subst (λ k. Finds (row_message stack s (p + 1) k (items_at stack p c).message)
        (RowText ns message ++ codes ")") message (codes ")")) (sym is)
        (message_of_row (p + 1) ns (items_at stack p c).message message made fits))
        (finds_text (codes ")") (λ v. yields (push p c e ys message)) [] _ _ (finds_value (push p c e ys message) []))

    go : (ns : List (List ℕ)) (ys : List TraceNumber) → (items_at stack p c).numbers ≡ ns → length ys ≡ length ns →
        AllByRecursion (λ x. Reading (a_row_number stack s) (NumberText x) x) ys →
        Finds (each_of {B = List ℕ} (a_row_number stack s) ns >>= Pushing (record { place = p; cell = c; index = e }))
        (parted (map NumberText ys ++ map PushedText (option_to_list message)) ++ codes ")") (push p c e ys message) []
    go [] [] is same each = finds_then (each_of {B = List ℕ} (a_row_number stack s) [])
        (Pushing (record { place = p; cell = c; index = e })) _ [] _ _ _
        (finds_value [] (parted (map PushedText (option_to_list message)) ++ codes ")")) (ends [] [] is)
    go [] (y ∷ ys) is same each = absurd (omega (arith, same))
    go (n ∷ ns) [] is same each = absurd (omega (arith, same))
    go (n ∷ ns) (y ∷ ys) is same each =
        finds_same _ _ (parted (map NumberText (y ∷ ys)) ++ (RowText (n ∷ ns) message ++ codes ")")) _ []
        (ap (λ l. l ++ codes ")")
        (sym (parted_more (NumberText y) (map NumberText ys) (map PushedText (option_to_list message)))) ∙
        append_assoc (parted (map NumberText (y ∷ ys))) (RowText (n ∷ ns) message) (codes ")"))
        (finds_then (each_of {B = List ℕ} (a_row_number stack s) (n ∷ ns))
        (Pushing (record { place = p; cell = c; index = e })) _ (y ∷ ys) _ _ _
        (each_back stack told few before s small (a_row_number stack s) NumberText (y ∷ ys) (n ∷ ns) _ same each
        (commas_stop (map PushedText (option_to_list message)) (codes ")") refl)) (ends (n ∷ ns) (y ∷ ys) is))

  abbrev QueueText : ℕ → ℕ → TraceNumber → List ℕ
  QueueText p c e = cell_text stack p c (NumberText e)

  push_back : (p c : ℕ) (e : TraceNumber) (xs : List TraceNumber) (message : Option Chained) →
      Reading (a_queue stack s) (QueueText p c e) (record { place = p; cell = c; index = e }) →
      length xs ≡ length (items_at stack p c).numbers →
      AllByRecursion (λ x. Reading (a_row_number stack s) (NumberText x) x) xs → MadeSent message →
      RowFits stack s.rows (p + 1) (items_at stack p c).message message → IsBack (push p c e xs message)
  push_back p c e xs message q same each made fits =
      let row = parted (map NumberText xs ++ map PushedText (option_to_list message)) in
      finds_same Line _ (codes "push" ++ (codes " " ++ (QueueText p c e ++ (codes " (" ++ (row ++ codes ")"))))) _ []
      (sym (append-nil _) ∙ push_any (codes "push ") (QueueText p c e) (codes " ") (codes "(") row (codes ")") [])
      (led_by (codes "push") (codes " " ++ (QueueText p c e ++ (codes " (" ++ (row ++ codes ")"))))
      (push p c e xs message) refl refl
      (finds_text (codes " ") (λ u. a_queue stack s >>= λ x. the_text (codes " (") >>= λ v. Rows x) _ _ _
      (finds_then (a_queue stack s) (λ x. the_text (codes " (") >>= λ v. Rows x) _ _ _ _ _
      (q.said (codes " (" ++ (row ++ codes ")")) refl)
      (finds_text (codes " (") (λ v. Rows (record { place = p; cell = c; index = e })) _ _ _
      (row_back p c e xs message (items_at stack p c).numbers refl same each made fits)))))

  take_back : (p c : ℕ) (e : TraceNumber) →
      Reading (a_queue stack s) (QueueText p c e) (record { place = p; cell = c; index = e }) →
      IsBack (trace.take p c e)
  take_back p c e q =
      let name = codes " row." ++ decimal (length s.rows) in
      finds_same Line _ (codes "take" ++ (codes " " ++ (QueueText p c e ++ (name ++ [])))) _ []
      (ap (λ n. codes "take " ++ QueueText p c e ++ codes " row." ++ decimal n)
      (length-map s.rows (λ (items : ItemsTree). items.numbers)) ∙
      sym (append-nil _) ∙ take_any (codes "take ") (QueueText p c e) (codes " row.") (decimal (length s.rows)) [])
      (led_by (codes "take") (codes " " ++ (QueueText p c e ++ (name ++ []))) (trace.take p c e) refl refl
      (finds_text (codes " ") (λ u. a_queue stack s >>= λ x. the_text (codes " row." ++ decimal (length s.rows)) >>=
      λ v. yields
      (trace.take x.place x.cell x.index)) _ _ _
      (finds_then (a_queue stack s) (λ x. the_text (codes " row." ++ decimal (length s.rows)) >>= λ v.
      yields (trace.take x.place x.cell x.index)) _ _ _ _ _
      (q.said (name ++ []) refl)
      (finds_text name (λ v. yields (trace.take p c e)) [] _ _ (finds_value (trace.take p c e) [])))))

  -- what is put out
  sent_core : (dir : Dir) (message : Option Chained) → MadeSent message → SentFits stack s.rows dir message →
      SentCore (option_map (λ m. m.core) message)
  sent_core dir None made fits = record { made = tt; fits = tt }
  sent_core Down (Some m) made fits = record { made = (made.core_is, tt); fits = (fits.core_fits, tt) }
  sent_core Up (Some m) made fits = record { made = (made.core_is, tt); fits = (fits.0, tt) }

  bare_is : (c : Core) (chain : List Link) → chain ≡ [] →
      Finds (chained_after stack s Up (Some c)) (AfterText chain ++ []) (Some (record { chain = chain; core = c })) []
  bare_is c [] none = record { said = refl }
  bare_is c (l ∷ ls) none = absurd (cc none)

  chained_is : (dir : Dir) (message : Option Chained) → MadeSent message → SentFits stack s.rows dir message →
      Finds (chained_after stack s dir (option_map (λ m. m.core) message))
      (option_map_or (λ (m : Chained). AfterText m.chain) message [] ++ []) message []
  chained_is dir None made fits = finds_value None []
  chained_is Down (Some m) made fits =
      finds_then (a_chain stack s 0) (λ chain. yields (Some (record { chain = chain; core = m.core }))) _ m.chain _ _ _
      (chain_back stack told few before s small 0 m.chain [] fits.chain_fits made.chain_is tt) (finds_value (Some m) [])
  chained_is Up (Some m) made fits = bare_is m.core m.chain fits.1

  cores_are : (message : Option Chained) →
      map (λ (m : Chained). core_text (written_with before s) m.core) (option_to_list message) ≡
      map CoreText (option_to_list (option_map (λ m. m.core) message))
  cores_are None = refl
  cores_are (Some m) = refl

  core_has : (message : Option Chained) → is_some (option_map (λ (m : Chained). m.core) message) ≡ is_some message
  core_has None = refl
  core_has (Some m) = refl

  abbrev Sending : Dir → Kind → List Atom → Option Core → Reader Operation
  Sending dir k numbers core = the_text (codes ")") >>= λ v. chained_after stack s dir core >>= λ message.
      yields (output dir k numbers message)

  abbrev Carrying : Dir → Kind → List Atom → Reader Operation
  Carrying dir k numbers = event_message s (carries k) >>= Sending dir k numbers

  abbrev KindOf : Dir → Kind → Reader Operation
  KindOf dir k = the_text (codes "(") >>= λ v. each_of {B = ℕ} (an_atom s) (replicate (numbers_of k) 0) >>=
      Carrying dir k

  abbrev KindAfter : Dir → Reader Operation
  KindAfter dir = the_text (codes " ") >>= λ u. a_name >>= λ name. option_reader (kind_named name) >>= KindOf dir

  -- what stands in the brackets, and after them
  sent_back : (dir : Dir) (k : Kind) (numbers : List Atom) (message : Option Chained) → AllByRecursion Made numbers →
      MadeSent message → length numbers ≡ numbers_of k → is_some message ≡ carries k →
      AllByRecursion AtomFits numbers → SentFits stack s.rows dir message →
      Finds (each_of {B = ℕ} (an_atom s) (replicate (numbers_of k) 0) >>= Carrying dir k)
      (parted (map AtomText numbers) ++ (after_commas (map CoreText (option_to_list (option_map (λ m. m.core) message)))
      ++ (codes ")" ++ (option_map_or (λ (m : Chained). AfterText m.chain) message [] ++ []))))
      (output dir k numbers message) []
  sent_back dir k numbers message made made_sent count carried fits sent =
      let o = option_map (λ (m : Chained). m.core) message in
      let b = option_map_or (λ (m : Chained). AfterText m.chain) message [] in
      finds_then (each_of {B = ℕ} (an_atom s) (replicate (numbers_of k) 0)) (Carrying dir k) _ numbers _ _ _
      (numbers_before k numbers _ made fits count (commas_stop (map CoreText (option_to_list o)) (41 ∷ (b ++ [])) refl))
      (finds_then (event_message s (carries k)) (Sending dir k numbers) _ o _ _ _
      (message_after (carries k) o (b ++ []) (core_has message ∙ carried) (sent_core dir message made_sent sent))
      (finds_text (codes ")") (λ v. chained_after stack s dir o >>= λ x. yields (output dir k numbers x)) _ _ _
      (finds_then (chained_after stack s dir o) (λ x. yields (output dir k numbers x)) _ message _ _ _
      (chained_is dir message made_sent sent) (finds_value (output dir k numbers message) []))))

  output_back : (dir : Dir) (k : Kind) (numbers : List Atom) (message : Option Chained) → AllByRecursion Made numbers →
      MadeSent message → length numbers ≡ numbers_of k → is_some message ≡ carries k →
      AllByRecursion AtomFits numbers → SentFits stack s.rows dir message →
      IsBack (output dir k numbers message)
  output_back dir k numbers message made made_sent count carried fits sent =
      let ns = parted (map AtomText numbers) in
      let cs = after_commas (map CoreText (option_to_list (option_map (λ (m : Chained). m.core) message))) in
      let b = option_map_or (λ (m : Chained). AfterText m.chain) message [] in
      let d = sign_text (direction_sign dir) in
      let kinds_back = kind_back k in
      finds_same Line _ (codes "out" ++
      (codes " " ++ (d ++ (codes " " ++ (kind_word k ++ (codes "(" ++ (ns ++ (cs ++ (codes ")" ++ (b ++ []))))))))))
      _ []
      (ap (λ l. codes "out " ++ d ++ codes " " ++ kind_word k ++ (codes "(" ++ l ++ codes ")") ++ b)
      (ap (λ l. parted (map AtomText numbers ++ l)) (cores_are message) ∙ sent_text k numbers _ count) ∙
      sym (append-nil _) ∙ output_any (codes "out ") d (codes " ") (kind_word k) (codes "(") ns cs (codes ")") b [])
      (led_by (codes "out")
      (codes " " ++ (d ++ (codes " " ++ (kind_word k ++ (codes "(" ++ (ns ++ (cs ++ (codes ")" ++ (b ++ [])))))))))
      (output dir k numbers message) refl refl
      (finds_text (codes " ") (λ u. a_word >>= λ direction. option_reader (beside directions direction) >>= KindAfter)
      _ _ _
      (finds_then a_word (λ direction. option_reader (beside directions direction) >>= KindAfter) _ d _ _ _
      (run_back (λ byte. not (byte == 32)) d _ (direction_word dir) refl)
      (finds_given (beside directions d) KindAfter _ dir _ _ (direction_back dir)
      (finds_text (codes " ") (λ u. a_name >>= λ name. option_reader (kind_named name) >>= KindOf dir) _ _ _
      (finds_word (kind_word k) (λ name. option_reader (kind_named name) >>= KindOf dir) _ _ _ kinds_back.1 refl
      (finds_given (kind_named (kind_word k ∷ [])) (KindOf dir) _ k _ _ kinds_back.0
      (finds_text (codes "(") (λ v. each_of {B = ℕ} (an_atom s) (replicate (numbers_of k) 0) >>= Carrying dir k) _ _ _
      (sent_back dir k numbers message made made_sent count carried fits sent)))))))))

  queue_at : (p c : ℕ) (e : TraceNumber) → p < length stack → MadeNumber e → HasQueue (layer_of stack p) c e →
      ThereNumber e →
      NumberFits stack s.rows index_brackets e →
      Reading (a_queue stack s) (QueueText p c e) (record { place = p; cell = c; index = e })
  queue_at p c e inside made has there fits = queue_back stack told few before s small Deepest p c e inside has
      (an_index e made there fits)

  line_back : (o : Operation) → OperationNames (IsMade stack (reach_of s)) o → OperationNames (IsThere stack) o →
      OperationFits stack s.rows o → IsBack o
  line_back (bind e) made there fits = bind_back e (any_number e made there fits)
  line_back (note m) made there fits =
      note_back m (message_back stack told few before s small most_brackets m made there fits)
  line_back (check e) made there fits = check_back e (any_number e made there fits)
  line_back (set p c e x) made there fits = set_to p c (cell_text stack p c (NumberText e)) (element p c e) x
      (set p c e x) made.0 refl
      (any_number x made.2 there.2 fits.1)
      (λ rest stops. element_after stack told few before s small Deepest p c e rest there.0
      (an_index e made.1 there.1 fits.0) stops)
  line_back (set_square p c a b x) made there fits = set_to p c (NumberText (square p c a b)) (square p c a b) x
      (set_square p c a b x) made.0 refl
      (any_number x made.3 there.3 fits.2)
      (λ rest stops. square_after stack told few before s small Deepest p c a b rest there.0
      (an_index a made.1 there.1 fits.0)
      (an_index b made.2 there.2 fits.1))
  line_back (push p c e xs message) made there fits =
      push_back p c e xs message (queue_at p c e made.0 made.1 there.0 there.1 fits.0) fits.2
      (all_numbers xs made.2 there.2 fits.1) made.3 fits.3
  line_back (trace.take p c e) made there fits = take_back p c e (queue_at p c e made.0 made.1 there.0 there.1 fits)
  line_back (output dir k numbers message) made there fits =
      output_back dir k numbers message made.0 made.1 fits.0 fits.1 fits.2 fits.3

  -- an operation's line says it
  pub operation_back : (o : Operation) → OperationNames (IsMade stack (reach_of s)) o →
      OperationNames (IsThere stack) o → OperationFits stack s.rows o →
      operation_said stack s (line_with stack before s o) ≡ Some o
  operation_back o made there fits = ap (option_and_then nothing_after) (line_back o made there fits).said

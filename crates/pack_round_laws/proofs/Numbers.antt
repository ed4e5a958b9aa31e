-- Numbers and messages are read back as they were written.
use Rattle.std.proofs.Common.{◌≡◌, ℕ, zero, suc, ◌<◌, ◌≤◌, true, not, ◌==◌, List, [], ◌∷◌, ◌++◌, length, slice_get}
use Rattle.std.proofs.Common.{slice_index_or, Option, Some, None, option_map, option_and_then, unwrap_or, codes, refl}
use Rattle.std.proofs.Common.{sym, ap, ◌∙◌, subst, arith, append_assoc, append-nil, inl, inr}
use Rattle.std.specs.Prelude.{if◌then◌else◌}
use Rattle.std.specs.List.{list_all}
use Rattle.layer_words.specs.declared.operators.Function.{Function}
use Rattle.layer_words.specs.declared.operators.Function.TheVariants.{Not, Bit, Count, Lowest}
use Rattle.layer_words.specs.declared.operators.Operator.{Operator}
use Rattle.layer_words.specs.declared.operators.Operator.TheVariants.{Add, Subtract, Multiply, Equal, NotEqual, Less}
use Rattle.layer_words.specs.declared.operators.Operator.TheVariants.{LessOrEqual, Greater, GreaterOrEqual, And, Or}
use Rattle.layer_words.specs.declared.operators.Operator.TheVariants.{BitAnd}
use Rattle.layer_words.specs.declared.operators.Operator.TheVariants.{BitOr, BitXor}
use Rattle.layer_words.specs.declared.sorts.Shape.TheVariants.{One, Array, Square}
use Rattle.layer_words.specs.Signs.{function_sign, operator_sign}
use Rattle.layer_words.specs.Spelling.{reserved, symbols}
use Rattle.layer_mean.specs.Tree.{Carried, CellTree, Form, ItemsTree, LayerTree, numbers, queue, queues}
use Rattle.chain_laws.specs.Named as named
use Rattle.chain_laws.specs.Named.{shape_in, alone_in, among_in}
use Rattle.trace_mean.specs.Trace.{Atom, number, peer, field, bound, taken_number, value, TraceNumber, atom, me, count}
use Rattle.trace_mean.specs.Trace.{ltime, element, square, rows, item, size, binary, apply, pick, TraceMessage, core}
use Rattle.trace_mean.specs.Trace.{held, cut, tail, join}
use Rattle.trace_mean.specs.Fuse.{form_at}
use Rattle.trace_form_laws.specs.Names.{NumberNames, MessageNames}
use Rattle.trace_form_laws.specs.Closed.{AtomIsMade, IsMade}
use Rattle.trace_form_laws.specs.There.{HasNumber, HasSquare, HasRows, HasQueue, IsThere}
use Rattle.bypass_mean.specs.Text.{layer_of, bracketed_index, bracketed_list, with_index, cell_name, cell_text}
use Rattle.bypass_mean.specs.Text.{number_text}
use Rattle.bypass_mean.specs.Text.{message_text}
use Rattle.layer_words.specs.Spelling.{sign_text}
use Rattle.pack_mean.specs.Reader.{Reader, ◌>>=◌, yields, option_reader, the_text, is_name_byte, a_name, a_word}
use Rattle.pack_mean.specs.Named.{Named, items_in, no_items, items_at, atom_named, core_named, cell_named}
use Rattle.pack_mean.specs.Named.{function_named, operator_named}
use Rattle.pack_mean.specs.Expression.{QueueNamed, Inner, an_index, number_of_cell, index_of_queue, queue_with}
use Rattle.pack_mean.specs.Expression.{item_named, an_application, an_operation, begun_by, number_named, number_with}
use Rattle.pack_mean.specs.Expression.{held_in, built_by, message_named, message_with, inside}
use Rattle.pack_laws.specs.Written.{written_with}
use Rattle.pack_laws.proofs.Spelled.{reach_of}
use Rattle.pack_laws.proofs.Words.{called}
use Rattle.pack_round_laws.specs.Told.{IsWord, AreToldApart}
use Rattle.pack_round_laws.proofs.Fits.{largest_number, AtomFits, NumberFits, MessageFits}
use Rattle.pack_round_laws.proofs.Front.{Finds, finds_value, finds_then, finds_text, finds_given, finds_known}
use Rattle.pack_round_laws.proofs.Front.{finds_same}
use Rattle.pack_round_laws.proofs.Front.{Stops, run_back, Leads, leads_not, decimal_leads}
use Rattle.pack_round_laws.proofs.Names.{all_at, place_back, IsSmall, atom_names, core_names, cell_names, rows_told}
use Rattle.pack_round_laws.proofs.Names.{finds_name, finds_word}

-- what stands in brackets, whatever signs these are, before what follows
one_any : (f o a c rest : List ℕ) → f ++ (o ++ (a ++ []) ++ c) ++ rest ≡ f ++ (o ++ (a ++ (c ++ rest)))
one_any f o a c rest = simp (append_assoc, append-nil) refl

two_any : (f o a m b c rest : List ℕ) → f ++ (o ++ (a ++ ((m ++ b) ++ [])) ++ c) ++ rest ≡ f ++
    (o ++ (a ++ (m ++ (b ++ (c ++ rest)))))
two_any f o a m b c rest = simp (append_assoc, append-nil) refl

three_any : (f o a m b d c rest : List ℕ) →
    f ++ (o ++ (a ++ ((m ++ b) ++ ((m ++ d) ++ []))) ++ c) ++ rest ≡ f ++
    (o ++ (a ++ (m ++ (b ++ (m ++ (d ++ (c ++ rest)))))))
three_any f o a m b d c rest = simp (append_assoc, append-nil) refl

index_any : (f o a c rest : List ℕ) → f ++ (o ++ a ++ c) ++ rest ≡ f ++ (o ++ (a ++ (c ++ rest)))
index_any f o a c rest = simp append_assoc refl

square_any : (f o a c b rest : List ℕ) → f ++ (o ++ a ++ c) ++ (o ++ b ++ c) ++ rest ≡ f ++
    (o ++ (a ++ (c ++ (o ++ (b ++ (c ++ rest))))))
square_any f o a c b rest = simp append_assoc refl

operation_any : (p a m o b c rest : List ℕ) → p ++ a ++ m ++ o ++ m ++ b ++ c ++ rest ≡ p ++
    (a ++ (m ++ (o ++ (m ++ (b ++ (c ++ rest))))))
operation_any p a m o b c rest = simp append_assoc refl

item_any : (f o a m b c d n rest : List ℕ) →
    f ++ (o ++ (a ++ ((m ++ b) ++ [])) ++ c) ++ d ++ n ++ rest ≡ f ++
    (o ++ (a ++ (m ++ (b ++ (c ++ (d ++ (n ++ rest)))))))
item_any f o a m b c d n rest = simp (append_assoc, append-nil) refl

one_text : (f a rest : List ℕ) → f ++ bracketed_list (a ∷ []) ++ rest ≡ f ++ (codes "(" ++ (a ++ (codes ")" ++ rest)))
one_text f a rest = one_any f (codes "(") a (codes ")") rest

two_text : (f a b rest : List ℕ) → f ++ bracketed_list (a ∷ b ∷ []) ++ rest ≡ f ++
    (codes "(" ++ (a ++ (codes "," ++ (b ++ (codes ")" ++ rest)))))
two_text f a b rest = two_any f (codes "(") a (codes ",") b (codes ")") rest

three_text : (f a b c rest : List ℕ) →
    f ++ bracketed_list (a ∷ b ∷ c ∷ []) ++ rest ≡ f ++
    (codes "(" ++ (a ++ (codes "," ++ (b ++ (codes "," ++ (c ++ (codes ")" ++ rest)))))))
three_text f a b c rest = three_any f (codes "(") a (codes ",") b c (codes ")") rest

item_text : (q r n rest : List ℕ) → codes "at" ++ bracketed_list (q ∷ r ∷ []) ++ codes "." ++ n ++ rest ≡
    codes "at" ++ (codes "(" ++ (q ++ (codes "," ++ (r ++ (codes ")." ++ (n ++ rest))))))
item_text q r n rest = item_any (codes "at") (codes "(") q (codes ",") r (codes ")") (codes ".") n rest

index_text : (f a rest : List ℕ) → f ++ bracketed_index a ++ rest ≡ f ++ (codes "[" ++ (a ++ (codes "]" ++ rest)))
index_text f a rest = index_any f (codes "[") a (codes "]") rest

square_text : (f a b rest : List ℕ) →
    f ++ bracketed_index a ++ bracketed_index b ++ rest ≡ f ++
    (codes "[" ++ (a ++ (codes "]" ++ (codes "[" ++ (b ++ (codes "]" ++ rest))))))
square_text f a b rest = square_any f (codes "[") a (codes "]") b rest

operation_text : (a o b rest : List ℕ) → codes "(" ++ a ++ codes " " ++ o ++ codes " " ++ b ++ codes ")" ++ rest ≡
    codes "(" ++ (a ++ (codes " " ++ (o ++ (codes " " ++ (b ++ (codes ")" ++ rest))))))
operation_text a o b rest = operation_any (codes "(") a (codes " ") o b (codes ")") rest

-- operators and functions
operator_back : (o : Operator) → operator_named (sign_text (operator_sign o)) ≡ Some o
unfolding reserved symbols
operator_back Add = refl
operator_back Subtract = refl
operator_back Multiply = refl
operator_back Equal = refl
operator_back NotEqual = refl
operator_back Less = refl
operator_back LessOrEqual = refl
operator_back Greater = refl
operator_back GreaterOrEqual = refl
operator_back And = refl
operator_back Or = refl
operator_back BitAnd = refl
operator_back BitOr = refl
operator_back BitXor = refl

operator_word : (o : Operator) → list_all (λ byte. not (byte == 32)) (sign_text (operator_sign o)) ≡ true
unfolding reserved symbols
operator_word Add = refl
operator_word Subtract = refl
operator_word Multiply = refl
operator_word Equal = refl
operator_word NotEqual = refl
operator_word Less = refl
operator_word LessOrEqual = refl
operator_word Greater = refl
operator_word GreaterOrEqual = refl
operator_word And = refl
operator_word Or = refl
operator_word BitAnd = refl
operator_word BitOr = refl
operator_word BitXor = refl

record Applied (stack : List LayerTree) (s : Named) (f : Function) : Type 0 where
  word : List ℕ
  text_is : sign_text (function_sign f) ≡ word
  is_word : IsWord word
  leads : Leads word
  no_number : atom_named s (word ∷ []) ≡ None
  begins : (inner : Inner) → begun_by stack inner (word ∷ []) ≡
      (option_reader (function_named (word ∷ [])) >>= an_application inner)
  said : function_named (word ∷ []) ≡ Some f

applied : (stack : List LayerTree) (s : Named) (f : Function) → Applied stack s f
unfolding reserved symbols
applied stack s Not =
    record {
      word = codes "not";
      text_is = refl;
      is_word = refl;
      leads = refl;
      no_number = refl;
      begins = λ inner.
          refl;
      said = refl;
    }
applied stack s Bit =
    record {
      word = codes "bit";
      text_is = refl;
      is_word = refl;
      leads = refl;
      no_number = refl;
      begins = λ inner.
          refl;
      said = refl;
    }
applied stack s Count =
    record {
      word = codes "count";
      text_is = refl;
      is_word = refl;
      leads = refl;
      no_number = refl;
      begins = λ inner.
          refl;
      said = refl;
    }
applied stack s Lowest =
    record {
      word = codes "lowest";
      text_is = refl;
      is_word = refl;
      leads = refl;
      no_number = refl;
      begins = λ inner.
          refl;
      said = refl;
    }

-- the form of a cell that is there
pub record FormAt {A : Type 0} (f : Form → Option A) (layer : LayerTree) (c : ℕ) (x : A) : Type 0 where
  pub form : Form
  pub is : form_at layer c ≡ Some form
  pub there : c < length layer.cells
  pub so : f form ≡ Some x

found : (cells : List CellTree) (c : ℕ) (cell : CellTree) → slice_get cells c ≡ Some cell → c < length cells
found [] c cell is = absurd (cc is)
found (x ∷ cells) zero cell is = omega arith
found (x ∷ cells) (suc c) cell is = let more = found cells c cell is in omega (arith, more)

pub form_of : {A : Type 0} (f : Form → Option A) (layer : LayerTree) (c : ℕ) (x : A) →
    named.form_at f layer c ≡ Some x → FormAt f layer c x
form_of f layer c x is = go (slice_get layer.cells c) refl is where
  go : (o : Option CellTree) → slice_get layer.cells c ≡ o → option_and_then (λ cell. f cell.form) o ≡ Some x →
      FormAt f layer c x
  go None e h = absurd (cc h)
  go (Some cell) e h = record {
    form = cell.form;
    is = ap (λ o. option_map (λ (y : CellTree). y.form) o) e;
    there =
        found layer.cells c cell e;
    so = h;
  }

module _ (stack : List LayerTree) (told : AreToldApart stack) (few : length stack ≤ largest_number)
    (before : List (List ℕ)) (s : Named)
    (small : IsSmall s) where
  abbrev pub NumberText : TraceNumber → List ℕ
  NumberText e = number_text stack (written_with before s) e

  abbrev pub MessageText : TraceMessage → List ℕ
  MessageText m = message_text stack (written_with before s) m

  abbrev pub QueueText : ℕ → ℕ → TraceNumber → List ℕ
  QueueText p c e = cell_text stack p c (NumberText e)

  -- before what ends a name, a reader finds this in its text
  pub record Reads {A : Type 0} (read : Reader A) (text : List ℕ) (x : A) : Type 0 where
    pub said : (rest : List ℕ) → Stops is_name_byte rest → Finds read (text ++ rest) x rest

  -- after a cell's name a reader finds what its text says
  pub record After {A : Type 0} (read : Reader A) (p c : ℕ) (text : List ℕ) (x : A) (rest : List ℕ) : Type 0 where
    pub there : c < length (layer_of stack p).cells
    pub more : List ℕ
    pub text_is : text ++ rest ≡ cell_name stack p c ++ more
    pub stops : Stops is_name_byte more
    pub said : Finds read more x rest

  module _ (inner : Inner) where
    index_back : (e : TraceNumber) (rest : List ℕ) → Reads inner.number (NumberText e) e →
        Finds (an_index inner) (codes "[" ++ (NumberText e ++ (codes "]" ++ rest))) e rest
    index_back e rest h =
        finds_text (codes "[") _ _ _ _ (finds_then inner.number _ _ e _ _ _ (h.said (codes "]" ++ rest) refl)
        (finds_text (codes "]") _ _ _ _ (finds_value e rest)))

    one_of : (p c : ℕ) (form : Form) (rest : List ℕ) → shape_in form ≡ Some One →
        Finds (number_of_cell inner p c (Some form)) rest (element p c (atom (number 0))) rest
    one_of p c (numbers One initial) rest is = finds_value _ rest
    one_of p c (numbers Array initial) rest is = absurd (cc is)
    one_of p c (numbers Square initial) rest is = absurd (cc is)
    one_of p c (queue capacity items) rest is = absurd (cc is)
    one_of p c (queues capacity items) rest is = absurd (cc is)

    one_shown : (form : Form) (name index : List ℕ) → shape_in form ≡ Some One → with_index (Some form) name index ≡
        name
    one_shown (numbers One initial) name index is = refl
    one_shown (numbers Array initial) name index is = absurd (cc is)
    one_shown (numbers Square initial) name index is = absurd (cc is)
    one_shown (queue capacity items) name index is = absurd (cc is)
    one_shown (queues capacity items) name index is = absurd (cc is)

    array_of : (p c : ℕ) (form : Form) (e : TraceNumber) (rest : List ℕ) → shape_in form ≡ Some Array →
        Reads inner.number (NumberText e) e →
        Finds (number_of_cell inner p c (Some form)) (codes "[" ++ (NumberText e ++ (codes "]" ++ rest)))
        (element p c e) rest
    array_of p c (numbers One initial) e rest is h = absurd (cc is)
    array_of p c (numbers Array initial) e rest is h = finds_then (an_index inner) _ _ e rest _ _ (index_back e rest h)
        (finds_value _ rest)
    array_of p c (numbers Square initial) e rest is h = absurd (cc is)
    array_of p c (queue capacity items) e rest is h = absurd (cc is)
    array_of p c (queues capacity items) e rest is h = absurd (cc is)

    array_shown : (form : Form) (name index : List ℕ) → shape_in form ≡ Some Array → with_index (Some form) name index ≡
        name ++ bracketed_index index
    array_shown (numbers One initial) name index is = absurd (cc is)
    array_shown (numbers Array initial) name index is = refl
    array_shown (numbers Square initial) name index is = absurd (cc is)
    array_shown (queue capacity items) name index is = absurd (cc is)
    array_shown (queues capacity items) name index is = absurd (cc is)

    square_of : (p c : ℕ) (form : Form) (a b : TraceNumber) (rest : List ℕ) → shape_in form ≡ Some Square →
        Reads inner.number (NumberText a) a →
        Reads inner.number (NumberText b) b →
        Finds (number_of_cell inner p c (Some form))
        (codes "[" ++ (NumberText a ++ (codes "]" ++ (codes "[" ++ (NumberText b ++ (codes "]" ++ rest))))))
        (square p c a b) rest
    square_of p c (numbers One initial) a b rest is h k = absurd (cc is)
    square_of p c (numbers Array initial) a b rest is h k = absurd (cc is)
    square_of p c (numbers Square initial) a b rest is h k = finds_then (an_index inner) _ _ a _ _ _ (index_back a _ h)
        (finds_then (an_index inner) _ _ b rest _ _ (index_back b rest k) (finds_value _ rest))
    square_of p c (queue capacity items) a b rest is h k = absurd (cc is)
    square_of p c (queues capacity items) a b rest is h k = absurd (cc is)

    alone_of : (p c : ℕ) (form : Form) (items : ItemsTree) (rest : List ℕ) → alone_in form ≡ Some items →
        Finds (index_of_queue inner p c (Some form)) rest (record { place = p; cell = c; index = atom (number 0) }) rest
    alone_of p c (numbers shape initial) items rest is = absurd (cc is)
    alone_of p c (queue capacity own) items rest is = finds_value _ rest
    alone_of p c (queues capacity own) items rest is = absurd (cc is)

    alone_shown : (form : Form) (items : ItemsTree) (name index : List ℕ) → alone_in form ≡ Some items →
        with_index (Some form) name index ≡ name
    alone_shown (numbers shape initial) items name index is = absurd (cc is)
    alone_shown (queue capacity own) items name index is = refl
    alone_shown (queues capacity own) items name index is = absurd (cc is)

    among_of : (p c : ℕ) (form : Form) (items : ItemsTree) (e : TraceNumber) (rest : List ℕ) →
        among_in form ≡ Some items →
        Reads inner.number (NumberText e) e →
        Finds (index_of_queue inner p c (Some form)) (codes "[" ++ (NumberText e ++ (codes "]" ++ rest)))
        (record { place = p; cell = c; index = e }) rest
    among_of p c (numbers shape initial) items e rest is h = absurd (cc is)
    among_of p c (queue capacity own) items e rest is h = absurd (cc is)
    among_of p c (queues capacity own) items e rest is h =
        finds_then (an_index inner) _ _ e rest _ _ (index_back e rest h) (finds_value _ rest)

    among_shown : (form : Form) (items : ItemsTree) (name index : List ℕ) → among_in form ≡ Some items →
        with_index (Some form) name index ≡ name ++ bracketed_index index
    among_shown (numbers shape initial) items name index is = absurd (cc is)
    among_shown (queue capacity own) items name index is = absurd (cc is)
    among_shown (queues capacity own) items name index is = refl

    -- after the names of cells and queues
    pub element_after : (p c : ℕ) (e : TraceNumber) (rest : List ℕ) → HasNumber (layer_of stack p) c e →
        Reads inner.number (NumberText e) e →
        Stops is_name_byte rest →
        After (number_of_cell inner p c (form_at (layer_of stack p) c)) p c (cell_text stack p c (NumberText e))
        (element p c e) rest
    element_after p c e rest (inl one) h stops = let f = form_of shape_in (layer_of stack p) c One one.0 in record {
      there = f.there;
      more = rest;
      text_is = ap (λ o. with_index o (cell_name stack p c) (NumberText e) ++ rest) f.is ∙
          ap (λ l. l ++ rest) (one_shown f.form (cell_name stack p c) (NumberText e) f.so);
      stops = stops;
      said = subst (λ i. Finds (number_of_cell inner p c (form_at (layer_of stack p) c)) rest (element p c i) rest)
          (sym one.1)
          (subst (λ o. Finds (number_of_cell inner p c o) rest (element p c (atom (number 0))) rest) (sym f.is)
          (one_of p c f.form rest f.so));
    }
    element_after p c e rest (inr array) h stops = let f = form_of shape_in (layer_of stack p) c Array array in
        record {
          there = f.there;
          more = codes "[" ++ (NumberText e ++ (codes "]" ++ rest));
          text_is = ap (λ o. with_index o (cell_name stack p c) (NumberText e) ++ rest) f.is ∙
              ap (λ l. l ++ rest) (array_shown f.form (cell_name stack p c) (NumberText e) f.so) ∙
              index_text (cell_name stack p c) (NumberText e) rest;
          stops = refl;
          said = subst (λ o. Finds (number_of_cell inner p c o) (codes "[" ++ (NumberText e ++ (codes "]" ++ rest)))
              (element p c e) rest) (sym f.is)
              (array_of p c f.form e rest f.so h);
        }

    pub square_after : (p c : ℕ) (a b : TraceNumber) (rest : List ℕ) → HasSquare (layer_of stack p) c →
        Reads inner.number (NumberText a) a →
        Reads inner.number (NumberText b) b →
        After (number_of_cell inner p c (form_at (layer_of stack p) c)) p c (NumberText (square p c a b))
        (square p c a b) rest
    square_after p c a b rest is h k = let f = form_of shape_in (layer_of stack p) c Square is in record {
      there = f.there;
      more = codes "[" ++ (NumberText a ++ (codes "]" ++ (codes "[" ++ (NumberText b ++ (codes "]" ++ rest)))));
      text_is = square_text (cell_name stack p c) (NumberText a) (NumberText b) rest;
      stops = refl;
      said = subst (λ o. Finds (number_of_cell inner p c o)
          (codes "[" ++ (NumberText a ++ (codes "]" ++ (codes "[" ++ (NumberText b ++ (codes "]" ++ rest))))))
          (square p c a b) rest) (sym f.is)
          (square_of p c f.form a b rest f.so h k);
    }

    queue_after : (p c : ℕ) (e : TraceNumber) (rest : List ℕ) → HasQueue (layer_of stack p) c e →
        Reads inner.number (NumberText e) e →
        Stops is_name_byte rest →
        After (index_of_queue inner p c (form_at (layer_of stack p) c)) p c (QueueText p c e)
        (record { place = p; cell = c; index = e }) rest
    queue_after p c e rest has h stops = go has.listed where
      go : HasRows (layer_of stack p) c e has.items →
          After (index_of_queue inner p c (form_at (layer_of stack p) c)) p c (QueueText p c e)
          (record { place = p; cell = c; index = e }) rest
      go (inl alone) = let f = form_of alone_in (layer_of stack p) c has.items alone.0 in record {
        there = f.there;
        more = rest;
        text_is = ap (λ o. with_index o (cell_name stack p c) (NumberText e) ++ rest) f.is ∙
            ap (λ l. l ++ rest) (alone_shown f.form has.items (cell_name stack p c) (NumberText e) f.so);
        stops = stops;
        said = subst (λ i. Finds (index_of_queue inner p c (form_at (layer_of stack p) c)) rest
            (record { place = p; cell = c; index = i }) rest)
            (sym alone.1)
            (subst (λ o. Finds (index_of_queue inner p c o) rest
            (record { place = p; cell = c; index = atom (number 0) }) rest) (sym f.is)
            (alone_of p c f.form has.items rest f.so));
      }
      go (inr among) = let f = form_of among_in (layer_of stack p) c has.items among in record {
        there = f.there;
        more = codes "[" ++ (NumberText e ++ (codes "]" ++ rest));
        text_is = ap (λ o. with_index o (cell_name stack p c) (NumberText e) ++ rest) f.is ∙
            ap (λ l. l ++ rest) (among_shown f.form has.items (cell_name stack p c) (NumberText e) f.so) ∙
            index_text (cell_name stack p c) (NumberText e) rest;
        stops = refl;
        said = subst (λ o. Finds (index_of_queue inner p c o) (codes "[" ++ (NumberText e ++ (codes "]" ++ rest)))
            (record { place = p; cell = c; index = e }) rest)
            (sym f.is) (among_of p c f.form has.items e rest f.so h);
      }

    abbrev QueueOf : ℕ × ℕ → Reader QueueNamed
    QueueOf cell = index_of_queue inner cell.0 cell.1 (form_at (layer_of stack cell.0) cell.1)

    pub queue_back : (p c : ℕ) (e : TraceNumber) → p < length stack → HasQueue (layer_of stack p) c e →
        Reads inner.number (NumberText e) e →
        Reads (queue_with stack inner) (QueueText p c e) (record { place = p; cell = c; index = e })
    queue_back p c e inside has h = record {
      said = λ rest stops.
          let b = queue_after p c e rest has h stops in
          let n = cell_names stack told few s p c inside b.there in
          finds_same (queue_with stack inner) _ _ _ rest b.text_is
          (finds_name (cell_named stack) (cell_name stack p c) (p, c) n.names
          (λ name. option_reader (cell_named stack name) >>= QueueOf) b.more _ rest b.stops
          (finds_given (cell_named stack (n.names.first ∷ n.names.more)) QueueOf b.more (p, c) _ rest n.names.said
          b.said));
    }

    -- a number that begins with a byte of a word
    abbrev NumberOf : List (List ℕ) → Reader TraceNumber
    NumberOf name = number_named stack s inner name (atom_named s name)

    abbrev named_number : Reader TraceNumber
    named_number = a_name >>= NumberOf

    pub led_back : (text rest : List ℕ) (e : TraceNumber) (left : List ℕ) → Leads text →
        Finds named_number (text ++ rest) e left →
        Finds (number_with stack s inner) (text ++ rest) e left
    led_back text rest e left leads h = record {
      said = ap (λ q. if q then (the_text (codes "(") >>= λ _. an_operation inner) (text ++ rest) else named_number
          (text ++ rest))
          (leads_not 40 text rest refl leads) ∙ h.said;
    }

    -- the name of a cell before its number
    pub cell_back : (p c : ℕ) (text : List ℕ) (e : TraceNumber) (rest : List ℕ) → p < length stack →
        After (number_of_cell inner p c (form_at (layer_of stack p) c)) p c text e rest →
        Finds (number_with stack s inner) (text ++ rest) e rest
    cell_back p c text e rest inside b =
        let n = cell_names stack told few s p c inside b.there in
        finds_same (number_with stack s inner) _ _ e rest b.text_is
        (led_back (cell_name stack p c) b.more e rest n.leads
        (finds_name (cell_named stack) (cell_name stack p c) (p, c) n.names NumberOf b.more e rest b.stops
        (subst (λ o. Finds (number_named stack s inner (n.names.first ∷ n.names.more) o) b.more e rest)
        (sym n.no_number)
        (subst (λ r. Finds r b.more e rest) (sym (n.begins inner))
        (finds_given (cell_named stack (n.names.first ∷ n.names.more)) _ b.more (p, c) e rest n.names.said b.said)))))

    -- a number of a row is named by a name of these
    item_back : (q : QueueNamed) (row : TraceNumber) (k : ℕ) (rest : List ℕ) → q.place < length stack →
        k < length (items_at stack q.place q.cell).numbers →
        Stops is_name_byte rest → Finds (a_name >>= λ name. option_reader (item_named stack q row name))
        (slice_index_or (items_at stack q.place q.cell).numbers k [] ++ rest) (item q.place q.cell q.index row k) rest
    item_back q row k rest inside below stops =
        let names = (items_at stack q.place q.cell).numbers in
        let told_rows = rows_told stack told few q.place q.cell inside in
        finds_word (slice_index_or names k []) (λ name. option_reader (item_named stack q row name)) rest _ rest
        (all_at IsWord names k [] told_rows.words below) stops
        (finds_known (item_named stack q row (slice_index_or names k [] ∷ [])) rest _
        (ap (λ o. option_map (item q.place q.cell q.index row) o) (place_back names k told_rows.apart below)))

  -- how many numbers the rows of a queue have
  pub rows_are : (p c : ℕ) (e : TraceNumber) (items : ItemsTree) → HasRows (layer_of stack p) c e items →
      items_at stack p c ≡ items
  rows_are p c e items (inl alone) = let f = form_of alone_in (layer_of stack p) c items alone.0 in
      ap (λ o. unwrap_or (items_in o) no_items) f.is ∙ of_alone f.form f.so where
        of_alone : (form : Form) → alone_in form ≡ Some items → unwrap_or (items_in (Some form)) no_items ≡ items
        of_alone (numbers shape initial) is = absurd (cc is)
        of_alone (queue capacity own) is = ap (λ o. unwrap_or o no_items) is
        of_alone (queues capacity own) is = absurd (cc is)
  rows_are p c e items (inr among) = let f = form_of among_in (layer_of stack p) c items among in
      ap (λ o. unwrap_or (items_in o) no_items) f.is ∙ of_among f.form f.so where
        of_among : (form : Form) → among_in form ≡ Some items → unwrap_or (items_in (Some form)) no_items ≡ items
        of_among (numbers shape initial) is = absurd (cc is)
        of_among (queue capacity own) is = absurd (cc is)
        of_among (queues capacity own) is = ap (λ o. unwrap_or o no_items) is

  -- what is read in a bracket after which n may be opened
  abbrev At : ℕ → Inner
  At n = inside stack s n

  abbrev MadeNumber : TraceNumber → Type 0
  MadeNumber e = NumberNames (IsMade stack (reach_of s)) e

  abbrev ThereNumber : TraceNumber → Type 0
  ThereNumber e = NumberNames (IsThere stack) e

  abbrev MadeMessage : TraceMessage → Type 0
  MadeMessage m = MessageNames (IsMade stack (reach_of s)) m

  abbrev ThereMessage : TraceMessage → Type 0
  ThereMessage m = MessageNames (IsThere stack) m

  pub atom_leads : (a : Atom) → AtomIsMade (reach_of s) a → AtomFits a → Leads (NumberText (atom a))
  atom_leads (number n) made fits = decimal_leads n fits
  atom_leads peer made fits = refl
  atom_leads (field n) made fits = refl
  atom_leads (bound n) made fits = refl
  atom_leads (taken_number row k) made fits = refl
  atom_leads (value n) made fits = refl

  -- a word that stands for a number, or begins one
  word_back : (inner : Inner) (word : List ℕ) (rest : List ℕ) (e : TraceNumber) (left : List ℕ) → IsWord word →
      Leads word → Stops is_name_byte rest →
      atom_named s (word ∷ []) ≡ None → Finds (begun_by stack inner (word ∷ [])) rest e left →
      Finds (number_with stack s inner) (word ++ rest) e left
  word_back inner word rest e left is leads stops none h = led_back inner word rest e left leads
      (finds_word word (NumberOf inner) rest e left is stops
      (subst (λ o. Finds (number_named stack s inner (word ∷ []) o) rest e left) (sym none) h))

  applied_back : (inner : Inner) (f : Function) (a : TraceNumber) → Reads inner.number (NumberText a) a →
      Reads (number_with stack s inner) (NumberText (apply f a)) (apply f a)
  applied_back inner f a h = record {
    said = λ rest stops. let w = applied stack s f in
        finds_same (number_with stack s inner) _ _ (apply f a) rest
        (ap (λ l. l ++ bracketed_list (NumberText a ∷ []) ++ rest) w.text_is ∙ one_text w.word (NumberText a) rest)
        (word_back inner w.word _ (apply f a) rest w.is_word w.leads refl w.no_number
        (subst (λ r. Finds r (codes "(" ++ (NumberText a ++ (codes ")" ++ rest))) (apply f a) rest)
        (sym (w.begins inner))
        (finds_given (function_named (w.word ∷ [])) (an_application inner) _ f (apply f a) rest w.said
        (finds_text (codes "(") _ _ _ _ (finds_then inner.number _ _ a _ _ _ (h.said (codes ")" ++ rest) refl)
        (finds_text (codes ")") _ _ _ _ (finds_value (apply f a) rest)))))));
  }

  operation_back : (inner : Inner) (o : Operator) (a b : TraceNumber) → Reads inner.number (NumberText a) a →
      Reads inner.number (NumberText b) b →
      Reads (number_with stack s inner) (NumberText (binary o a b)) (binary o a b)
  operation_back inner o a b h k = record {
    said = λ rest stops. finds_same (number_with stack s inner) _ _ (binary o a b) rest
        (operation_text (NumberText a) (sign_text (operator_sign o)) (NumberText b) rest) (opened rest);
  } where
    following : (rest : List ℕ) → Finds (an_operation inner)
        (NumberText a ++ (codes " " ++
        (sign_text (operator_sign o) ++ (codes " " ++ (NumberText b ++ (codes ")" ++ rest)))))) (binary o a b) rest
    following rest = finds_then inner.number _ _ a _ _ _ (h.said _ refl) (finds_text (codes " ") _ _ _ _
        (finds_then a_word (λ word. option_reader (operator_named word) >>= λ operator. the_text (codes " ") >>= λ v.
        inner.number >>= λ second.
        the_text (codes ")") >>= λ w. yields (binary operator a second)) _ (sign_text (operator_sign o)) _ _ _
        (run_back (λ byte. not (byte == 32)) (sign_text (operator_sign o)) _ (operator_word o) refl)
        (finds_given (operator_named (sign_text (operator_sign o))) _ _ o _ _ (operator_back o)
        (finds_text (codes " ") _ _ _ _
        (finds_then inner.number _ _ b _ _ _ (k.said (codes ")" ++ rest) refl)
        (finds_text (codes ")") _ _ _ _ (finds_value (binary o a b) rest)))))))

    opened : (rest : List ℕ) → Finds (number_with stack s inner)
        (codes "(" ++ (NumberText a ++
        (codes " " ++ (sign_text (operator_sign o) ++ (codes " " ++ (NumberText b ++ (codes ")" ++ rest)))))))
        (binary o a b) rest
    opened rest = record { said = (finds_text (codes "(") (λ u. an_operation inner) _ _ _ (following rest)).said }

  abbrev MessageOf : Inner → List (List ℕ) → Reader TraceMessage
  MessageOf inner name = message_named stack inner name (core_named s name)

  built_back : (inner : Inner) (word rest : List ℕ) (m : TraceMessage) (left : List ℕ) → IsWord word →
      Stops is_name_byte rest →
      core_named s (word ∷ []) ≡ None → Finds (built_by stack inner (word ∷ [])) rest m left →
      Finds (message_with stack s inner) (word ++ rest) m left
  built_back inner word rest m left is stops none h = finds_word word (MessageOf inner) rest m left is stops
      (subst (λ o. Finds (message_named stack inner (word ∷ []) o) rest m left) (sym none) h)

  held_back : (p c : ℕ) (e row : TraceNumber) (carried : Carried) (o : Option (List ℕ × Carried)) →
      option_map (λ message. message.1) o ≡ Some carried →
      held_in stack (record { place = p; cell = c; index = e }) row o ≡ Some (held p c e row carried)
  held_back p c e row carried None is = absurd (cc is)
  held_back p c e row carried (Some m) is = ap (λ o. option_map (λ x. held p c e row x) o) is

  mutual
    pub number_back : (n : ℕ) (e : TraceNumber) → MadeNumber e → ThereNumber e → NumberFits stack s.rows n e →
        Reads (number_with stack s (At n)) (NumberText e) e
    number_back n (atom a) made there fits =
        let x = atom_names before s small a made fits in
        record {
          said = λ rest stops. led_back (At n) (NumberText (atom a)) rest (atom a) rest (atom_leads a made fits)
              (finds_name (atom_named s) (NumberText (atom a)) a x (NumberOf (At n)) rest (atom a) rest stops
              (subst (λ o. Finds (number_named stack s (At n) (x.first ∷ x.more) o) rest (atom a) rest) (sym x.said)
              (finds_value (atom a) rest)));
        }
    number_back n me made there fits =
        record {
          said = λ rest stops. word_back (At n) (codes "me") rest me rest refl refl stops refl
              (finds_value me rest);
        }
    number_back n count made there fits =
        record {
          said = λ rest stops. word_back (At n) (codes "n") rest count rest refl refl stops refl
              (finds_value count rest);
        }
    number_back n ltime made there fits =
        record {
          said = λ rest stops. word_back (At n) (codes "ltime") rest ltime rest refl refl stops refl
              (finds_value ltime rest);
        }
    number_back (suc n) (element p c e) made there fits = let h = number_back n e made.1 there.1 fits in
        record {
          said = λ rest stops. cell_back (At (suc n)) p c _ (element p c e) rest made.0
              (element_after (At (suc n)) p c e rest there.0 h stops);
        }
    number_back (suc n) (square p c a b) made there fits =
        let h = number_back n a made.1 there.1 fits.0 in
        let k = number_back n b made.2 there.2 fits.1 in
        record {
          said = λ rest stops. cell_back (At (suc n)) p c _ (square p c a b) rest made.0
              (square_after (At (suc n)) p c a b rest there.0 h k);
        }
    number_back (suc (suc n)) (rows p c e) made there fits =
        let q = queue_back (At (suc n)) p c e made.0 there.0 (number_back n e made.1 there.1 fits) in
        record {
          said = λ rest stops. finds_same (number_with stack s (At (suc (suc n)))) _ _ (rows p c e) rest
              (one_text (codes "len") (QueueText p c e) rest)
              (word_back (At (suc (suc n))) (codes "len") _ (rows p c e) rest refl refl refl refl
              (finds_text (codes "(") _ _ _ _
              (finds_then (queue_with stack (At (suc n))) _ _ _ _ _ _ (q.said (codes ")" ++ rest) refl)
              (finds_text (codes ")") _ _ _ _ (finds_value (rows p c e) rest)))));
        }
    number_back (suc (suc n)) (item p c e row k) made there fits =
        let has = there.0 in
        let q = queue_back (At (suc n)) p c e made.0 record { items = has.items; listed = has.listed }
        (number_back n e made.1 there.1 fits.0) in
        let r = number_back (suc n) row made.2 there.2 fits.1 in
        let below = subst (λ (items : ItemsTree). k < length items.numbers) (sym (rows_are p c e has.items has.listed))
        has.below in
        record {
          said = λ rest stops. finds_same (number_with stack s (At (suc (suc n)))) _ _ (item p c e row k) rest
              (ap (λ names. codes "at" ++ bracketed_list (QueueText p c e ∷ NumberText row ∷ []) ++ codes "." ++
              slice_index_or names k [] ++ rest)
              (sym (called (form_at (layer_of stack p) c))) ∙
              item_text (QueueText p c e) (NumberText row) (slice_index_or (items_at stack p c).numbers k []) rest)
              (word_back (At (suc (suc n))) (codes "at") _ (item p c e row k) rest refl refl refl refl
              (finds_text (codes "(") _ _ _ _ (finds_then (queue_with stack (At (suc n))) _ _ _ _ _ _ (q.said _ refl)
              (finds_text (codes ",") _ _ _ _
              (finds_then (number_with stack s (At (suc n))) _ _ row _ _ _ (r.said _ refl)
              (finds_text (codes ").") _ _ _ _
              (item_back (At (suc n)) (record { place = p; cell = c; index = e }) row k rest made.0 below stops)))))));
        }
    number_back (suc n) (size m) made there fits = let h = message_back n m made there fits in
        record {
          said = λ rest stops. finds_same (number_with stack s (At (suc n))) _ _ (size m) rest
              (one_text (codes "size") (MessageText m) rest)
              (word_back (At (suc n)) (codes "size") _ (size m) rest refl refl refl refl
              (finds_text (codes "(") _ _ _ _
              (finds_then (message_with stack s (At n)) _ _ m _ _ _ (h.said (codes ")" ++ rest) refl)
              (finds_text (codes ")") _ _ _ _ (finds_value (size m) rest)))));
        }
    number_back (suc n) (binary o a b) made there fits =
        operation_back (At (suc n)) o a b (number_back n a made.0 there.0 fits.0)
        (number_back n b made.1 there.1 fits.1)
    number_back (suc n) (apply f a) made there fits = applied_back (At (suc n)) f a (number_back n a made there fits)
    number_back (suc n) (pick c a b) made there fits =
        let h = number_back n c made.0 there.0 fits.0 in
        let k = number_back n a made.1 there.1 fits.1 in
        let l = number_back n b made.2 there.2 fits.2 in
        record {
          said = λ rest stops. finds_same (number_with stack s (At (suc n))) _ _ (pick c a b) rest
              (three_text (codes "pick") (NumberText c) (NumberText a) (NumberText b) rest)
              (word_back (At (suc n)) (codes "pick") _ (pick c a b) rest refl refl refl refl
              (finds_text (codes "(") _ _ _ _ (finds_then (number_with stack s (At n)) _ _ c _ _ _ (h.said _ refl)
              (finds_text (codes ",") _ _ _ _ (finds_then (number_with stack s (At n)) _ _ a _ _ _ (k.said _ refl)
              (finds_text (codes ",") _ _ _ _
              (finds_then (number_with stack s (At n)) _ _ b _ _ _ (l.said (codes ")" ++ rest) refl)
              (finds_text (codes ")") _ _ _ _ (finds_value (pick c a b) rest)))))))));
        }
    number_back zero (element p c e) made there fits = absurd fits
    number_back zero (square p c a b) made there fits = absurd fits
    number_back zero (rows p c e) made there fits = absurd fits
    number_back (suc zero) (rows p c e) made there fits = absurd fits
    number_back zero (item p c e row k) made there fits = absurd fits
    number_back (suc zero) (item p c e row k) made there fits = absurd fits
    number_back zero (size m) made there fits = absurd fits
    number_back zero (binary o a b) made there fits = absurd fits
    number_back zero (apply f a) made there fits = absurd fits
    number_back zero (pick c a b) made there fits = absurd fits

    pub message_back : (n : ℕ) (m : TraceMessage) → MadeMessage m → ThereMessage m → MessageFits stack s.rows n m →
        Reads (message_with stack s (At n)) (MessageText m) m
    message_back n (core c) made there fits =
        let x = core_names before s small c made fits in
        record {
          said = λ rest stops. finds_name (core_named s) (MessageText (core c)) c x.names (MessageOf (At n)) rest
              (core c) rest stops
              (subst (λ o. Finds (message_named stack (At n) (x.names.first ∷ x.names.more) o) rest (core c) rest)
              (sym x.names.said)
              (finds_value (core c) rest));
        }
    message_back (suc (suc n)) (held p c e row carried) made there fits =
        let q = queue_back (At (suc n)) p c e made.0 there.0 (number_back n e made.1 there.1 fits.1) in
        let r = number_back (suc n) row made.2 there.2 fits.2 in
        record {
          said = λ rest stops. finds_same (message_with stack s (At (suc (suc n)))) _ _ (held p c e row carried) rest
              (two_text (codes "held") (QueueText p c e) (NumberText row) rest)
              (built_back (At (suc (suc n))) (codes "held") _ (held p c e row carried) rest refl refl refl
              (finds_text (codes "(") _ _ _ _ (finds_then (queue_with stack (At (suc n))) _ _ _ _ _ _ (q.said _ refl)
              (finds_text (codes ",") _ _ _ _
              (finds_then (number_with stack s (At (suc n))) _ _ row _ _ _ (r.said (codes ")" ++ rest) refl)
              (finds_text (codes ")") _ _ _ _
              (finds_known (held_in stack (record { place = p; cell = c; index = e }) row
              (items_at stack p c).message)
              rest (held p c e row carried) (held_back p c e row carried (items_at stack p c).message fits.0))))))));
        }
    message_back (suc n) (cut m from length) made there fits =
        let h = message_back n m made.0 there.0 fits.0 in
        let k = number_back n from made.1 there.1 fits.1 in
        let l = number_back n length made.2 there.2 fits.2 in
        record {
          said = λ rest stops. finds_same (message_with stack s (At (suc n))) _ _ (cut m from length) rest
              (three_text (codes "cut") (MessageText m) (NumberText from) (NumberText length) rest)
              (built_back (At (suc n)) (codes "cut") _ (cut m from length) rest refl refl refl
              (finds_text (codes "(") _ _ _ _ (finds_then (message_with stack s (At n)) _ _ m _ _ _ (h.said _ refl)
              (finds_text (codes ",") _ _ _ _ (finds_then (number_with stack s (At n)) _ _ from _ _ _ (k.said _ refl)
              (finds_text (codes ",") _ _ _ _
              (finds_then (number_with stack s (At n)) _ _ length _ _ _ (l.said (codes ")" ++ rest) refl)
              (finds_text (codes ")") _ _ _ _ (finds_value (cut m from length) rest)))))))));
        }
    message_back (suc n) (tail m from) made there fits =
        let h = message_back n m made.0 there.0 fits.0 in
        let k = number_back n from made.1 there.1 fits.1 in
        record {
          said = λ rest stops. finds_same (message_with stack s (At (suc n))) _ _ (tail m from) rest
              (two_text (codes "tail") (MessageText m) (NumberText from) rest)
              (built_back (At (suc n)) (codes "tail") _ (tail m from) rest refl refl refl
              (finds_text (codes "(") _ _ _ _ (finds_then (message_with stack s (At n)) _ _ m _ _ _ (h.said _ refl)
              (finds_text (codes ",") _ _ _ _
              (finds_then (number_with stack s (At n)) _ _ from _ _ _ (k.said (codes ")" ++ rest) refl)
              (finds_text (codes ")") _ _ _ _ (finds_value (tail m from) rest)))))));
        }
    message_back (suc n) (join first m) made there fits =
        let h = message_back n first made.0 there.0 fits.0 in
        let k = message_back n m made.1 there.1 fits.1 in
        record {
          said = λ rest stops. finds_same (message_with stack s (At (suc n))) _ _ (join first m) rest
              (two_text (codes "join") (MessageText first) (MessageText m) rest)
              (built_back (At (suc n)) (codes "join") _ (join first m) rest refl refl refl
              (finds_text (codes "(") _ _ _ _ (finds_then (message_with stack s (At n)) _ _ first _ _ _ (h.said _ refl)
              (finds_text (codes ",") _ _ _ _
              (finds_then (message_with stack s (At n)) _ _ m _ _ _ (k.said (codes ")" ++ rest) refl)
              (finds_text (codes ")") _ _ _ _ (finds_value (join first m) rest)))))));
        }
    message_back zero (held p c e row carried) made there fits = absurd fits
    message_back (suc zero) (held p c e row carried) made there fits = absurd fits
    message_back zero (cut m from length) made there fits = absurd fits
    message_back zero (tail m from) made there fits = absurd fits
    message_back zero (join first m) made there fits = absurd fits

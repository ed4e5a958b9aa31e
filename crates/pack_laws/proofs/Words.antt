-- Names and words are written as they were read.
use Rattle.std.proofs.Common.{◌≡◌, ℕ, zero, suc, ◌^◌, ◌<◌, Bool, true, false, not, ◌&&◌, ◌==◌, nat_lt, nat_le, List, []}
use Rattle.std.proofs.Common.{◌∷◌, ◌++◌, map, length, get_or, slice_get, slice_index_or, find, Option, Some, None}
use Rattle.std.proofs.Common.{option_map, unwrap_or, codes, decimal, bytes_eq, refl, sym, ap, ap₂, ◌∙◌, subst, arith}
use Rattle.std.proofs.Common.{append_assoc, leb-true}
use Rattle.std.specs.Prelude.{if◌then◌else◌}
use Rattle.std.specs.List.{list_all}
use Rattle.std.specs.Option.{option_map_or}
use Rattle.std.specs.Char.{is_ascii_digit}
use Rattle.std.specs.Str.{all_ascii_digits}
use Rattle.std.specs.Str.Parse.{digits_value}
use Rattle.std.proofs.Math.ListN.{get_or-map}
use Rattle.std.proofs.lemmas.Bool.{and_parts}
use Rattle.std.proofs.lemmas.Fmt.{decimal-digits_value}
use Rattle.std.proofs.lemmas.Str.Parse.{numerals_by_value, tells_all_ascii_digits}
use Rattle.std.proofs.lemmas.List.FromFn.{get_or-map-range_with_len}
use Rattle.std.proofs.lemmas.List.Quantifiers.{position-Some}
use Rattle.std.proofs.lemmas.Slice.Eq.{bytes_eq-Decides}
use Rattle.layer_words.specs.declared.operators.Function.{Function}
use Rattle.layer_words.specs.declared.operators.Operator.{Operator}
use Rattle.layer_words.specs.declared.events.Dir.{Dir}
use Rattle.layer_words.specs.declared.events.Kind.{Kind}
use Rattle.layer_words.specs.Signs.{direction_sign, function_sign, operator_sign}
use Rattle.layer_words.specs.Spelling.{beside, kinds, kind_word, reserved, symbols}
use Rattle.layer_mean.specs.Headers.{header_of_tag, header_none}
use Rattle.layer_mean.specs.Tree.{CellTree, Form, HeaderTree, ItemsTree, LayerTree, numbers, queue, queues}
use Rattle.script_mean.specs.Words.{is_plain, within, number_of}
use Rattle.trace_mean.specs.Trace.{Atom, number, peer, field, bound, Core, body, noted, nothing}
use Rattle.layer_words.specs.Spelling.{sign_text}
use Rattle.bypass_mean.specs.Text.{layer_of, numbers_called, cell_name, atom_text, core_text}
use Rattle.pack_mean.specs.Named.{Named, items_in, no_items, below, place_of, row_number, row_message, atom_named}
use Rattle.pack_mean.specs.Named.{core_named, cell_named, kind_named, functions, function_named, operators}
use Rattle.pack_mean.specs.Named.{operator_named}
use Rattle.pack_mean.specs.Operation.{tag_named}
use Rattle.layer_words.specs.Signs.{directions}
use Rattle.pack_laws.specs.Written.{note_name, written_with}
use Rattle.pack_laws.proofs.Readers.{through, some_same}
use Rattle.pack_laws.proofs.Form.{some_mapped}
use Rattle.pack_laws.proofs.Spelled.{below_limit}
use Rattle.pack_laws.proofs.Writing.{name_text}

-- numbers
digits_same : (ds : List ℕ) → all_ascii_digits ds ≡ list_all is_ascii_digit ds
digits_same [] = refl
digits_same (d ∷ ds) = ap (λ b. is_ascii_digit d && b) (digits_same ds)

plain_written : (word : List ℕ) → is_plain word ≡ true → digits_value 10 word < 2 ^ 64 →
    decimal (digits_value 10 word) ≡ word
plain_written [] is small = absurd (cc is)
plain_written (d ∷ []) is small =
    decimal-digits_value (numerals_by_value _ tells_all_ascii_digits) (d ∷ []) (rw is refl) (omega arith) (λ lead. refl)
    small
plain_written (d ∷ e ∷ more) is small =
    let parts = and_parts (not (d == 48)) (list_all is_ascii_digit (d ∷ e ∷ more)) is in
    decimal-digits_value (numerals_by_value _ tells_all_ascii_digits) (d ∷ e ∷ more)
    (digits_same (d ∷ e ∷ more) ∙ parts.1) (omega arith)
    (λ lead. absurd (other d lead parts.0)) small where
      other : (d : ℕ) → d ≡ 48 → not (d == 48) ≡ true → ⊥
      other d lead differs = cc (subst (λ x. not (x == 48) ≡ true) lead differs)

number_written : (word : List ℕ) (n : ℕ) → number_of word ≡ Some n → word ≡ decimal n
number_written word n is = plain (is_plain word) refl is where
  inside : (b c : Bool) → nat_le 0 (digits_value 10 word) ≡ b → nat_le (digits_value 10 word) 4294967295 ≡ c →
      is_plain word ≡ true →
      (if b && c then Some (digits_value 10 word) else None) ≡ Some n → word ≡ decimal n
  inside true true low high p e = some_same (λ k. word ≡ decimal k) e (sym (plain_written word p
      (let most = leb-true (digits_value 10 word) 4294967295 high in omega (arith, most))))
  inside true false low high p e = absurd (cc e)
  inside false c low high p e = absurd (cc e)

  plain : (b : Bool) → is_plain word ≡ b → (if b then within 0 4294967295 (digits_value 10 word) else None) ≡ Some n →
      word ≡ decimal n
  plain true p e = inside (nat_le 0 (digits_value 10 word)) (nat_le (digits_value 10 word) 4294967295) refl refl p e
  plain false p e = absurd (cc e)

pub below_written : (limit : ℕ) (word : List ℕ) (n : ℕ) → below limit word ≡ Some n → word ≡ decimal n
below_written limit word n is =
    through _ (number_of word) _ is (λ m m_is is1. go m (nat_lt m limit) (number_written word m m_is) is1) where
      go : (m : ℕ) (b : Bool) → word ≡ decimal m → (if b then Some m else None) ≡ Some n → word ≡ decimal n
      go m true e k = some_same (λ x. word ≡ decimal x) k e
      go m false e k = absurd (cc k)

-- places of names
pub place_written : (name : List ℕ) (names : List (List ℕ)) (k : ℕ) → place_of name names ≡ Some k →
    name ≡ slice_index_or names k []
place_written name names k is =
    (bytes_eq-Decides name (get_or names k [])).0 (position-Some (bytes_eq name) names k [] is).1

pub shown_at : {A : Type 0} (f : A → List ℕ) (xs : List A) (c : ℕ) →
    get_or (map f xs) c [] ≡ option_map_or f (slice_get xs c) []
shown_at f [] c = refl
shown_at f (x ∷ xs) zero = refl
shown_at f (x ∷ xs) (suc c) = shown_at f xs c

-- what is found passes, and is in the table
first_or : {A : Type 0} (p q : A → Bool) (x y : A) (ys : List A) (b : Bool) → p y ≡ b → q y ≡ true →
    (find p ys ≡ Some x → (p x ≡ true) × (q x ≡ true)) → (if b then Some y else find p ys) ≡ Some x →
    (p x ≡ true) × (q x ≡ true)
first_or p q x y ys true e k more is = some_same (λ z. (p z ≡ true) × (q z ≡ true)) is (e, k)
first_or p q x y ys false e k more is = more is

found_passes : {A : Type 0} (p q : A → Bool) (xs : List A) (x : A) → list_all q xs ≡ true → find p xs ≡ Some x →
    (p x ≡ true) × (q x ≡ true)
found_passes p q [] x all is = absurd (cc is)
found_passes p q (y ∷ ys) x all is = first_or p q x y ys (p y) refl (and_parts (q y) (list_all q ys) all).0
    (λ rest. found_passes p q ys x (and_parts (q y) (list_all q ys) all).1 rest) is

all_pass : {A : Type 0} (xs : List A) → list_all (λ x. true) xs ≡ true
all_pass [] = refl
all_pass (x ∷ xs) = all_pass xs

pub beside_written : {X : Type 0} (shown : X → List ℕ) (table : List (List ℕ × X)) (word : List ℕ) (x : X) →
    list_all (λ entry. bytes_eq (shown entry.1) entry.0) table ≡ true → beside table word ≡ Some x → word ≡ shown x
beside_written {X = X} shown table word x told is =
    some_mapped (λ y. word ≡ shown y) (λ (entry : List ℕ × X). entry.1) (find (λ entry. bytes_eq entry.0 word) table)
    (λ entry found.
    let passes = found_passes (λ (entry : List ℕ × X). bytes_eq entry.0 word)
    (λ entry. bytes_eq (shown entry.1) entry.0) table entry told found in
    sym ((bytes_eq-Decides entry.0 word).0 passes.0) ∙ sym ((bytes_eq-Decides (shown entry.1) entry.0).0 passes.1)) x is

kinds_told : list_all (λ entry. bytes_eq (kind_word entry.1) entry.0) kinds ≡ true
unfolding kinds
kinds_told = refl

pub kind_written : (name : List (List ℕ)) (kind : Kind) → kind_named name ≡ Some kind → name_text name ≡ kind_word kind
kind_written [] kind is = absurd (cc is)
kind_written (word ∷ []) kind is = beside_written kind_word kinds word kind kinds_told is
kind_written (word ∷ another ∷ more) kind is = absurd (cc is)

directions_told : list_all (λ entry. bytes_eq (sign_text (direction_sign entry.1)) entry.0) directions ≡ true
unfolding reserved symbols
directions_told = refl

pub direction_written : (word : List ℕ) (dir : Dir) → beside directions word ≡ Some dir →
    word ≡ sign_text (direction_sign dir)
direction_written word dir is = beside_written (λ d. sign_text (direction_sign d)) directions word dir directions_told
    is

pub function_written : (word : List ℕ) (function : Function) → function_named (word ∷ []) ≡ Some function →
    word ≡ sign_text (function_sign function)
function_written word function is = (bytes_eq-Decides word (sign_text (function_sign function))).0
    (found_passes (λ f. bytes_eq word (sign_text (function_sign f))) (λ f. true) functions function (all_pass functions)
    is).0

pub operator_written : (word : List ℕ) (operator : Operator) → operator_named word ≡ Some operator →
    word ≡ sign_text (operator_sign operator)
operator_written word operator is = (bytes_eq-Decides word (sign_text (operator_sign operator))).0
    (found_passes (λ o. bytes_eq word (sign_text (operator_sign o))) (λ o. true) operators operator (all_pass operators)
    is).0

-- cells, and known headers
pub cell_written : (stack : List LayerTree) (name : List (List ℕ)) (cell : ℕ × ℕ) → cell_named stack name ≡ Some cell →
    name_text name ≡ cell_name stack cell.0 cell.1
cell_written stack [] cell is = absurd (cc is)
cell_written stack (place ∷ []) cell is = absurd (cc is)
cell_written stack (place ∷ name ∷ more ∷ words) cell is = absurd (cc is)
cell_written stack (place ∷ name ∷ []) cell is = through _ (below (length stack) place) _ is (λ p p_is is1.
    through _ (place_of name (map (λ (c : CellTree). c.name) (layer_of stack p).cells)) _ is1 (λ c c_is is2.
    some_same (λ (q : ℕ × ℕ). place ++ (46 ∷ name) ≡ cell_name stack q.0 q.1) is2
    (ap₂ (λ a b. a ++ (46 ∷ b)) (below_written (length stack) place p p_is)
    (place_written name (map (λ (c : CellTree). c.name) (layer_of stack p).cells) c c_is ∙
    shown_at (λ (c : CellTree). c.name) (layer_of stack p).cells c) ∙
    sym (append_assoc (decimal p) (codes ".")
    (option_map_or (λ (x : CellTree). x.name) (slice_get (layer_of stack p).cells c) [])))))

pub tag_written : (layer : LayerTree) (name : List (List ℕ)) (tag : ℕ) → tag_named layer name ≡ Some tag →
    name_text name ≡ layer.name ++ codes "." ++ option_map_or (λ h. h.name) (header_of_tag layer tag) []
tag_written layer [] tag is = absurd (cc is)
tag_written layer (name ∷ []) tag is = absurd (cc is)
tag_written layer (name ∷ header ∷ more ∷ words) tag is = absurd (cc is)
tag_written layer (name ∷ header ∷ []) tag is = go (bytes_eq name layer.name) refl is where
  go : (b : Bool) → bytes_eq name layer.name ≡ b →
      (if b then place_of header (map (λ (h : HeaderTree). h.name) (header_none ∷ layer.headers)) else None) ≡
      Some tag →
      name ++ (46 ∷ header) ≡ layer.name ++ codes "." ++
      option_map_or (λ (h : HeaderTree). h.name) (header_of_tag layer tag)
      []
  go true e k = ap₂ (λ a b. a ++ (46 ∷ b)) ((bytes_eq-Decides name layer.name).0 e)
      (place_written header (map (λ (h : HeaderTree). h.name) (header_none ∷ layer.headers)) tag k ∙
      shown_at (λ (h : HeaderTree). h.name) (header_none ∷ layer.headers) tag) ∙
      sym (append_assoc layer.name (codes ".")
      (option_map_or (λ (h : HeaderTree). h.name) (header_of_tag layer tag) []))
  go false e k = absurd (cc k)

pub called : (form : Option Form) → (unwrap_or (items_in form) no_items).numbers ≡ numbers_called form
called None = refl
called (Some (numbers shape initial)) = refl
called (Some (queue capacity items)) = refl
called (Some (queues capacity items)) = refl

-- atoms and cores
module _ (before : List (List ℕ)) (s : Named) where
  one_word : (word : List ℕ) (a : Atom) (b : Bool) → bytes_eq word (codes "peer") ≡ b →
      (if b then Some peer else option_map number (number_of word)) ≡ Some a →
      word ≡ atom_text (written_with before s) a
  one_word word a true e is = some_same (λ x. word ≡ atom_text (written_with before s) x) is
      ((bytes_eq-Decides word (codes "peer")).0 e)
  one_word word a false e is =
      some_mapped (λ x. word ≡ atom_text (written_with before s) x) number (number_of word)
      (λ n n_is. number_written word n n_is) a is

  two_words : (kind k : List ℕ) (a : Atom) (b c : Bool) → bytes_eq kind (codes "in") ≡ b →
      bytes_eq kind (codes "t") ≡ c →
      (if b then option_map field (below s.fields k) else if c then option_map bound (below s.binds k) else None) ≡
      Some a →
      kind ++ (46 ∷ k) ≡ atom_text (written_with before s) a
  two_words kind k a true c e f is = some_mapped (λ x. kind ++ (46 ∷ k) ≡ atom_text (written_with before s) x) field
      (below s.fields k)
      (λ n n_is. ap₂ (λ x y. x ++ (46 ∷ y)) ((bytes_eq-Decides kind (codes "in")).0 e)
      (below_written s.fields k n n_is)) a is
  two_words kind k a false true e f is = some_mapped (λ x. kind ++ (46 ∷ k) ≡ atom_text (written_with before s) x) bound
      (below s.binds k)
      (λ n n_is. ap₂ (λ x y. x ++ (46 ∷ y)) ((bytes_eq-Decides kind (codes "t")).0 f) (below_written s.binds k n n_is))
      a is
  two_words kind k a false false e f is = absurd (cc is)

  three_words : (kind row name : List ℕ) (a : Atom) (b : Bool) → bytes_eq kind (codes "row") ≡ b →
      (if b then row_number s row name else None) ≡ Some a → kind ++ (46 ∷ (row ++ (46 ∷ name))) ≡
      atom_text (written_with before s) a
  three_words kind row name a true e is = through _ (below (length s.rows) row) _ is (λ r r_is is1.
      through _ (place_of name (slice_index_or s.rows r no_items).numbers) _ is1 (λ k k_is is2.
      some_same (λ x. kind ++ (46 ∷ (row ++ (46 ∷ name))) ≡ atom_text (written_with before s) x) is2
      (let named = place_written name (slice_index_or s.rows r no_items).numbers k k_is ∙
      ap (λ names. slice_index_or names k [])
      (sym (get_or-map (λ (items : ItemsTree). items.numbers) s.rows r no_items)) in
      ap₂ (λ x y. x ++ (46 ∷ y)) ((bytes_eq-Decides kind (codes "row")).0 e)
      (ap₂ (λ x y. x ++ (46 ∷ y)) (below_written (length s.rows) row r r_is) named) ∙
      ap (λ l. codes "row." ++ l) (sym (append_assoc (decimal r) (codes ".")
      (slice_index_or (slice_index_or (map (λ (items : ItemsTree). items.numbers) s.rows) r []) k []))))))
  three_words kind row name a false e is = absurd (cc is)

  pub atom_written : (name : List (List ℕ)) (a : Atom) → atom_named s name ≡ Some a →
      name_text name ≡ atom_text (written_with before s) a
  atom_written [] a is = absurd (cc is)
  atom_written (word ∷ []) a is = one_word word a (bytes_eq word (codes "peer")) refl is
  atom_written (kind ∷ k ∷ []) a is = two_words kind k a (bytes_eq kind (codes "in")) (bytes_eq kind (codes "t")) refl
      refl is
  atom_written (kind ∷ row ∷ name ∷ []) a is = three_words kind row name a (bytes_eq kind (codes "row")) refl is
  atom_written (kind ∷ row ∷ name ∷ more ∷ words) a is = absurd (cc is)

  no_number : (word : List ℕ) (c : Core) (b e : Bool) → bytes_eq word (codes "body") ≡ b →
      bytes_eq word (codes "nothing") ≡ e →
      (if b then Some body else if e then Some nothing else None) ≡ Some c → word ≡ core_text (written_with before s) c
  no_number word c true e f g is = some_same (λ x. word ≡ core_text (written_with before s) x) is
      ((bytes_eq-Decides word (codes "body")).0 f)
  no_number word c false true f g is = some_same (λ x. word ≡ core_text (written_with before s) x) is
      ((bytes_eq-Decides word (codes "nothing")).0 g)
  no_number word c false false f g is = absurd (cc is)

  of_row : (row : List ℕ) (c : Core) → row_message s row ≡ Some c →
      codes "row." ++ row ≡ core_text (written_with before s) c
  of_row row c is = through _ (below (length s.rows) row) _ is (λ r r_is is1.
      through _ ((slice_index_or s.rows r no_items).message) _ is1 (λ m m_is is2.
      some_same (λ x. codes "row." ++ row ≡ core_text (written_with before s) x) is2
      (ap (λ l. codes "row." ++ l) (below_written (length s.rows) row r r_is))))

  a_count : (kind k : List ℕ) (c : Core) (b e : Bool) → bytes_eq kind (codes "m") ≡ b → bytes_eq kind (codes "row") ≡
      e →
      (if b then option_map noted (below s.notes k) else if e then row_message s k else None) ≡ Some c →
      kind ++ (46 ∷ k) ≡ core_text (written_with before s) c
  a_count kind k c true e f g is = some_mapped (λ x. kind ++ (46 ∷ k) ≡ core_text (written_with before s) x) noted
      (below s.notes k)
      (λ n n_is. ap₂ (λ x y. x ++ (46 ∷ y)) ((bytes_eq-Decides kind (codes "m")).0 f) (below_written s.notes k n n_is) ∙
      sym (get_or-map-range_with_len note_name 0 s.notes n n [] (below_limit s.notes k n n_is) (omega arith))) c is
  a_count kind k c false true f g is =
      ap (λ x. x ++ (46 ∷ k)) ((bytes_eq-Decides kind (codes "row")).0 g) ∙ of_row k c is
  a_count kind k c false false f g is = absurd (cc is)

  pub core_written : (name : List (List ℕ)) (c : Core) → core_named s name ≡ Some c →
      name_text name ≡ core_text (written_with before s) c
  core_written [] c is = absurd (cc is)
  core_written (word ∷ []) c is = no_number word c (bytes_eq word (codes "body")) (bytes_eq word (codes "nothing")) refl
      refl is
  core_written (kind ∷ k ∷ []) c is = a_count kind k c (bytes_eq kind (codes "m")) (bytes_eq kind (codes "row")) refl
      refl is
  core_written (kind ∷ k ∷ more ∷ words) c is = absurd (cc is)

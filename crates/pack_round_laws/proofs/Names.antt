-- Names of numbers, messages, cells and headers are read back.
use Rattle.std.proofs.Common.{◌≡◌, ℕ, zero, suc, ◌<◌, ◌≤◌, true, false, List, [], ◌∷◌, ◌++◌, map, length, get_or}
use Rattle.std.proofs.Common.{slice_get, slice_index, slice_index_or, Option, Some, None, option_map, option_and_then}
use Rattle.std.proofs.Common.{is_some, codes, decimal, bytes_eq, refl, sym, ap, ◌∙◌, subst, arith, append_assoc}
use Rattle.std.specs.List.{AllByRecursion, position_or_len}
use Rattle.std.specs.Option.{option_map_or}
use Rattle.std.proofs.Math.ListN.{get_or-map}
use Rattle.std.proofs.lemmas.Bool.{lt-ltb}
use Rattle.std.proofs.lemmas.List.{length-map}
use Rattle.std.proofs.lemmas.List.FromFn.{get_or-map-range_with_len}
use Rattle.std.proofs.lemmas.Slice.Eq.{bytes_eq-Decides}
use Rattle.layer_mean.specs.Headers.{header_of_tag, header_none}
use Rattle.layer_mean.specs.Tree.{Carried, CellTree, HeaderTree, ItemsTree, LayerTree, no_layer}
use Rattle.trace_mean.specs.Trace.{Atom, number, peer, field, bound, taken_number, value, Core, body, noted}
use Rattle.trace_mean.specs.Trace.{taken_message, nothing}
use Rattle.trace_mean.specs.Fuse.{form_at}
use Rattle.trace_form_laws.specs.Closed.{AtomIsMade, CoreIsMade}
use Rattle.bypass_mean.specs.Text.{layer_of, numbers_called, cell_name, atom_text, core_text}
use Rattle.pack_mean.specs.Reader.{Reader, ◌>>=◌, is_name_byte, a_name}
use Rattle.pack_mean.specs.Named.{Named, no_items, items_at, below, place_of, atom_named, core_named, cell_named}
use Rattle.pack_mean.specs.Expression.{Inner, a_cell, begun_by}
use Rattle.pack_mean.specs.Operation.{tag_named}
use Rattle.pack_laws.specs.Written.{note_name, written_with}
use Rattle.pack_laws.proofs.Spelled.{reach_of}
use Rattle.pack_laws.proofs.Words.{called}
use Rattle.pack_laws.proofs.Writing.{name_text}
use Rattle.pack_round_laws.specs.Told.{IsWord, AreApart, AreTold, IsTold, AreToldApart}
use Rattle.pack_round_laws.proofs.Fits.{largest_number, AtomFits, CoreFits}
use Rattle.pack_round_laws.proofs.Front.{Finds, finds_then, finds_same, Stops, name_back, number_back, decimal_word}
use Rattle.pack_round_laws.proofs.Front.{decimal_differs, Leads, decimal_leads, leads_more}

pub all_at : {A : Type 0} (P : A → Type 0) (xs : List A) (k : ℕ) (d : A) → AllByRecursion P xs → k < length xs →
    P (get_or xs k d)
all_at P [] k d all inside = absurd (omega arith)
all_at P (x ∷ xs) zero d all inside = all.0
all_at P (x ∷ xs) (suc k) d all inside = all_at P xs k d all.1 (omega arith)

-- each name is found at its own place
apart_place : (names : List (List ℕ)) (k : ℕ) → AreApart names → k < length names →
    position_or_len (bytes_eq (get_or names k [])) names ≡ k
apart_place [] k apart inside = absurd (omega arith)
apart_place (name ∷ names) zero apart inside = rw ((bytes_eq-Decides name name).1 refl) refl
apart_place (name ∷ names) (suc k) apart inside =
    let other = all_at (λ other. bytes_eq other name ≡ false) names k [] apart.0 (omega arith) in
    let more = apart_place names k apart.1 (omega arith) in
    rw other (omega (arith, more))

pub place_back : (names : List (List ℕ)) (k : ℕ) → AreApart names → k < length names →
    place_of (slice_index_or names k []) names ≡ Some k
place_back names k apart inside = rw (apart_place names k apart inside, lt-ltb k (length names) inside) refl

pub below_back : (limit n : ℕ) → n < limit → n ≤ largest_number → below limit (decimal n) ≡ Some n
below_back limit n inside most = rw (number_back n most, lt-ltb n limit inside) refl

shown_at : {A : Type 0} (f : A → List ℕ) (xs : List A) (c : ℕ) →
    get_or (map f xs) c [] ≡ option_map_or f (slice_get xs c) []
shown_at f [] c = refl
shown_at f (x ∷ xs) zero = refl
shown_at f (x ∷ xs) (suc c) = shown_at f xs c

-- numbers and messages for which no cell is read
pub record IsSmall (s : Named) : Type 0 where
  pub fields : s.fields ≤ largest_number
  pub binds : s.binds ≤ largest_number
  pub notes : s.notes ≤ largest_number
  pub rows : length s.rows ≤ largest_number
  pub told : AllByRecursion (λ items. AreTold items.numbers) s.rows

-- the words of a text, and that they spell this
pub record Names {A : Type 0} (named : List (List ℕ) → Option A) (text : List ℕ) (a : A) : Type 0 where
  pub first : List ℕ
  pub more : List (List ℕ)
  pub is_word : IsWord first
  pub are_words : AllByRecursion IsWord more
  pub text_is : text ≡ name_text (first ∷ more)
  pub said : named (first ∷ more) ≡ Some a

module _ (before : List (List ℕ)) (s : Named) (small : IsSmall s) where
  abbrev pub AtomText : Atom → List ℕ
  AtomText a = atom_text (written_with before s) a

  abbrev pub CoreText : Core → List ℕ
  CoreText c = core_text (written_with before s) c

  row_is : (row k : ℕ) → k < slice_index (map (λ (items : ItemsTree). length items.numbers) s.rows) row →
      row < length s.rows
  row_is row k inside = go s.rows row inside where
    go : (rs : List ItemsTree) (r : ℕ) → k < slice_index (map (λ (items : ItemsTree). length items.numbers) rs) r →
        r < length rs
    go [] r h = absurd (omega arith)
    go (x ∷ rs) zero h = omega arith
    go (x ∷ rs) (suc r) h = let more = go rs r h in omega (arith, more)

  pub atom_names : (a : Atom) → AtomIsMade (reach_of s) a → AtomFits a → Names (atom_named s) (AtomText a) a
  atom_names (number n) made fits = record {
    first = decimal n;
    more = [];
    is_word = decimal_word n fits;
    are_words = tt;
    text_is = refl;
    said = rw (decimal_differs n (codes "peer") fits refl, number_back n fits) refl;
  }
  atom_names peer made fits =
      record { first = codes "peer"; more = []; is_word = refl; are_words = tt; text_is = refl; said = refl }
  atom_names (field n) made fits =
      let few = small.fields in
      let most : n ≤ largest_number = omega (arith, few, made) in
      record {
        first = codes "in";
        more = decimal n ∷ [];
        is_word = refl;
        are_words = (decimal_word n most, tt);
        text_is = refl;
        said = rw (below_back s.fields n made most) refl;
      }
  atom_names (bound n) made fits =
      let few = small.binds in
      let most : n ≤ largest_number = omega (arith, few, made) in
      record {
        first = codes "t";
        more = decimal n ∷ [];
        is_word = refl;
        are_words = (decimal_word n most, tt);
        text_is = refl;
        said = rw (below_back s.binds n made most) refl;
      }
  atom_names (taken_number row k) made fits =
      let few = small.rows in
      let inside = row_is row k made in
      let most : row ≤ largest_number = omega (arith, few, inside) in
      let names = (slice_index_or s.rows row no_items).numbers in
      let called = sym (get_or-map (λ (items : ItemsTree). items.numbers) s.rows row no_items) in
      let told = all_at (λ items. AreTold items.numbers) s.rows row no_items small.told inside in
      let below_items : k < length names =
      subst (λ n. k < n) (get_or-map (λ (items : ItemsTree). length items.numbers) s.rows row no_items) made in
      record {
        first = codes "row";
        more = decimal row ∷ slice_index_or names k [] ∷ [];
        is_word = refl;
        are_words = (decimal_word row most, (all_at IsWord names k [] told.words below_items, tt));
        text_is = append_assoc (codes "row." ++ decimal row) (codes ".") _ ∙
            append_assoc (codes "row.") (decimal row) _ ∙
            ap (λ ns. codes "row." ++ (decimal row ++ (codes "." ++ slice_index_or ns k []))) (sym called);
        said = rw (below_back (length s.rows) row inside most, place_back names k told.apart below_items) refl;
      }
  atom_names (value n) made fits = absurd made

  of_row : (o : Option (List ℕ × Carried)) (row : ℕ) (carried : Carried) → option_map (λ message. message.1) o ≡
      Some carried →
      option_and_then (λ message. Some (taken_message row message.1)) o ≡ Some (taken_message row carried)
  of_row None row carried is = absurd (cc is)
  of_row (Some m) row carried is = ap (λ o. option_map (λ c. taken_message row c) o) is

  -- and that a message's spell no number
  pub record Messages (c : Core) : Type 0 where
    pub names : Names (core_named s) (CoreText c) c
    pub no_number : atom_named s (names.first ∷ names.more) ≡ None

  pub core_names : (c : Core) → CoreIsMade (reach_of s) c → CoreFits s.rows c → Messages c
  core_names body made fits = record {
    names = record { first = codes "body"; more = []; is_word = refl; are_words = tt; text_is = refl; said = refl };
    no_number = refl;
  }
  core_names nothing made fits = record {
    names = record { first = codes "nothing"; more = []; is_word = refl; are_words = tt; text_is = refl; said = refl };
    no_number = refl;
  }
  core_names (noted n) made fits =
      let few = small.notes in
      let most : n ≤ largest_number = omega (arith, few, made) in
      record {
        names = record {
          first = codes "m";
          more = decimal n ∷ [];
          is_word = refl;
          are_words = (decimal_word n most, tt);
          text_is = get_or-map-range_with_len note_name 0 s.notes n n [] made (omega arith);
          said = rw (below_back s.notes n made most) refl;
        };
        no_number = refl;
      }
  core_names (taken_message row carried) made fits =
      let few = small.rows in
      let inside : row < length s.rows =
      subst (λ n. row < n) (length-map s.rows (λ (items : ItemsTree). length items.numbers)) made in
      let most : row ≤ largest_number = omega (arith, few, inside) in
      record {
        names = record {
          first = codes "row";
          more = decimal row ∷ [];
          is_word = refl;
          are_words = (decimal_word row most, tt);
          text_is = refl;
          said = rw (below_back (length s.rows) row inside most)
              (of_row (slice_index_or s.rows row no_items).message row carried fits);
        };
        no_number = refl;
      }

-- cells, and known headers
module _ (stack : List LayerTree) (told : AreToldApart stack) (few : length stack ≤ largest_number) where
  pub layer_told : (p : ℕ) → p < length stack → IsTold (layer_of stack p)
  layer_told p inside = all_at IsTold stack p no_layer told inside

  -- a cell's names, which are two and spell no number by themselves
  pub record CellNames (s : Named) (p c : ℕ) : Type 0 where
    pub names : Names (cell_named stack) (cell_name stack p c) (p, c)
    pub no_number : atom_named s (names.first ∷ names.more) ≡ None
    pub leads : Leads (cell_name stack p c)
    pub begins : (inner : Inner) → begun_by stack inner (names.first ∷ names.more) ≡
        a_cell stack inner (names.first ∷ names.more)

  pub cell_names : (s : Named) (p c : ℕ) → p < length stack → c < length (layer_of stack p).cells → CellNames s p c
  cell_names s p c inside there =
      let layer = layer_of stack p in
      let names = map (λ (cell : CellTree). cell.name) layer.cells in
      let names_told = (layer_told p inside).cells in
      let here : c < length names = subst (λ n. c < n) (sym (length-map layer.cells (λ (cell : CellTree). cell.name)))
      there in
      let most : p ≤ largest_number = omega (arith, few, inside) in
      record {
        names = record {
          first = decimal p;
          more = slice_index_or names c [] ∷ [];
          is_word = decimal_word p most;
          are_words = (all_at IsWord names c [] names_told.words here, tt);
          text_is = append_assoc (decimal p) (codes ".") _ ∙
              ap (λ l. decimal p ++ (codes "." ++ l)) (sym (shown_at (λ (cell : CellTree). cell.name) layer.cells c));
          said = rw (below_back (length stack) p inside most, place_back names c names_told.apart here) refl;
        };
        no_number = rw (decimal_differs p (codes "in") most refl, decimal_differs p (codes "t") most refl) refl;
        leads = leads_more (decimal p ++ codes ".") _ (leads_more (decimal p) (codes ".") (decimal_leads p most));
        begins = λ inner. refl;
      }

  is_declared : (headers : List HeaderTree) (tag : ℕ) → is_some (slice_get headers tag) ≡ true → tag < length headers
  is_declared [] tag is = absurd (cc is)
  is_declared (h ∷ hs) zero is = omega arith
  is_declared (h ∷ hs) (suc tag) is = let more = is_declared hs tag is in omega (arith, more)

  pub tag_names : (p tag : ℕ) → p < length stack → is_some (header_of_tag (layer_of stack p) tag) ≡ true →
      Names (tag_named (layer_of stack p))
      ((layer_of stack p).name ++ codes "." ++ option_map_or (λ (h : HeaderTree). h.name)
      (header_of_tag (layer_of stack p) tag) []) tag
  tag_names p tag inside is =
      let layer = layer_of stack p in
      let names = map (λ (h : HeaderTree). h.name) (header_none ∷ layer.headers) in
      let layer_told = layer_told p inside in
      let here : tag < length names =
      subst (λ n. tag < n) (sym (length-map (header_none ∷ layer.headers) (λ (h : HeaderTree). h.name)))
      (is_declared (header_none ∷ layer.headers) tag is) in
      record {
        first = layer.name;
        more = slice_index_or names tag [] ∷ [];
        is_word = layer_told.name;
        are_words = (all_at IsWord names tag [] layer_told.headers.words here, tt);
        text_is = append_assoc layer.name (codes ".") _ ∙
            ap (λ l. layer.name ++ (codes "." ++ l))
            (sym (shown_at (λ (h : HeaderTree). h.name) (header_none ∷ layer.headers) tag));
        said = rw ((bytes_eq-Decides layer.name layer.name).1 refl)
            (place_back names tag layer_told.headers.apart here);
      }

  -- the names of the numbers of a queue's rows
  told_in : (cells : List CellTree) (c : ℕ) →
      AllByRecursion (λ (cell : CellTree). AreTold (numbers_called (Some cell.form))) cells →
      AreTold (numbers_called (option_map (λ cell. cell.form) (slice_get cells c)))
  told_in [] c all = record { words = tt; apart = tt }
  told_in (cell ∷ cells) zero all = all.0
  told_in (cell ∷ cells) (suc c) all = told_in cells c all.1

  pub rows_told : (p c : ℕ) → p < length stack → AreTold (items_at stack p c).numbers
  rows_told p c inside = subst AreTold (sym (called (form_at (layer_of stack p) c)))
      (told_in (layer_of stack p).cells c (layer_told p inside).rows)

-- what a name is read as, and what follows
pub finds_name : {A B : Type 0} (named : List (List ℕ) → Option A) (text : List ℕ) (a : A) (x : Names named text a)
    (next : List (List ℕ) → Reader B)
    (more : List ℕ) (y : B) (rest : List ℕ) → Stops is_name_byte more → Finds (next (x.first ∷ x.more)) more y rest →
    Finds (a_name >>= next) (text ++ more) y rest
finds_name named text a x next more y rest stops h =
    finds_same (a_name >>= next) (text ++ more) (name_text (x.first ∷ x.more) ++ more) y rest
    (ap (λ l. l ++ more) x.text_is)
    (finds_then a_name next (name_text (x.first ∷ x.more) ++ more) (x.first ∷ x.more) more y rest
    (name_back x.first x.more more x.is_word x.are_words stops) h)

pub finds_word : {B : Type 0} (word : List ℕ) (next : List (List ℕ) → Reader B) (more : List ℕ) (y : B)
    (rest : List ℕ) → IsWord word →
    Stops is_name_byte more → Finds (next (word ∷ [])) more y rest → Finds (a_name >>= next) (word ++ more) y rest
finds_word word next more y rest is stops h = finds_then a_name next (word ++ more) (word ∷ []) more y rest
    (name_back word [] more is tt stops) h

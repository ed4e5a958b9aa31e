-- One place more, and what the library brings for it.
use Rattle.std.proofs.Common.{◌≡◌, ◌≢◌, ℕ, ◌+◌, ◌<◌, List, [], ◌∷◌, ◌++◌, length, take, get_or, map, filter, filter_map}
use Rattle.std.proofs.Common.{Bool, true, false, not, ◌||◌, cond, if◌then◌else◌, Some, None, bytes_eq, refl, sym, ap}
use Rattle.std.proofs.Common.{subst, ◌∙◌, append-nil}
use Rattle.std.proofs.lemmas.List.{map_more, map-append}
use Rattle.std.proofs.lemmas.List.Elements.{filter-append, filter_map-append}
use Rattle.std.proofs.lemmas.List.Folds.{list_any-append}
use Rattle.std.proofs.lemmas.Slice.Eq.{bytes_eq-Decides}
use Rattle.std.specs.List.{AllZip, list_any, cons_option}
use Rattle.file_mean.specs.Library.{SpellsLayer, lacks, each_once}
use Rattle.layer_words.specs.declared.words.Word.{Word}
use Rattle.layer_ast.specs.declared.syntax.Layer.{Layer}
use Rattle.layer_ast.specs.declared.syntax.Place.{Place}
use Rattle.layer_ast.specs.Tree.{LayerTree}
use Rattle.layer_ast.specs.View.{layer_tree, place_tree}
use Rattle.file_library.specs.Library.{library_text}
use Rattle.file_parse.specs.Library.{of_layers, called_texts, has, Brought, BringsFor}

-- words that are equal by their bytes are the same
same_word : (a b : Word) → bytes_eq a b ≡ true → a ≡ b
same_word a b is = (bytes_eq-Decides a b).0 is

either_way : (a b : Word) → bytes_eq b a ≡ bytes_eq a b
either_way a b = turned (bytes_eq a b) (bytes_eq b a) refl refl
  where
    turned : (x y : Bool) → bytes_eq a b ≡ x → bytes_eq b a ≡ y → y ≡ x
    turned true true h i = refl
    turned false false h i = refl
    turned true false h i = sym i ∙ (bytes_eq-Decides b a).1 (sym (same_word a b h))
    turned false true h i = sym (sym h ∙ (bytes_eq-Decides a b).1 (sym (same_word b a i)))

has_push : (words : List Word) (w v : Word) → has (words ++ w ∷ []) v ≡ (has words v || (bytes_eq w v || false))
has_push words w v = list_any-append (λ other. bytes_eq other v) words (w ∷ [])

-- what one more word adds to words that stand each once
abbrev fresh : List Word → Word → List Word
fresh words w = if has words w then [] else w ∷ []

fresh_cases : (x w : Word) (a b : Bool) → bytes_eq w x ≡ a →
    filter (λ other. not (bytes_eq other x)) (if b then [] else w ∷ []) ≡ (if a || b then [] else w ∷ [])
fresh_cases x w true true is = refl
fresh_cases x w false true is = refl
fresh_cases x w true false is = ap (λ c. cond (not c) (w ∷ []) []) is
fresh_cases x w false false is = ap (λ c. cond (not c) (w ∷ []) []) is

each_once_push : (words : List Word) (w : Word) → each_once (words ++ w ∷ []) ≡ each_once words ++ fresh words w
each_once_push [] w = refl
each_once_push (x ∷ words) w =
    ap (λ rest. x ∷ filter (λ other. not (bytes_eq other x)) rest) (each_once_push words w)
    ∙ ap (λ rest. x ∷ rest) (filter-append (λ other. not (bytes_eq other x)) (each_once words) (fresh words w)
    ∙ ap (λ rest. filter (λ other. not (bytes_eq other x)) (each_once words) ++ rest)
    (fresh_cases x w (bytes_eq x w) (has words w) (either_way x w)))

-- a word that passes is among those that pass where it is among all
passing : (p : Word → Bool) (x w : Word) (words : List Word) (a b : Bool) → p x ≡ a → bytes_eq x w ≡ b → p w ≡ true →
    has (filter p words) w ≡ has words w → has (cond a (x ∷ filter p words) (filter p words)) w ≡ (b || has words w)
passing p x w words true b is same passes rest = ap (λ c. c || has (filter p words) w) same ∙ ap (λ c. b || c) rest
passing p x w words false false is same passes rest = rest
passing p x w words false true is same passes rest =
    let one : p x ≡ p w = ap p (same_word x w same) in absurd (cc (one, is, passes))

has_filter : (p : Word → Bool) (words : List Word) (w : Word) → p w ≡ true → has (filter p words) w ≡ has words w
has_filter p [] w passes = refl
has_filter p (x ∷ words) w passes =
    passing p x w words (p x) (bytes_eq x w) refl refl passes (has_filter p words w passes)

module _ (layers : List LayerTree) (words : List Word) (w : Word) where
  -- a word that the file has adds nothing
  called_had : lacks (of_layers layers) w ≡ false → called_texts layers (words ++ w ∷ []) ≡ called_texts layers words
  called_had is =
      ap (λ rest. filter_map library_text (each_once rest))
      (filter-append (lacks (of_layers layers)) words (w ∷ [])
      ∙ (ap (λ c. filter (lacks (of_layers layers)) words ++ cond c (w ∷ []) []) is
      ∙ append-nil (filter (lacks (of_layers layers)) words)))

  -- a word that the file lacks adds its text, where it is new and the library has one
  called_lacked : lacks (of_layers layers) w ≡ true →
      called_texts layers (words ++ w ∷ []) ≡ called_texts layers words ++ filter_map library_text (fresh words w)
  called_lacked is =
      ap (λ rest. filter_map library_text (each_once rest))
      (filter-append (lacks (of_layers layers)) words (w ∷ [])
      ∙ ap (λ c. filter (lacks (of_layers layers)) words ++ cond c (w ∷ []) []) is)
      ∙ (ap (filter_map library_text) (each_once_push (filter (lacks (of_layers layers)) words) w)
      ∙ (filter_map-append library_text (each_once (filter (lacks (of_layers layers)) words))
      (fresh (filter (lacks (of_layers layers)) words) w)
      ∙ ap (λ b. called_texts layers words ++ filter_map library_text (if b then [] else w ∷ []))
      (has_filter (lacks (of_layers layers)) words w is)))

  -- a word that the library doesn't know adds nothing
  called_unknown : library_text w ≡ None → called_texts layers (words ++ w ∷ []) ≡ called_texts layers words
  called_unknown none = unknown (lacks (of_layers layers) w) (has words w) refl refl
    where
      unknown : (a b : Bool) → lacks (of_layers layers) w ≡ a → has words w ≡ b →
          called_texts layers (words ++ w ∷ []) ≡ called_texts layers words
      unknown false b is same = called_had is
      unknown true true is same =
          called_lacked is
          ∙ (ap (λ c. called_texts layers words ++ filter_map library_text (if c then [] else w ∷ [])) same
          ∙ append-nil (called_texts layers words))
      unknown true false is same =
          called_lacked is
          ∙ (ap (λ c. called_texts layers words ++ filter_map library_text (if c then [] else w ∷ [])) same
          ∙ (ap (λ o. called_texts layers words ++ cons_option o []) none ∙ append-nil (called_texts layers words)))

  -- nor does one that was there
  called_again : has words w ≡ true → called_texts layers (words ++ w ∷ []) ≡ called_texts layers words
  called_again same = again (lacks (of_layers layers) w) refl
    where
      again : (a : Bool) → lacks (of_layers layers) w ≡ a → called_texts layers (words ++ w ∷ []) ≡
          called_texts layers words
      again false is = called_had is
      again true is =
          called_lacked is
          ∙ (ap (λ c. called_texts layers words ++ filter_map library_text (if c then [] else w ∷ [])) same
          ∙ append-nil (called_texts layers words))

  -- a new word of the library that the file lacks adds its text
  called_new : (text : List ℕ) → library_text w ≡ Some text → lacks (of_layers layers) w ≡ true → has words w ≡ false →
      called_texts layers (words ++ w ∷ []) ≡ called_texts layers words ++ text ∷ []
  called_new text is lacking new =
      called_lacked lacking
      ∙ (ap (λ c. called_texts layers words ++ filter_map library_text (if c then [] else w ∷ [])) new
      ∙ ap (λ o. called_texts layers words ++ cons_option o []) is)

all_zip_push : (xs : List (List ℕ)) (ys : List LayerTree) (x : List ℕ) (y : LayerTree) → AllZip SpellsLayer xs ys →
    SpellsLayer x y → AllZip SpellsLayer (xs ++ x ∷ []) (ys ++ y ∷ [])
all_zip_push [] [] x y h i = (i, tt)
all_zip_push [] (b ∷ ys) x y h i = absurd h
all_zip_push (a ∷ xs) [] x y h i = absurd h
all_zip_push (a ∷ xs) (b ∷ ys) x y h i = (h.0, all_zip_push xs ys x y h.1 i)

-- which words are known, after one more
or_nothing : (a b : Bool) → b ≡ false → a ≡ (a || (b || false))
or_nothing true b is = refl
or_nothing false b is = sym (ap (λ c. c || false) is)

or_something : (a b : Bool) → a ≡ true → a ≡ (a || (b || false))
or_something a b is = is ∙ sym (ap (λ c. c || (b || false)) is)

known_other : (seen words : List Word) (w v : Word) → has seen v ≡ has words v →
    (bytes_eq w v ≡ true → has words v ≡ true) →
    has seen v ≡ has (words ++ w ∷ []) v
known_other seen words w v known same = other (bytes_eq w v) refl
  where
    other : (b : Bool) → bytes_eq w v ≡ b → has seen v ≡ has (words ++ w ∷ []) v
    other true is = known ∙ (or_something (has words v) (bytes_eq w v) (same is) ∙ sym (has_push words w v))
    other false is = known ∙ (or_nothing (has words v) (bytes_eq w v) is ∙ sym (has_push words w v))

known_more : (seen words : List Word) (w v : Word) → has seen v ≡ has words v →
    has (seen ++ w ∷ []) v ≡ has (words ++ w ∷ []) v
known_more seen words w v known =
    has_push seen w v ∙ (ap (λ b. b || (bytes_eq w v || false)) known ∙ sym (has_push words w v))

some_text : (w : Word) (text : List ℕ) → Some text ≡ library_text w → library_text w ≢ None
some_text w text is none = cc

-- whether a file of these layers lacks a word
lacking : (layers : List Layer) (w : Word) →
    list_any (λ layer. bytes_eq layer.name.word w) (map layer_tree layers)
    ≡ list_any (λ layer. bytes_eq layer.name.word w) layers
lacking [] w = refl
lacking (l ∷ layers) w = ap (λ b. bytes_eq l.name.word w || b) (lacking layers w)

-- the ways in which one more word is dealt with
pub unknown : (layers : List Layer) (w : Word) (seen : List Word) (all : List Layer) → None ≡ library_text w →
    BringsFor (map layer_tree layers) w seen seen (map layer_tree all) (map layer_tree all)
unknown layers w seen all none = record {
  brings = λ words before. record {
    spelled = subst (λ texts. AllZip SpellsLayer texts (map layer_tree all))
        (sym (called_unknown (map layer_tree layers) words w (sym none))) before.spelled;
    known = λ v some. known_other seen words w v (before.known v some)
        (λ is. absurd (some (ap library_text (sym (same_word w v is)) ∙ sym none)));
  };
}

pub repeated : (layers : List Layer) (w : Word) (text : List ℕ) (seen : List Word) (all : List Layer) →
    Some text ≡ library_text w → true ≡ has seen w →
    BringsFor (map layer_tree layers) w seen seen (map layer_tree all) (map layer_tree all)
repeated layers w text seen all is again = record {
  brings = λ words before.
      let there : has words w ≡ true = sym (before.known w (some_text w text is)) ∙ sym again in
      record {
        spelled = subst (λ texts. AllZip SpellsLayer texts (map layer_tree all))
            (sym (called_again (map layer_tree layers) words w there)) before.spelled;
        known = λ v some. known_other seen words w v (before.known v some)
            (λ same. ap (has words) (sym (same_word w v same)) ∙ there);
      };
}

pub had : (layers : List Layer) (w : Word) (text : List ℕ) (seen later : List Word) (all : List Layer) →
    Some text ≡ library_text w → true ≡ list_any (λ layer. bytes_eq layer.name.word w) layers → later ≡ seen ++ w ∷ [] →
    BringsFor (map layer_tree layers) w seen later (map layer_tree all) (map layer_tree all)
had layers w text seen later all is there pushed = rw pushed record {
  brings = λ words before. record {
    spelled = subst (λ texts. AllZip SpellsLayer texts (map layer_tree all))
        (sym (called_had (map layer_tree layers) words w (ap not (lacking layers w ∙ sym there)))) before.spelled;
    known = λ v some. known_more seen words w v (before.known v some);
  };
}

pub brought : (layers : List Layer) (w : Word) (text : List ℕ) (seen later : List Word) (all more : List Layer)
    (l : Layer) →
    Some text ≡ library_text w → false ≡ has seen w → false ≡ list_any (λ layer. bytes_eq layer.name.word w) layers →
    later ≡ seen ++ w ∷ [] → SpellsLayer text (layer_tree l) → more ≡ all ++ l ∷ [] →
    BringsFor (map layer_tree layers) w seen later (map layer_tree all) (map layer_tree more)
brought layers w text seen later all more l is new lacked pushed spells grown = rw (pushed, grown) record {
  brings = λ words before.
      let absent : has words w ≡ false = sym (before.known w (some_text w text is)) ∙ sym new in
      record {
        spelled = rw (
          map-append layer_tree all (l ∷ []),
          called_new (map layer_tree layers) words w text (sym is) (ap not (lacking layers w ∙ sym lacked)) absent,
        )
            (all_zip_push (called_texts (map layer_tree layers) words) (map layer_tree all) text (layer_tree l)
            before.spelled
            spells);
        known = λ v some. known_more seen words w v (before.known v some);
      };
}

-- nothing is brought for no place
pub none_yet : (layers : List LayerTree) → Brought layers [] [] []
none_yet layers = record { spelled = tt; known = λ word some. refl }

-- one place more in the loop
pub next_place : (layers : List LayerTree) (places : List Place) (i : ℕ) (p : Place) (seen later : List Word)
    (before following : List LayerTree) → i < length places → p ≡ get_or places i p →
    Brought layers (map (λ place. place.name.word) (map place_tree (take i places))) seen before →
    BringsFor layers p.name.word seen later before following →
    Brought layers (map (λ place. place.name.word) (map place_tree (take (i + 1) places))) later following
next_place layers places i p seen later before following within is so_far brings =
    rw (
      map_more place_tree places i p within,
      ← is,
      map-append (λ place. place.name.word) (map place_tree (take i places)) (place_tree p ∷ []),
    )
    (brings.brings (map (λ place. place.name.word) (map place_tree (take i places))) so_far)

-- No line of a trace has a line feed in it.
use Rattle.std.proofs.Common.{◌≡◌, ℕ, zero, suc, ◌+◌, ◌/◌, ◌%◌, ◌<◌, ◌≤◌, Bool, true, false, not, ◌==◌, List, [], ◌∷◌}
use Rattle.std.proofs.Common.{◌++◌, map, flat_map, length, slice_index_or, Option, Some, None, is_some, option_to_list}
use Rattle.std.proofs.Common.{codes, decimal, refl, sym, ◌∙◌, subst, arith, inl, inr}
use Rattle.std.specs.Prelude.{if◌then◌else◌}
use Rattle.std.specs.Fmt.{digits, digits_onto, digit_glyph}
use Rattle.std.specs.List.{AllByRecursion, list_all, join_by, join_with_byte}
use Rattle.std.specs.Option.{option_map_or}
use Rattle.std.proofs.lemmas.Bool.{and_parts, eqb-true}
use Rattle.std.proofs.lemmas.Bool.Decides.{nat_tests}
use Rattle.std.proofs.lemmas.List.Folds.{list_all-append}
use Rattle.layer_words.specs.declared.events.Dir.{Dir}
use Rattle.layer_words.specs.declared.events.Dir.TheVariants.{Up, Down}
use Rattle.layer_words.specs.declared.events.Kind.{Kind}
use Rattle.layer_words.specs.declared.events.Kind.TheVariants as kind
use Rattle.layer_words.specs.declared.operators.Function.{Function}
use Rattle.layer_words.specs.declared.operators.Function.TheVariants.{Not, Bit, Count, Lowest}
use Rattle.layer_words.specs.declared.operators.Operator.{Operator}
use Rattle.layer_words.specs.declared.operators.Operator.TheVariants.{Add, Subtract, Multiply, Equal, NotEqual, Less}
use Rattle.layer_words.specs.declared.operators.Operator.TheVariants.{LessOrEqual, Greater, GreaterOrEqual, And, Or}
use Rattle.layer_words.specs.declared.operators.Operator.TheVariants.{BitAnd}
use Rattle.layer_words.specs.declared.operators.Operator.TheVariants.{BitOr, BitXor}
use Rattle.layer_words.specs.declared.sorts.Shape.TheVariants.{One, Array, Square}
use Rattle.layer_words.specs.Signs.{direction_sign, function_sign, operator_sign}
use Rattle.layer_words.specs.Spelling.{is_word_byte, kinds, kind_word, reserved, symbols}
use Rattle.layer_mean.specs.Headers.{header_of_tag}
use Rattle.layer_mean.specs.Tree.{Carried, Form, HeaderTree, ItemsTree, LayerTree, numbers, queue, queues}
use Rattle.chain_laws.specs.Named.{shape_in, alone_in, among_in}
use Rattle.chain_laws.proofs.Lists.{each_append}
use Rattle.trace_mean.specs.Trace as trace
use Rattle.trace_mean.specs.Trace.{Atom, Core, TraceNumber, TraceMessage, Link, Chained, Operation}
use Rattle.trace_mean.specs.Fuse.{form_at}
use Rattle.trace_form_laws.specs.Names.{AtomNames, LinkNames, SentNames, NumberNames, MessageNames, OperationNames}
use Rattle.trace_form_laws.specs.Closed.{AtomIsMade, CoreIsMade, IsMade}
use Rattle.trace_form_laws.specs.There.{HasNumber, HasRows, HasQueue, HasItem, IsThere}
use Rattle.bypass_mean.specs.Text.{layer_of, bracketed_list, bracketed_index, with_index, atom_text}
use Rattle.layer_words.specs.Spelling.{sign_text}
use Rattle.bypass_mean.specs.Text.{core_text, cell_name}
use Rattle.bypass_mean.specs.Text.{cell_text, number_text, message_text, link_text, chain_text, following, pushed_text}
use Rattle.pack_mean.specs.Named.{Named, items_at, atom_named, core_named, cell_named}
use Rattle.pack_mean.specs.Expression.{most_brackets}
use Rattle.pack_mean.specs.Operation.{tag_named}
use Rattle.pack_laws.specs.Written.{note_name, written_with, line_with}
use Rattle.pack_laws.proofs.Spelled.{reach_of}
use Rattle.pack_laws.proofs.Words.{called}
use Rattle.pack_round_laws.specs.Told.{IsWord, AreToldApart}
use Rattle.pack_round_laws.proofs.Fits.{largest_number, AtomFits, CoreFits, NumberFits, MessageFits, LinkFits}
use Rattle.pack_round_laws.proofs.Fits.{ChainFits}
use Rattle.pack_round_laws.proofs.Fits.{SentFits, RowFits, index_brackets, OperationFits}
use Rattle.pack_round_laws.proofs.Names.{all_at, IsSmall, Names, atom_names, core_names, tag_names, cell_names}
use Rattle.pack_round_laws.proofs.Names.{rows_told}
use Rattle.pack_round_laws.proofs.Numbers.{form_of, rows_are}

abbrev pub is_plain_byte : ℕ → Bool
is_plain_byte byte = not (byte == 10)

abbrev pub IsPlain : List ℕ → Type 0
IsPlain text = list_all is_plain_byte text ≡ true

pub plain_both : (a b : List ℕ) → IsPlain a → IsPlain b → IsPlain (a ++ b)
plain_both a b h k = list_all-append is_plain_byte a b ∙ rw h k

word_plain_byte : (byte : ℕ) → is_word_byte byte ≡ true → is_plain_byte byte ≡ true
word_plain_byte byte is = go (byte == 10) refl where
  go : (b : Bool) → (byte == 10) ≡ b → not b ≡ true
  go true e = absurd (cc (subst (λ n. is_word_byte n ≡ true) (eqb-true byte 10 e) is))
  go false e = refl

pub word_plain : (word : List ℕ) → IsWord word → IsPlain word
word_plain [] is = refl
word_plain (byte ∷ word) is =
    let parts = and_parts (is_word_byte byte) (list_all is_word_byte word) is in
    rw (word_plain_byte byte parts.0) (word_plain word parts.1)

pub words_plain : (word : List ℕ) (words : List (List ℕ)) → IsWord word → AllByRecursion IsWord words →
    IsPlain (join_with_byte 46 (word ∷ words))
words_plain word [] is are = word_plain word is
words_plain word (next ∷ words) is are =
    plain_both word (46 ∷ join_with_byte 46 (next ∷ words)) (word_plain word is) (words_plain next words are.0 are.1)

-- digits
glyph_plain : (n : ℕ) → is_plain_byte (digit_glyph false n) ≡ true
glyph_plain n = grind (arith, nat_tests)

digits_plain : (k n : ℕ) (acc : List ℕ) → IsPlain acc → IsPlain (digits_onto k 10 false n acc)
digits_plain zero n acc h = h
digits_plain (suc k) n acc h = go (n / 10 == 0) (digits_plain k (n / 10) (digit_glyph false (n % 10) ∷ acc) onto) where
  onto : IsPlain (digit_glyph false (n % 10) ∷ acc)
  onto = rw (glyph_plain (n % 10)) h

  go : (b : Bool) → IsPlain (digits_onto k 10 false (n / 10) (digit_glyph false (n % 10) ∷ acc)) →
      IsPlain (if b then digit_glyph false (n % 10) ∷
      acc else digits_onto k 10 false (n / 10) (digit_glyph false (n % 10) ∷ acc))
  go true more = onto
  go false more = more

pub decimal_plain : (n : ℕ) → IsPlain (decimal n)
unfolding digits
decimal_plain n = digits_plain 64 n [] refl

-- parts with others between
pub parts_plain : {A : Type 0} (shown : A → List ℕ) (between : List ℕ) (xs : List A) → IsPlain between →
    AllByRecursion (λ x. IsPlain (shown x)) xs →
    IsPlain (join_by shown between xs)
parts_plain shown between [] h all = refl
parts_plain {A = A} shown between (x ∷ xs) h all = plain_both (shown x) (flat_map (λ y. between ++ shown y) xs) all.0
    (more xs all.1) where
      more : (ys : List A) → AllByRecursion (λ y. IsPlain (shown y)) ys →
          IsPlain (flat_map (λ y. between ++ shown y) ys)
      more [] each = refl
      more (y ∷ ys) each = plain_both (between ++ shown y) (flat_map (λ z. between ++ shown z) ys)
          (plain_both between (shown y) h each.0) (more ys each.1)

pub listed_plain : (parts : List (List ℕ)) → AllByRecursion IsPlain parts → IsPlain (bracketed_list parts)
listed_plain parts all = plain_both (codes "(" ++ join_by (λ part. part) (codes ",") parts) (codes ")")
    (plain_both (codes "(") (join_by (λ part. part) (codes ",") parts) refl
    (parts_plain (λ part. part) (codes ",") parts refl all)) refl

pub one_plain : (f a : List ℕ) → IsPlain f → IsPlain a → IsPlain (f ++ bracketed_list (a ∷ []))
one_plain f a h k = plain_both f (bracketed_list (a ∷ [])) h (listed_plain (a ∷ []) (k, tt))

pub two_plain : (f a b : List ℕ) → IsPlain f → IsPlain a → IsPlain b → IsPlain (f ++ bracketed_list (a ∷ b ∷ []))
two_plain f a b h k l = plain_both f (bracketed_list (a ∷ b ∷ [])) h (listed_plain (a ∷ b ∷ []) (k, (l, tt)))

pub three_plain : (f a b c : List ℕ) → IsPlain f → IsPlain a → IsPlain b → IsPlain c →
    IsPlain (f ++ bracketed_list (a ∷ b ∷ c ∷ []))
three_plain f a b c h k l m =
    plain_both f (bracketed_list (a ∷ b ∷ c ∷ [])) h (listed_plain (a ∷ b ∷ c ∷ []) (k, (l, (m, tt))))

pub indexed_plain : (index : List ℕ) → IsPlain index → IsPlain (bracketed_index index)
indexed_plain index h = plain_both (codes "[" ++ index) (codes "]") (plain_both (codes "[") index refl h) refl

pub shown_plain : (form : Option Form) (name index : List ℕ) → IsPlain name → IsPlain index →
    IsPlain (with_index form name index)
shown_plain None name index h k = plain_both name (bracketed_index index) h (indexed_plain index k)
shown_plain (Some (numbers One initial)) name index h k = h
shown_plain (Some (numbers Array initial)) name index h k =
    plain_both name (bracketed_index index) h (indexed_plain index k)
shown_plain (Some (numbers Square initial)) name index h k =
    plain_both name (bracketed_index index) h (indexed_plain index k)
shown_plain (Some (queue capacity items)) name index h k = h
shown_plain (Some (queues capacity items)) name index h k =
    plain_both name (bracketed_index index) h (indexed_plain index k)

operator_plain : (o : Operator) → IsPlain (sign_text (operator_sign o))
unfolding reserved symbols
operator_plain Add = refl
operator_plain Subtract = refl
operator_plain Multiply = refl
operator_plain Equal = refl
operator_plain NotEqual = refl
operator_plain Less = refl
operator_plain LessOrEqual = refl
operator_plain Greater = refl
operator_plain GreaterOrEqual = refl
operator_plain And = refl
operator_plain Or = refl
operator_plain BitAnd = refl
operator_plain BitOr = refl
operator_plain BitXor = refl

function_plain : (f : Function) → IsPlain (sign_text (function_sign f))
unfolding reserved symbols
function_plain Not = refl
function_plain Bit = refl
function_plain Count = refl
function_plain Lowest = refl

direction_plain : (dir : Dir) → IsPlain (sign_text (direction_sign dir))
unfolding reserved symbols
direction_plain Up = refl
direction_plain Down = refl

kind_plain : (k : Kind) → IsPlain (kind_word k)
unfolding kinds
kind_plain kind.Cast = refl
kind_plain kind.Send = refl
kind_plain kind.Timer = refl
kind_plain kind.Suspect = refl
kind_plain kind.Stable = refl
kind_plain kind.Ack = refl
kind_plain kind.Elect = refl
kind_plain kind.Block = refl
kind_plain kind.BlockOk = refl
kind_plain kind.Flushed = refl
kind_plain kind.View = refl
kind_plain kind.Leave = refl

names_plain : {A : Type 0} (named : List (List ℕ) → Option A) (text : List ℕ) (a : A) → Names named text a →
    IsPlain text
names_plain named text a x = subst IsPlain (sym x.text_is) (words_plain x.first x.more x.is_word x.are_words)

-- a cell that is named is there
number_there : (layer : LayerTree) (c : ℕ) (e : TraceNumber) → HasNumber layer c e → c < length layer.cells
number_there layer c e (inl one) = (form_of shape_in layer c One one.0).there
number_there layer c e (inr array) = (form_of shape_in layer c Array array).there

rows_there : (layer : LayerTree) (c : ℕ) (e : TraceNumber) (items : ItemsTree) → HasRows layer c e items →
    c < length layer.cells
rows_there layer c e items (inl alone) = (form_of alone_in layer c items alone.0).there
rows_there layer c e items (inr among) = (form_of among_in layer c items among).there

module _ (stack : List LayerTree) (told : AreToldApart stack) (few : length stack ≤ largest_number)
    (before : List (List ℕ)) (s : Named)
    (small : IsSmall s) where
  abbrev NumberText : TraceNumber → List ℕ
  NumberText e = number_text stack (written_with before s) e

  abbrev MessageText : TraceMessage → List ℕ
  MessageText m = message_text stack (written_with before s) m

  cell_plain : (p c : ℕ) → p < length stack → c < length (layer_of stack p).cells → IsPlain (cell_name stack p c)
  cell_plain p c inside there = names_plain
      (cell_named stack) _ (p, c) (cell_names stack told few s p c inside there).names

  index_plain : (p c : ℕ) (index : List ℕ) → p < length stack → c < length (layer_of stack p).cells → IsPlain index →
      IsPlain (cell_text stack p c index)
  index_plain p c index inside there h = shown_plain (form_at (layer_of stack p) c) (cell_name stack p c) index
      (cell_plain p c inside there) h

  atom_plain : (a : Atom) → AtomIsMade (reach_of s) a → AtomFits a → IsPlain (atom_text (written_with before s) a)
  atom_plain a made fits = names_plain (atom_named s) _ a (atom_names before s small a made fits)

  core_plain : (c : Core) → CoreIsMade (reach_of s) c → CoreFits s.rows c →
      IsPlain (core_text (written_with before s) c)
  core_plain c made fits = names_plain (core_named s) _ c (core_names before s small c made fits).names

  abbrev MadeNumber : TraceNumber → Type 0
  MadeNumber e = NumberNames (IsMade stack (reach_of s)) e

  abbrev ThereNumber : TraceNumber → Type 0
  ThereNumber e = NumberNames (IsThere stack) e

  abbrev MadeMessage : TraceMessage → Type 0
  MadeMessage m = MessageNames (IsMade stack (reach_of s)) m

  abbrev ThereMessage : TraceMessage → Type 0
  ThereMessage m = MessageNames (IsThere stack) m

  item_plain : (p c : ℕ) (e row : TraceNumber) (k : ℕ) → p < length stack → HasItem (layer_of stack p) c e k →
      IsPlain (NumberText e) →
      IsPlain (NumberText row) →
      IsPlain (NumberText (trace.item p c e row k))
  item_plain p c e row k inside has h l =
      let there = rows_there (layer_of stack p) c e has.items has.listed in
      let names = (items_at stack p c).numbers in
      let below : k < length names = subst (λ (items : ItemsTree). k < length items.numbers)
      (sym (rows_are stack told few before s small p c e has.items has.listed)) has.below in
      let name = all_at IsWord names k [] (rows_told stack told few p c inside).words below in
      plain_both (codes "at" ++ bracketed_list (cell_text stack p c (NumberText e) ∷ NumberText row ∷ []) ++ codes ".")
      _
      (plain_both (codes "at" ++ bracketed_list (cell_text stack p c (NumberText e) ∷ NumberText row ∷ [])) (codes ".")
      (two_plain (codes "at") (cell_text stack p c (NumberText e)) (NumberText row) refl
      (index_plain p c (NumberText e) inside there h) l) refl)
      (subst (λ ns. IsPlain (slice_index_or ns k [])) (called (form_at (layer_of stack p) c))
      (word_plain (slice_index_or names k []) name))

  mutual
    number_plain : (n : ℕ) (e : TraceNumber) → MadeNumber e → ThereNumber e → NumberFits stack s.rows n e →
        IsPlain (NumberText e)
    number_plain n (trace.atom a) made there fits = atom_plain a made fits
    number_plain n trace.me made there fits = refl
    number_plain n trace.count made there fits = refl
    number_plain n trace.ltime made there fits = refl
    number_plain (suc n) (trace.element p c e) made there fits =
        index_plain p c (NumberText e) made.0 (number_there (layer_of stack p) c e there.0)
        (number_plain n e made.1 there.1 fits)
    number_plain (suc n) (trace.square p c a b) made there fits =
        plain_both (cell_name stack p c ++ bracketed_index (NumberText a)) (bracketed_index (NumberText b))
        (plain_both (cell_name stack p c) (bracketed_index (NumberText a))
        (cell_plain p c made.0 (form_of shape_in (layer_of stack p) c Square there.0).there)
        (indexed_plain (NumberText a) (number_plain n a made.1 there.1 fits.0)))
        (indexed_plain (NumberText b) (number_plain n b made.2 there.2 fits.1))
    number_plain (suc (suc n)) (trace.rows p c e) made there fits = one_plain
        (codes "len") (cell_text stack p c (NumberText e)) refl
        (index_plain p c (NumberText e) made.0 (rows_there (layer_of stack p) c e there.0.items there.0.listed)
        (number_plain n e made.1 there.1 fits))
    number_plain (suc (suc n)) (trace.item p c e row k) made there fits =
        item_plain p c e row k made.0 there.0 (number_plain n e made.1 there.1 fits.0)
        (number_plain (suc n) row made.2 there.2 fits.1)
    number_plain (suc n) (trace.size m) made there fits = one_plain
        (codes "size") (MessageText m) refl (message_plain n m made there fits)
    number_plain (suc n) (trace.binary o a b) made there fits =
        plain_both (codes "(" ++ NumberText a ++ codes " " ++ sign_text (operator_sign o) ++ codes " " ++ NumberText b)
        (codes ")")
        (plain_both (codes "(" ++ NumberText a ++ codes " " ++ sign_text (operator_sign o) ++ codes " ") (NumberText b)
        (plain_both (codes "(" ++ NumberText a ++ codes " " ++ sign_text (operator_sign o)) (codes " ")
        (plain_both (codes "(" ++ NumberText a ++ codes " ") (sign_text (operator_sign o))
        (plain_both (codes "(" ++ NumberText a) (codes " ")
        (plain_both (codes "(") (NumberText a) refl (number_plain n a made.0 there.0 fits.0)) refl)
        (operator_plain o)) refl) (number_plain n b made.1 there.1 fits.1)) refl
    number_plain (suc n) (trace.apply f a) made there fits =
        one_plain (sign_text (function_sign f)) (NumberText a) (function_plain f) (number_plain n a made there fits)
    number_plain (suc n) (trace.pick c a b) made there fits = three_plain
        (codes "pick") (NumberText c) (NumberText a) (NumberText b) refl
        (number_plain n c made.0 there.0 fits.0) (number_plain n a made.1 there.1 fits.1)
        (number_plain n b made.2 there.2 fits.2)
    number_plain zero (trace.element p c e) made there fits = absurd fits
    number_plain zero (trace.square p c a b) made there fits = absurd fits
    number_plain zero (trace.rows p c e) made there fits = absurd fits
    number_plain (suc zero) (trace.rows p c e) made there fits = absurd fits
    number_plain zero (trace.item p c e row k) made there fits = absurd fits
    number_plain (suc zero) (trace.item p c e row k) made there fits = absurd fits
    number_plain zero (trace.size m) made there fits = absurd fits
    number_plain zero (trace.binary o a b) made there fits = absurd fits
    number_plain zero (trace.apply f a) made there fits = absurd fits
    number_plain zero (trace.pick c a b) made there fits = absurd fits

    message_plain : (n : ℕ) (m : TraceMessage) → MadeMessage m → ThereMessage m → MessageFits stack s.rows n m →
        IsPlain (MessageText m)
    message_plain n (trace.core c) made there fits = core_plain c made fits
    message_plain (suc (suc n)) (trace.held p c e row carried) made there fits = two_plain
        (codes "held") (cell_text stack p c (NumberText e))
        (NumberText row) refl
        (index_plain p c (NumberText e) made.0 (rows_there (layer_of stack p) c e there.0.items there.0.listed)
        (number_plain n e made.1 there.1 fits.1))
        (number_plain (suc n) row made.2 there.2 fits.2)
    message_plain (suc n) (trace.cut m from most) made there fits = three_plain
        (codes "cut") (MessageText m) (NumberText from) (NumberText most) refl
        (message_plain n m made.0 there.0 fits.0) (number_plain n from made.1 there.1 fits.1)
        (number_plain n most made.2 there.2 fits.2)
    message_plain (suc n) (trace.tail m from) made there fits = two_plain
        (codes "tail") (MessageText m) (NumberText from) refl
        (message_plain n m made.0 there.0 fits.0) (number_plain n from made.1 there.1 fits.1)
    message_plain (suc n) (trace.join first m) made there fits = two_plain
        (codes "join") (MessageText first) (MessageText m) refl
        (message_plain n first made.0 there.0 fits.0) (message_plain n m made.1 there.1 fits.1)
    message_plain zero (trace.held p c e row carried) made there fits = absurd fits
    message_plain (suc zero) (trace.held p c e row carried) made there fits = absurd fits
    message_plain zero (trace.cut m from most) made there fits = absurd fits
    message_plain zero (trace.tail m from) made there fits = absurd fits
    message_plain zero (trace.join first m) made there fits = absurd fits

  -- known headers
  abbrev AtomText : Atom → List ℕ
  AtomText a = atom_text (written_with before s) a

  abbrev Made : Atom → Type 0
  Made a = AtomNames (IsMade stack (reach_of s)) a

  atoms_plain : (xs : List Atom) → AllByRecursion Made xs → AllByRecursion AtomFits xs →
      AllByRecursion IsPlain (map AtomText xs)
  atoms_plain [] made fits = tt
  atoms_plain (x ∷ xs) made fits = (atom_plain x made.0 fits.0, atoms_plain xs made.1 fits.1)

  link_plain : (place : ℕ) (l : Link) → LinkFits stack place l → LinkNames (IsMade stack (reach_of s)) l →
      IsPlain (link_text stack AtomText l)
  link_plain place l fits made =
      let x = tag_names stack told few l.place l.tag (subst (λ p. p < length stack) (sym fits.at) fits.inside)
      (subst (λ p. is_some (header_of_tag (layer_of stack p) l.tag) ≡ true) (sym fits.at) fits.declares) in
      plain_both ((layer_of stack l.place).name ++ codes "." ++
      option_map_or (λ (h : HeaderTree). h.name) (header_of_tag (layer_of stack l.place) l.tag) [])
      (bracketed_list (map AtomText l.fields)) (names_plain (tag_named (layer_of stack l.place)) _ l.tag x)
      (listed_plain (map AtomText l.fields) (atoms_plain l.fields made fits.fields_fit))

  links_plain : (place : ℕ) (ls : List Link) → ChainFits stack place ls →
      AllByRecursion (LinkNames (IsMade stack (reach_of s))) ls →
      AllByRecursion (λ l. IsPlain (link_text stack AtomText l)) ls
  links_plain place [] fits made = tt
  links_plain place (l ∷ ls) fits made = (link_plain place l fits.0 made.0, links_plain (place + 1) ls fits.1 made.1)

  after_plain : (place : ℕ) (ls : List Link) → ChainFits stack place ls →
      AllByRecursion (LinkNames (IsMade stack (reach_of s))) ls →
      IsPlain (following stack (written_with before s) ls)
  after_plain place [] fits made = refl
  after_plain place (l ∷ ls) fits made = plain_both (codes " ") (chain_text stack AtomText (l ∷ ls)) refl
      (parts_plain (link_text stack AtomText) (codes "/") (l ∷ ls) refl (links_plain place (l ∷ ls) fits made))

  all_plain : (xs : List TraceNumber) → AllByRecursion MadeNumber xs → AllByRecursion ThereNumber xs →
      AllByRecursion (NumberFits stack s.rows index_brackets) xs → AllByRecursion IsPlain (map NumberText xs)
  all_plain [] made there fits = tt
  all_plain (x ∷ xs) made there fits =
      (number_plain index_brackets x made.0 there.0 fits.0, all_plain xs made.1 there.1 fits.1)

  pushed_plain : (place : ℕ) (carried : Option (List ℕ × Carried)) (message : Option Chained) →
      SentNames (IsMade stack (reach_of s)) message →
      RowFits stack s.rows place carried message →
      AllByRecursion IsPlain (map (pushed_text stack (written_with before s)) (option_to_list message))
  pushed_plain place None None made fits = tt
  pushed_plain place None (Some m) made fits = absurd fits
  pushed_plain place (Some carried) None made fits = absurd fits
  pushed_plain place (Some carried) (Some m) made fits = (
    plain_both (core_text (written_with before s) m.core) (following stack (written_with before s) m.chain)
        (core_plain m.core made.core_is fits.core_fits)
        (after_plain place m.chain fits.chain_fits made.chain_is),
    tt,
  )

  cores_plain : (dir : Dir) (message : Option Chained) → SentNames (IsMade stack (reach_of s)) message →
      SentFits stack s.rows dir message →
      AllByRecursion IsPlain (map (λ (m : Chained). core_text (written_with before s) m.core) (option_to_list message))
  cores_plain dir None made fits = tt
  cores_plain Down (Some m) made fits = (core_plain m.core made.core_is fits.core_fits, tt)
  cores_plain Up (Some m) made fits = (core_plain m.core made.core_is fits.0, tt)

  chain_plain : (dir : Dir) (message : Option Chained) → SentNames (IsMade stack (reach_of s)) message →
      SentFits stack s.rows dir message →
      IsPlain (option_map_or (λ (m : Chained). following stack (written_with before s) m.chain) message [])
  chain_plain dir None made fits = refl
  chain_plain Down (Some m) made fits = after_plain 0 m.chain fits.chain_fits made.chain_is
  chain_plain Up (Some m) made fits =
      subst (λ chain. IsPlain (following stack (written_with before s) chain)) (sym fits.1) refl

  queue_plain : (p c : ℕ) (e : TraceNumber) → p < length stack → MadeNumber e → HasQueue (layer_of stack p) c e →
      ThereNumber e →
      NumberFits stack s.rows index_brackets e → IsPlain (cell_text stack p c (NumberText e))
  queue_plain p c e inside made has there fits = index_plain
      p c (NumberText e) inside (rows_there (layer_of stack p) c e has.items has.listed)
      (number_plain index_brackets e made there fits)

  set_plain : (text x : List ℕ) → IsPlain text → IsPlain x → IsPlain (codes "set " ++ text ++ codes " = " ++ x)
  set_plain text x h k = plain_both (codes "set " ++ text ++ codes " = ") x
      (plain_both (codes "set " ++ text) (codes " = ") (plain_both (codes "set ") text refl h) refl) k

  -- an operation's line
  pub line_plain : (o : Operation) → OperationNames (IsMade stack (reach_of s)) o → OperationNames (IsThere stack) o →
      OperationFits stack s.rows o →
      IsPlain (line_with stack before s o)
  line_plain (trace.bind e) made there fits = plain_both (codes "bind t." ++ decimal s.binds ++ codes " = ")
      (NumberText e)
      (plain_both (codes "bind t." ++ decimal s.binds) (codes " = ")
      (plain_both (codes "bind t.") (decimal s.binds) refl (decimal_plain s.binds)) refl)
      (number_plain most_brackets e made there fits)
  line_plain (trace.note m) made there fits = plain_both (codes "note " ++ note_name s.notes ++ codes " = ")
      (MessageText m)
      (plain_both (codes "note " ++ note_name s.notes) (codes " = ")
      (plain_both (codes "note ") (note_name s.notes) refl
      (plain_both (codes "m.") (decimal s.notes) refl (decimal_plain s.notes))) refl)
      (message_plain most_brackets m made there fits)
  line_plain (trace.check e) made there fits =
      plain_both (codes "check ") (NumberText e) refl (number_plain most_brackets e made there fits)
  line_plain (trace.set p c e x) made there fits = set_plain (cell_text stack p c (NumberText e)) (NumberText x)
      (index_plain p c (NumberText e) made.0 (number_there (layer_of stack p) c e there.0)
      (number_plain index_brackets e made.1 there.1 fits.0))
      (number_plain most_brackets x made.2 there.2 fits.1)
  line_plain (trace.set_square p c a b x) made there fits = set_plain (NumberText (trace.square p c a b)) (NumberText x)
      (plain_both (cell_name stack p c ++ bracketed_index (NumberText a)) (bracketed_index (NumberText b))
      (plain_both (cell_name stack p c) (bracketed_index (NumberText a))
      (cell_plain p c made.0 (form_of shape_in (layer_of stack p) c Square there.0).there)
      (indexed_plain (NumberText a) (number_plain index_brackets a made.1 there.1 fits.0)))
      (indexed_plain (NumberText b) (number_plain index_brackets b made.2 there.2 fits.1)))
      (number_plain most_brackets x made.3 there.3 fits.2)
  line_plain (trace.push p c e xs message) made there fits =
      let parts = map NumberText xs ++ map (pushed_text stack (written_with before s)) (option_to_list message) in
      plain_both (codes "push " ++ cell_text stack p c (NumberText e) ++ codes " ") (bracketed_list parts)
      (plain_both (codes "push " ++ cell_text stack p c (NumberText e)) (codes " ")
      (plain_both (codes "push ") (cell_text stack p c (NumberText e)) refl
      (queue_plain p c e made.0 made.1 there.0 there.1 fits.0)) refl)
      (listed_plain parts (each_append IsPlain (map NumberText xs) _ (all_plain xs made.2 there.2 fits.1)
      (pushed_plain (p + 1) (items_at stack p c).message message made.3 fits.3)))
  line_plain (trace.take p c e) made there fits =
      let n = length (written_with before s).rows in
      plain_both (codes "take " ++ cell_text stack p c (NumberText e) ++ codes " row.") (decimal n)
      (plain_both (codes "take " ++ cell_text stack p c (NumberText e)) (codes " row.")
      (plain_both (codes "take ") (cell_text stack p c (NumberText e)) refl
      (queue_plain p c e made.0 made.1 there.0 there.1 fits)) refl) (decimal_plain n)
  line_plain (trace.output dir k xs message) made there fits =
      let parts = map AtomText xs ++ map (λ (m : Chained). core_text (written_with before s) m.core)
      (option_to_list message) in
      plain_both (codes "out " ++ sign_text (direction_sign dir) ++ codes " " ++ kind_word k ++ bracketed_list parts) _
      (plain_both (codes "out " ++ sign_text (direction_sign dir) ++ codes " " ++ kind_word k) (bracketed_list parts)
      (plain_both (codes "out " ++ sign_text (direction_sign dir) ++ codes " ") (kind_word k)
      (plain_both (codes "out " ++ sign_text (direction_sign dir)) (codes " ")
      (plain_both (codes "out ") (sign_text (direction_sign dir)) refl (direction_plain dir)) refl) (kind_plain k))
      (listed_plain parts (each_append IsPlain
      (map AtomText xs) _ (atoms_plain xs made.0 fits.2) (cores_plain dir message made.1 fits.3))))
      (chain_plain dir message made.1 fits.3)

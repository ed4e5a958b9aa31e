-- A row that is taken without faults fills a free slot, and its names stand for what they are.
use Rattle.std.proofs.Common.{◌≡◌, ◌∙◌, ◌+◌, ◌<◌, ◌≤◌, Bool, true, false, List, [], ◌∷◌, ◌++◌, length, map, Option}
use Rattle.std.proofs.Common.{Some, None, refl, sym, ap, subst, arith}
use Rattle.std.specs.Prelude.{◌||◌, ◌==◌, bytes_eq, slice_get, if◌then◌else◌}
use Rattle.std.specs.List.{last_or, list_any}
use Rattle.std.proofs.lemmas.Bool.{eqb-true}
use Rattle.std.proofs.lemmas.List.Folds.{list_any-append}
use Rattle.std.proofs.lemmas.Slice.Eq.{bytes_eq-Decides}
use Rattle.layer_words.specs.declared.places.At.{At}
use Rattle.layer_ast.specs.declared.names.Name.{Name}
use Rattle.layer_words.specs.declared.words.Word.{Word}
use Rattle.layer_words.specs.declared.sorts.Sort.{Sort}
use Rattle.layer_words.specs.declared.sorts.Sort.TheVariants.{Int, Msg, Part}
use Rattle.layer_ast.specs.Tree as ast
use Rattle.layer_mean.specs.Tree.{Carried}
use Rattle.fault_mean.specs.Declared.{declared_name}
use Rattle.fault_mean.specs.Earliest.{unless}
use Rattle.fault_mean.specs.Faults.{arity, twice}
use Rattle.fault_mean.specs.Forms.{queue_name}
use Rattle.fault_mean.specs.Kinds.{allows, a_number, a_message}
use Rattle.fault_mean.specs.Limits.{messages_inside}
use Rattle.fault_mean.specs.NameFaults.{repetitions, same_word, twice_among}
use Rattle.fault_mean.specs.Scope.{Local, Scope, locals_as, visible}
use Rattle.fault_mean.specs.ExpressionFaults.{queue_faults}
use Rattle.fault_mean.specs.TypeFaults.{row_type_faults}
use Rattle.file_mean.specs.Names.{Placed, Names, carried_as, carried_in}
use Rattle.file_mean.specs.Values.{queue_row, queue_carries, queue_cell}
use Rattle.file_mean.specs.Statements.{with_taken, taken_row}
use Rattle.file_mean.specs.Layers.{layer_of}
use Rattle.chain_laws.specs.Typed.{sort_of, Takes, with_taken_sort}
use Rattle.file_laws.proofs.Lists.{nils, map_nil, unless_nil}
use Rattle.file_laws.proofs.Messages.{sort_among, Agree, LastMessages, IsLastMessage, RowCarries, row_carries}
use Rattle.file_laws.proofs.Messages.{queue_declared, queue_is}
use Rattle.file_laws.proofs.Slots.{IsNumberSort, AreNumbers, agree_numbers, Free, free_set, set_length, Hidden}
use Rattle.file_laws.proofs.Slots.{LastLocal, agree_new}

-- words

same_back : (a b : Word) → bytes_eq a b ≡ true → bytes_eq b a ≡ true
same_back a b h = (bytes_eq-Decides b a).1 (sym ((bytes_eq-Decides a b).0 h))

other_back : (a b : Word) (c : Bool) → bytes_eq b a ≡ c → bytes_eq a b ≡ false → bytes_eq b a ≡ false
other_back a b true is h = absurd (cc (same_back b a is, h))
other_back a b false is h = is

or_false : (a b : Bool) → (a || b) ≡ false → (a ≡ false) × (b ≡ false)
or_false true b h = absurd (cc h)
or_false false b h = (refl, h)

-- the last of new names is none of the earlier ones, and none of those before it

abbrev pub Apart : Name → List Name → Type 0
Apart l [] = Unit {0}
Apart l (a ∷ []) = Unit {0}
Apart l (a ∷ b ∷ names) = (same_word l a ≡ false) × Apart l (b ∷ names)

not_listed : (name : Name) (b : Bool) → (if b then name ∷ [] else []) ≡ [] → b ≡ false
not_listed name true h = absurd (cc h)
not_listed name false h = refl

last_fresh : (earlier names : List Name) (o : Option Name) (l : Name) → repetitions same_word earlier names ≡ [] →
    (names ≡ [] → ⊥) →
    last_or o names ≡ Some l → (list_any (same_word l) earlier ≡ false) × Apart l names
last_fresh earlier [] o l h some is = absurd (some refl)
last_fresh earlier (a ∷ []) o l h some is =
    let parts = nils (if list_any (same_word a) earlier then a ∷ [] else []) [] h in
    let e : a ≡ l = cc is in
    (subst (λ x. list_any (same_word x) earlier ≡ false) e (not_listed a (list_any (same_word a) earlier) parts.0), tt)
last_fresh earlier (a ∷ b ∷ names) o l h some is =
    let parts = nils (if list_any (same_word a) earlier then a ∷ [] else [])
    (repetitions same_word (a ∷ earlier) (b ∷ names)) h in
    let later = last_fresh (a ∷ earlier) (b ∷ names) (Some a) l parts.1 (λ e. cc e) is in
    let split = or_false (same_word l a) (list_any (same_word l) earlier) later.0 in
    (split.1, (split.0, later.1))

-- a word that is no visible name is no local
hidden_is : (locals : List Local) (l : Name) (w : Word) → list_any (same_word l) (map (λ (x : Local). x.name) locals) ≡
    false →
    bytes_eq w l.word ≡ true → Hidden locals w
hidden_is [] l w h is = refl
hidden_is (x ∷ locals) l w h is =
    let split = or_false (same_word l x.name) (list_any (same_word l) (map (λ (x : Local). x.name) locals)) h in
    let e : w ≡ l.word = (bytes_eq-Decides w l.word).0 is in
    let apart : bytes_eq w x.name.word ≡ false = ap (λ v. bytes_eq v x.name.word) e ∙ split.0 in
    let back = other_back w x.name.word (bytes_eq x.name.word w) refl apart in
    rw back (hidden_is locals l w split.1 is)

-- the sorts of the names of a taken row

sort_first : (name : Name) (sort : Sort) (rest : List Local) (w : Word) (b : Bool) → bytes_eq name.word w ≡ b →
    sort_among (record { name = name; sort = sort } ∷ rest) w ≡ (if b then Some sort else sort_among rest w)
sort_first name sort rest w true is = rw is refl
sort_first name sort rest w false is = rw is refl

first_number : (i : ast.ItemTree) (b : Bool) → allows a_number i.sort ≡ b → (if b then [] else i ∷ []) ≡ [] →
    i.sort ≡ Int
first_number i true is h = number_sort i.sort is where
  number_sort : (sort : Sort) → allows a_number sort ≡ true → sort ≡ Int
  number_sort Int is = refl
  number_sort Msg is = absurd (cc is)
  number_sort Part is = absurd (cc is)
first_number i false is h = absurd (cc h)

-- a number before them
first_local : (x : ast.ItemTree) (a l : Name) (i : ast.ItemTree) (rest : List Local) → x.sort ≡ Int →
    same_word l a ≡ false →
    LastLocal rest l.word i.sort → LastLocal (record { name = a; sort = x.sort } ∷ rest) l.word i.sort
first_local x a l i rest number apart later = record {
  sorts_are = λ w is.
      let e : w ≡ l.word = (bytes_eq-Decides w l.word).0 is in
      let other : bytes_eq w a.word ≡ false = ap (λ v. bytes_eq v a.word) e ∙ apart in
      sort_first a x.sort rest w false (other_back w a.word (bytes_eq a.word w) refl other) ∙ later.sorts_are w is;
  others = λ w other. by_first w (bytes_eq a.word w) refl (later.others w other);
} where
  by_first : (w : Word) (b : Bool) → bytes_eq a.word w ≡ b → IsNumberSort (sort_among rest w) →
      IsNumberSort (sort_among (record { name = a; sort = x.sort } ∷ rest) w)
  by_first w true is h = subst IsNumberSort (sym (sort_first a x.sort rest w true is)) (rw number tt)
  by_first w false is h = subst IsNumberSort (sym (sort_first a x.sort rest w false is)) h

last_local : (items : List ast.ItemTree) (names : List Name) (i : ast.ItemTree) (l : Name) (o : Option ast.ItemTree)
    (q : Option Name) →
    length items ≡ length names → IsLastMessage items → (names ≡ [] → ⊥) → last_or o items ≡ Some i →
    last_or q names ≡ Some l → Apart l names →
    LastLocal (locals_as (map (λ (i : ast.ItemTree). i.sort) items) names) l.word i.sort
last_local [] [] i l o q same h some item name apart = absurd (some refl)
last_local [] (a ∷ names) i l o q same h some item name apart = absurd (omega (arith, same))
last_local (x ∷ items) [] i l o q same h some item name apart = absurd (some refl)
last_local (x ∷ []) (a ∷ []) i l o q same h some item name apart =
    let e : x ≡ i = cc item in
    let f : a ≡ l = cc name in
    record {
      sorts_are = λ w is.
          let here : bytes_eq a.word w ≡ true = ap (λ (n : Name). bytes_eq n.word w) f ∙ same_back w l.word is in
          sort_first a x.sort [] w true here ∙ ap (λ (j : ast.ItemTree). Some j.sort) e;
      others = λ w other.
          let there : bytes_eq a.word w ≡ false =
          ap (λ (n : Name). bytes_eq n.word w) f ∙ other_back w l.word (bytes_eq l.word w) refl other in
          subst IsNumberSort (sym (sort_first a x.sort [] w false there)) tt;
    }
last_local (x ∷ []) (a ∷ b ∷ names) i l o q same h some item name apart = absurd (omega (arith, same))
last_local (x ∷ y ∷ items) (a ∷ []) i l o q same h some item name apart = absurd (omega (arith, same))
last_local (x ∷ y ∷ items) (a ∷ b ∷ names) i l o q same h some item name apart =
    let parts = nils (if allows a_number x.sort then [] else x ∷ []) (messages_inside (y ∷ items)) h in
    let number = first_number x (allows a_number x.sort) refl parts.0 in
    let later = last_local (y ∷ items) (b ∷ names) i l (Some x) (Some a) (omega (arith, same)) parts.1 (λ e. cc e) item
    name apart.1 in
    first_local x a l i (locals_as (map (λ (i : ast.ItemTree). i.sort) (y ∷ items)) (b ∷ names)) number apart.0 later

-- a row of numbers alone

abbrev EndsInNumber : Option ast.ItemTree → Type 0
EndsInNumber None = Unit {0}
EndsInNumber (Some i) = i.sort ≡ Int

all_numbers : (items : List ast.ItemTree) (names : List Name) (o : Option ast.ItemTree) → IsLastMessage items →
    EndsInNumber (last_or o items) → AreNumbers (locals_as (map (λ (i : ast.ItemTree). i.sort) items) names)
all_numbers [] [] o h ends = tt
all_numbers [] (a ∷ names) o h ends = (refl, all_numbers [] names None refl tt)
all_numbers (x ∷ items) [] o h ends = tt
all_numbers (x ∷ []) (a ∷ names) o h ends = (ends, all_numbers [] names None refl tt)
all_numbers (x ∷ y ∷ items) (a ∷ names) o h ends =
    let parts = nils (if allows a_number x.sort then [] else x ∷ []) (messages_inside (y ∷ items)) h in
    (first_number x (allows a_number x.sort) refl parts.0, all_numbers (y ∷ items) names (Some x) parts.1 ends)

carried_at : (p : Placed) (items : List ast.ItemTree) (i : ast.ItemTree) (sort : Sort) → last_or None items ≡ Some i →
    i.sort ≡ sort →
    carried_in p items ≡ carried_as p.blank sort
carried_at p items i sort last is = rw (last, is) refl

carried_nothing : (p : Placed) (items : List ast.ItemTree) → last_or None items ≡ None → carried_in p items ≡ None
carried_nothing p items last = rw last refl

carries_none : (p : Placed) (items : List ast.ItemTree) (o : Option ast.ItemTree) → last_or None items ≡ o →
    carried_in p items ≡ None → EndsInNumber o
carries_none p items None last is = tt
carries_none p items (Some i) last is = go i.sort refl where
  go : (sort : Sort) → i.sort ≡ sort → i.sort ≡ Int
  go Int e = e
  go Msg e = absurd (cc (is, carried_at p items i Msg last e))
  go Part e = absurd (cc (is, carried_at p items i Part last e))

carries_some : (p : Placed) (items : List ast.ItemTree) (carried : Carried) (o : Option ast.ItemTree) →
    last_or None items ≡ o →
    carried_in p items ≡ Some carried → (i : ast.ItemTree) × (last_or None items ≡ Some i) ×
    (allows a_message i.sort ≡ true)
carries_some p items carried None last is = absurd (cc (is, carried_nothing p items last))
carries_some p items carried (Some i) last is = (i, last, go i.sort refl) where
  go : (sort : Sort) → i.sort ≡ sort → allows a_message i.sort ≡ true
  go Int e = absurd (cc (is, carried_at p items i Int last e))
  go Msg e = rw e refl
  go Part e = rw e refl

-- what a take yields
pub record Taken (names : Names) (locals : List Local) (sorts : List Sort) (q : ast.QueueTree) (new : List Name) : Type
    0 where
  pub takes : Takes (layer_of names.place) names.place.blank sorts (queue_cell names q) (taken_row names q new).message
  pub agree : Agree (with_taken_sort sorts (taken_row names q new).message)
      (locals ++ locals_as (map (λ (i : ast.ItemTree). i.sort) (queue_row names q)) new)
      (with_taken q new names).messages
  pub free : Free (with_taken_sort sorts (taken_row names q new).message) (with_taken q new names).taken.messages
  pub same_length : length (with_taken_sort sorts (taken_row names q new).message) ≡ length sorts

last_there : (n : Name) (names : List Name) (o : Option Name) → (l : Name) × (last_or o (n ∷ names) ≡ Some l)
last_there n [] o = (n, refl)
last_there n (m ∷ names) o = last_there m names (Some n)

module _ (names : Names) (locals : List Local) (sorts : List Sort) (agree : Agree sorts locals names.messages)
    (rows : LastMessages names.place.layer)
    (free : Free sorts names.taken.messages) where
  abbrev scope : Scope
  scope = record { layer = names.place.layer; locals = locals }

  pub take_is : (at : At) (q : ast.QueueTree) (first : Name) (rest : List Name) →
      row_type_faults scope at q (length (first ∷ rest)) ≡ [] →
      twice_among (visible scope) (first ∷ rest) ≡ [] →
      (with_taken q (first ∷ rest) names).taken.messages ≤ length sorts →
      Taken names locals sorts q (first ∷ rest)
  take_is at q first rest typed fresh bound = go (queue_carries names q) refl where
    new : List Name
    new = first ∷ rest

    items : List ast.ItemTree
    items = queue_row names q

    inner : (queue_faults scope at q ≡ []) × (unless (length items == length new) (arity at) ≡ [])
    inner = nils (queue_faults scope at q) (unless (length items == length new) (arity at)) typed

    same : length items ≡ length new
    same = eqb-true (length items) (length new) (unless_nil (length items == length new) (arity at) inner.1)

    numbers_case : names.taken.messages ≡ names.taken.messages + 0 → queue_carries names q ≡ None →
        Taken names locals sorts q new
    numbers_case e is = record {
      takes = rw is tt;
      agree = rw is (agree_numbers sorts locals (locals_as (map (λ (i : ast.ItemTree). i.sort) items) new)
          names.messages
          (all_numbers items new None (rows (queue_name q).word)
          (carries_none names.place items (last_or None items) refl is)) agree);
      free = rw is (subst (Free sorts) e free);
      same_length = rw is refl;
    }

    message_case : (i : ast.ItemTree) → last_or None items ≡ Some i → RowCarries names.place items i →
        Taken names locals sorts q new
    message_case i last carries =
        let l = last_there first rest None in
        let n = names.taken.messages in
        let further = locals_as (map (λ (i : ast.ItemTree). i.sort) items) new in
        let apart = last_fresh (visible scope) new None l.0
        (map_nil (λ (name : Name). twice name.at) (repetitions same_word (visible scope) new) fresh)
        (λ e. cc e) l.1 in
        let unseen = or_false (list_any (same_word l.0) (map declared_name names.place.layer.declarations))
        (list_any (same_word l.0) (map (λ (x : Local). x.name) locals))
        (sym (list_any-append (same_word l.0) (map declared_name names.place.layer.declarations)
        (map (λ (x : Local). x.name) locals)) ∙ apart.0) in
        let count : (with_taken q new names).taken.messages ≡ n + 1 = rw (carries.is, l.1) refl in
        let below : n < length sorts = omega (arith, count, bound) in
        let last_is = subst (LastLocal further l.0.word) (sym carries.sort)
        (last_local items new i l.0 None None same (rows (queue_name q).word) (λ e. cc e) last l.1 apart.1) in
        let free_n : slice_get sorts n ≡ Some Int = free n (omega arith) below in
        record {
          takes = rw carries.is (queue_is names q i (queue_declared scope at q inner.0) carries, free_n);
          agree = rw (carries.is, l.1)
              (agree_new sorts n (sort_of carries.carried) locals further names.messages l.0.word below free_n last_is
              (λ w is. hidden_is locals l.0 w unseen.1 is) agree);
          free = rw (carries.is, l.1) (free_set sorts n (sort_of carries.carried) free);
          same_length = rw carries.is (set_length sorts n (sort_of carries.carried));
        }

    go : (o : Option Carried) → queue_carries names q ≡ o → Taken names locals sorts q new
    go None is = numbers_case (omega arith) is
    go (Some carried) is =
        let found = carries_some names.place items carried (last_or None items) refl is in
        message_case found.0 found.1 (row_carries names.place items found.0 found.1 found.2)

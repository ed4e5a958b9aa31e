-- What expressions and messages without faults name is there.
use Rattle.std.proofs.Common.{◌≡◌, ℕ, suc, ◌<◌, ◌≤◌, Bool, true, false, List, [], ◌∷◌, ◌++◌, length, map, Option, Some}
use Rattle.std.proofs.Common.{None, refl, ap, subst, inl, inr, arith}
use Rattle.std.specs.Prelude.{◌||◌, not, bytes_eq, is_some, option_map, option_and_then, unwrap_or, if◌then◌else◌}
use Rattle.std.specs.List.{find, last_or, position, position_or_len}
use Rattle.std.specs.Map.{lookup}
use Rattle.std.specs.Option.{option_or}
use Rattle.std.proofs.lemmas.Bool.{lt-ltb}
use Rattle.std.proofs.lemmas.Slice.Eq.{bytes_eq-Decides}
use denote.Enum.Bare.{same_true}
use Rattle.msg_core.specs.declared.message.Header.{Header}
use Rattle.layer_words.specs.contracts.sorts.Shape as shape_row
use Rattle.layer_words.specs.declared.places.At.{At}
use Rattle.layer_ast.specs.declared.names.Name.{Name}
use Rattle.layer_words.specs.declared.words.Word.{Word}
use Rattle.layer_words.specs.declared.sorts.Shape.{Shape}
use Rattle.layer_words.specs.declared.sorts.Shape.TheVariants.{One, Array, Square}
use Rattle.layer_words.specs.declared.sorts.Sort.{Sort}
use Rattle.layer_words.specs.declared.sorts.Sort.TheVariants.{Int, Msg, Part}
use Rattle.layer_ast.specs.Tree as ast
use Rattle.layer_mean.specs.Tree.{number, local, element, Form, CellTree}
use Rattle.fault_mean.specs.Declared.{declaration_of, is_cell, is_param}
use Rattle.fault_mean.specs.Earliest.{unless}
use Rattle.fault_mean.specs.Faults.{kind}
use Rattle.fault_mean.specs.Forms.{declared_as, is_numbers, is_queue, is_queue_array, row_of}
use Rattle.fault_mean.specs.Kinds.{allows, a_number, a_msg, a_part}
use Rattle.fault_mean.specs.Places.{param_value}
use Rattle.fault_mean.specs.Scope.{Local, Scope}
use Rattle.fault_mean.specs.Sorts.{is_number, name_sort, held_sort, message_sort, message_at, argument_sort}
use Rattle.fault_mean.specs.Sorts.{argument_at, expression_at}
use Rattle.fault_mean.specs.ExpressionFaults.{may_be, must_be, reads_number, number_faults, queue_faults}
use Rattle.fault_mean.specs.ExpressionFaults.{message_faults, built_faults, argument_faults}
use Rattle.file_mean.specs.Names.{Names, Placed, cell_of, carried_as, carried_in, numbers_among, number_slot}
use Rattle.file_mean.specs.Values.{named_number, queue_row, queue_cell, number_of, queue_index, message_of, built_of}
use Rattle.file_mean.specs.Values.{argument_number, argument_message}
use Rattle.file_mean.specs.Layers.{row_items, cell_in, layer_of}
use Rattle.chain_laws.specs.Named.{shape_in, alone_in, among_in, form_at, NamesNumber, NamesRows, Named, NamedMessage}
use Rattle.file_laws.proofs.Lists.{nils, unless_nil, find_where}
use Rattle.file_laws.proofs.Own.{Declares, declares_it, cell_listed}
use Rattle.file_laws.proofs.Messages.{found_passes}
use Rattle.file_laws.proofs.Fronts.{front, front_is, SeenAs, Seen, Sees, lookup_below}
use Rattle.chain_laws.proofs.Lists.{Where}

-- a cell of a form

listed_form : {A : Type 0} (f : Form → Option A) (p : Placed) (name : Name) (d : ast.DeclarationTree) (cell : CellTree)
    (x : A) →
    declaration_of p.layer name.word ≡ Some d → is_cell d ≡ true → cell_in p d ≡ Some cell → f cell.form ≡ Some x →
    form_at f (layer_of p) (cell_of p name) ≡ Some x
listed_form f p name d cell x found a_cell made is = rw (cell_listed p name d cell found a_cell made) is

pub shape_named : (p : Placed) (name : Name) (shape : Shape) → Declares (is_numbers shape) p.layer name.word →
    form_at shape_in (layer_of p) (cell_of p name) ≡ Some shape
shape_named p name shape h = go h.declaration h.found h.passes where
  go : (d : ast.DeclarationTree) → declaration_of p.layer name.word ≡ Some d → is_numbers shape d ≡ true →
      form_at shape_in (layer_of p) (cell_of p name) ≡ Some shape
  go (ast.int at own written initial) found is =
      listed_form shape_in p name (ast.int at own written initial) _ shape found refl refl
      (ap Some (same_true shape_row.the_type tt written shape is))
  go (ast.param at own value) found is = absurd (cc is)
  go (ast.rows_cell at own capacity items) found is = absurd (cc is)
  go (ast.rows_array at own capacity items) found is = absurd (cc is)
  go (ast.header at own fields end) found is = absurd (cc is)

alone_named : (p : Placed) (name : Name) → Declares is_queue p.layer name.word →
    form_at alone_in (layer_of p) (cell_of p name) ≡ Some (row_items p (row_of p.layer name.word))
alone_named p name h = go h.declaration h.found h.passes where
  go : (d : ast.DeclarationTree) → declaration_of p.layer name.word ≡ Some d → is_queue d ≡ true →
      form_at alone_in (layer_of p) (cell_of p name) ≡ Some (row_items p (row_of p.layer name.word))
  go (ast.rows_cell at own capacity items) found is =
      listed_form alone_in p name (ast.rows_cell at own capacity items) _ _ found refl refl (rw found refl)
  go (ast.int at own written initial) found is = absurd (cc is)
  go (ast.param at own value) found is = absurd (cc is)
  go (ast.rows_array at own capacity items) found is = absurd (cc is)
  go (ast.header at own fields end) found is = absurd (cc is)

among_named : (p : Placed) (name : Name) → Declares is_queue_array p.layer name.word →
    form_at among_in (layer_of p) (cell_of p name) ≡ Some (row_items p (row_of p.layer name.word))
among_named p name h = go h.declaration h.found h.passes where
  go : (d : ast.DeclarationTree) → declaration_of p.layer name.word ≡ Some d → is_queue_array d ≡ true →
      form_at among_in (layer_of p) (cell_of p name) ≡ Some (row_items p (row_of p.layer name.word))
  go (ast.rows_array at own capacity items) found is =
      listed_form among_in p name (ast.rows_array at own capacity items) _ _ found refl refl (rw found refl)
  go (ast.int at own written initial) found is = absurd (cc is)
  go (ast.param at own value) found is = absurd (cc is)
  go (ast.rows_cell at own capacity items) found is = absurd (cc is)
  go (ast.header at own fields end) found is = absurd (cc is)

-- a number of a row

clash : {C : Type 0} (blank : List Header) (s : Sort) → allows a_number s ≡ true → is_some (carried_as blank s) ≡ true →
    C
clash blank Int h i = absurd (cc i)
clash blank Msg h i = absurd (cc h)
clash blank Part h i = absurd (cc h)

abbrev FindsNumber : (ast.ItemTree → Bool) → List ast.ItemTree → Type 0
FindsNumber q xs = must_be a_number (option_map (λ i. i.sort) (find q xs)) ≡ true

found_later : (b : Bool) (x : ast.ItemTree) (rest : Option ast.ItemTree) →
    must_be a_number (option_map (λ i. i.sort) (if b then Some x else rest)) ≡ true →
    b ≡ false → must_be a_number (option_map (λ (i : ast.ItemTree). i.sort) rest) ≡ true
found_later true x rest h is = absurd (cc is)
found_later false x rest h is = h

last_clash : {C : Type 0} (blank : List Header) (b : Bool) (x : ast.ItemTree) →
    must_be a_number (option_map (λ i. i.sort) (if b then Some x else None)) ≡ true →
    is_some (carried_as blank x.sort) ≡ true → C
last_clash blank true x h i = clash blank x.sort h i
last_clash blank false x h i = absurd (cc h)

position_below : (q : ast.ItemTree → Bool) (xs : List ast.ItemTree) → FindsNumber q xs →
    position_or_len q xs < length xs
position_below q [] h = absurd (cc h)
position_below q (x ∷ xs) h = go (q x) refl (λ rest. position_below q xs rest) where
  go : (b : Bool) → q x ≡ b → (FindsNumber q xs → position_or_len q xs < length xs) →
      position_or_len q (x ∷ xs) < length (x ∷ xs)
  go true is later = rw is (omega arith)
  go false is later = let less = later (found_later (q x) x (find q xs) h is) in rw is (omega (arith, less))

front_below : (blank : List Header) (q : ast.ItemTree → Bool) (xs : List ast.ItemTree) (o : Option ast.ItemTree) →
    FindsNumber q xs →
    is_some (option_and_then (λ i. carried_as blank i.sort) (last_or o xs)) ≡ true →
    position_or_len q xs < length (front xs)
front_below blank q [] o h i = absurd (cc h)
front_below blank q (x ∷ []) o h i = last_clash blank (q x) x h i
front_below blank q (x ∷ y ∷ xs) o h i = go (q x) refl (λ rest. front_below blank q (y ∷ xs) (Some x) rest i) where
  go : (b : Bool) → q x ≡ b → (FindsNumber q (y ∷ xs) → position_or_len q (y ∷ xs) < length (front (y ∷ xs))) →
      position_or_len q (x ∷ y ∷ xs) < length (x ∷ front (y ∷ xs))
  go true is later = rw is (omega arith)
  go false is later = let less = later (found_later (q x) x (find q (y ∷ xs)) h is) in rw is (omega (arith, less))

front_length : {A B : Type 0} (f : A → B) (xs : List A) → length (front (map f xs)) ≡ length (front xs)
front_length f [] = refl
front_length f (x ∷ []) = refl
front_length f (x ∷ y ∷ xs) = ap suc (front_length f (y ∷ xs))

pub map_length : {A B : Type 0} (f : A → B) (xs : List A) → length (map f xs) ≡ length xs
map_length f [] = refl
map_length f (x ∷ xs) = ap suc (map_length f xs)

item_below : (p : Placed) (items : List ast.ItemTree) (q : ast.ItemTree → Bool) → FindsNumber q items →
    unwrap_or (position q items) 0 < length (row_items p items).numbers
item_below p items q h = rw (lt-ltb (position_or_len q items) (length items) (position_below q items h))
    (go (is_some (carried_in p items)) refl) where
      words : List Word
      words = map (λ (i : ast.ItemTree). i.name.word) items

      go : (b : Bool) → is_some (carried_in p items) ≡ b → position_or_len q items < length (numbers_among b words)
      go true is = rw (front_is words)
          (omega (arith, front_below p.blank q items None h is, front_length (λ (i : ast.ItemTree). i.name.word) items))
      go false is = omega (arith, position_below q items h, map_length (λ (i : ast.ItemTree). i.name.word) items)

-- names

pub int_sort : (s : Sort) → allows a_number s ≡ true → s ≡ Int
int_sort Int h = refl
int_sort Msg h = absurd (cc h)
int_sort Part h = absurd (cc h)

param_there : (layer : ast.LayerTree) (given : List ast.GivenTree) (word : Word) (d : ast.DeclarationTree) →
    declaration_of layer word ≡ Some d →
    is_param d ≡ true → param_value layer given word ≡ None → is_numbers One d ≡ true
param_there layer given word (ast.param at own value) found is none =
    let there : is_some (param_value layer given word) ≡ true = rw found refl in absurd (cc (there, none))
param_there layer given word (ast.int at own written initial) found is none = absurd (cc is)
param_there layer given word (ast.rows_cell at own capacity items) found is none = absurd (cc is)
param_there layer given word (ast.rows_array at own capacity items) found is none = absurd (cc is)
param_there layer given word (ast.header at own fields end) found is none = absurd (cc is)

either : (a b : Bool) → (a || b) ≡ true → (a ≡ true → b ≡ true) → b ≡ true
either true b h so = so refl
either false b h so = h

module _ (names : Names) (locals : List Local) (slots : ℕ) (sees : Sees names locals)
    (bound : names.taken.numbers ≤ slots) where
  abbrev scope : Scope
  scope = record { layer = names.place.layer; locals = locals }

  -- a name of a number that has no slot and is no param is a cell of one number
  one_cell : (name : Name) →
      must_be a_number (name_sort (record { layer = names.place.layer; locals = locals }) name.word) ≡ true →
      number_slot names name ≡ None → param_value names.place.layer names.place.given name.word ≡ None →
      NamesNumber (layer_of names.place) (cell_of names.place name) (number 0)
  one_cell name h no_slot no_param = go (find (λ l. bytes_eq l.name.word name.word) locals) refl h where
    in_layer : (b : Bool) → declared_as is_number names.place.layer name.word ≡ b →
        must_be a_number (if b then Some Int else None) ≡ true →
        NamesNumber (layer_of names.place) (cell_of names.place name) (number 0)
    in_layer true is h =
        let d = declares_it is_number names.place.layer name.word is in
        inl (
          shape_named names.place name One (record {
            declaration = d.declaration;
            found = d.found;
            passes = either (is_param d.declaration) (is_numbers One d.declaration) d.passes
                (λ param. param_there names.place.layer names.place.given name.word d.declaration d.found param
                no_param);
          }),
          refl,
        )
    in_layer false is h = absurd (cc h)

    go : (o : Option Local) → find (λ l. bytes_eq l.name.word name.word) locals ≡ o →
        must_be a_number (option_or (option_map (λ l. l.sort) o)
        (if declared_as is_number names.place.layer name.word then Some Int else None)) ≡ true →
        NamesNumber (layer_of names.place) (cell_of names.place name) (number 0)
    go None found h = in_layer (declared_as is_number names.place.layer name.word) refl h
    go (Some l) found h =
        let same : l.name.word ≡ name.word =
        (bytes_eq-Decides l.name.word name.word).0
        (found_passes (λ (l : Local). bytes_eq l.name.word name.word) locals l found) in
        let seen : Seen names.numbers l =
        subst (Where (Seen names.numbers)) found
        (find_where (Seen names.numbers) (λ l. bytes_eq l.name.word name.word) locals sees.seen) in
        let is : is_some (lookup (bytes_eq l.name.word) names.numbers) ≡ true =
        subst (λ s. SeenAs s (lookup (bytes_eq l.name.word) names.numbers)) (int_sort l.sort h) seen in
        let there : is_some (number_slot names name) ≡ true =
        subst (λ w. is_some (lookup (bytes_eq w) names.numbers) ≡ true) same is in
        absurd (cc (there, no_slot))

  pub named_named : (name : Name) →
      must_be a_number (name_sort (record { layer = names.place.layer; locals = locals }) name.word) ≡ true →
      Named (layer_of names.place) slots (named_number names name)
  named_named name h = go (number_slot names name) (param_value names.place.layer names.place.given name.word) refl refl
    where
      go : (o q : Option ℕ) → number_slot names name ≡ o → param_value names.place.layer names.place.given name.word ≡
          q →
          Named (layer_of names.place) slots
          (unwrap_or (option_or (option_map local o) (option_map number q))
          (element (cell_of names.place name) (number 0)))
      go (Some k) q slot value =
          let less = lookup_below (bytes_eq name.word) names.numbers names.taken.numbers k sees.below slot in
          omega (arith, less, bound)
      go None (Some v) slot value = tt
      go None None slot value = (one_cell name h slot value, tt)

  mutual
    pub number_named : (e : ast.ExpressionTree) →
        number_faults (record { layer = names.place.layer; locals = locals }) e ≡ [] →
        Named (layer_of names.place) slots (number_of names e)
    number_named (ast.number at n) h = tt
    number_named (ast.me at) h = tt
    number_named (ast.members at) h = tt
    number_named (ast.ltime at) h = tt
    number_named (ast.named name) h =
        named_named name (unless_nil (must_be a_number (name_sort scope name.word)) (kind name.at) h)
    number_named (ast.element name index) h =
        let test = declared_as (is_numbers Array) names.place.layer name.word in
        let parts = nils (unless test (kind name.at)) (number_faults scope index) h in (
          inr (shape_named names.place name Array
              (declares_it (is_numbers Array) names.place.layer name.word (unless_nil test (kind name.at) parts.0))),
          number_named index parts.1,
        )
    number_named (ast.square name row column) h =
        let test = declared_as (is_numbers Square) names.place.layer name.word in
        let one = nils (unless test (kind name.at) ++ number_faults scope row) (number_faults scope column) h in
        let two = nils (unless test (kind name.at)) (number_faults scope row) one.0 in (
          shape_named names.place name Square
              (declares_it (is_numbers Square) names.place.layer name.word (unless_nil test (kind name.at) two.0)),
          number_named row two.1,
          number_named column one.1,
        )
    number_named (ast.rows at q) h = let a = queue_named at q h in (record { items = _; listed = a.0 }, a.1)
    number_named (ast.item at q row label) h =
        let test = reads_number names.place.layer q label in
        let one = nils (queue_faults scope at q ++ unless test (kind at)) (number_faults scope row) h in
        let two = nils (queue_faults scope at q) (unless test (kind at)) one.0 in
        let a = queue_named at q two.0 in (
          record {
            items = row_items names.place (queue_row names q);
            listed = a.0;
            below = item_below names.place (queue_row names q) (λ i. bytes_eq i.name.word label.word)
                (unless_nil test (kind at) two.1);
          },
          a.1,
          number_named row one.1,
        )
    number_named (ast.size at m) h = message_named m h
    number_named (ast.binary at left operator right) h =
        let parts = nils (number_faults scope left) (number_faults scope right) h in
        (number_named left parts.0, number_named right parts.1)
    number_named (ast.apply at function operand) h = number_named operand h
    number_named (ast.pick at condition first second) h =
        let one = nils (number_faults scope condition ++ number_faults scope first) (number_faults scope second) h in
        let two = nils (number_faults scope condition) (number_faults scope first) one.0 in
        (number_named condition two.0, number_named first two.1, number_named second one.1)

    pub queue_named : (at : At) (q : ast.QueueTree) →
        queue_faults (record { layer = names.place.layer; locals = locals }) at q ≡ [] →
        NamesRows (layer_of names.place) (queue_cell names q) (queue_index names q)
        (row_items names.place (queue_row names q))
        × Named (layer_of names.place) slots (queue_index names q)
    queue_named at (ast.queue name) h = (
      inl (
        alone_named names.place name (declares_it is_queue names.place.layer name.word
            (unless_nil (declared_as is_queue names.place.layer name.word) (kind at) h)),
        refl,
      ),
      tt,
    )
    queue_named at (ast.queue_at name index) h =
        let test = declared_as is_queue_array names.place.layer name.word in
        let parts = nils (unless test (kind at)) (number_faults scope index) h in (
          inr (among_named names.place name
              (declares_it is_queue_array names.place.layer name.word (unless_nil test (kind at) parts.0))),
          number_named index parts.1,
        )

    pub message_named : (m : ast.MessageTree) →
        message_faults (record { layer = names.place.layer; locals = locals }) m ≡ [] →
        NamedMessage (layer_of names.place) slots (message_of names m)
    message_named (ast.bare name) h = tt
    message_named (ast.built b) h = built_named b h

    pub built_named : (b : ast.BuiltTree) → built_faults (record { layer = names.place.layer; locals = locals }) b ≡
        [] →
        NamedMessage (layer_of names.place) slots (built_of names b)
    built_named (ast.nothing at) h = tt
    built_named (ast.held at q row) h =
        let test = is_some (held_sort scope q) in
        let one = nils (queue_faults scope at q ++ unless test (kind at)) (number_faults scope row) h in
        let two = nils (queue_faults scope at q) (unless test (kind at)) one.0 in
        let a = queue_named at q two.0 in
        (record { items = _; listed = a.0 }, a.1, number_named row one.1)
    built_named (ast.cut at m from n) h =
        let one = nils (message_faults scope m ++ number_faults scope from) (number_faults scope n) h in
        let two = nils (message_faults scope m) (number_faults scope from) one.0 in
        (message_named m two.0, number_named from two.1, number_named n one.1)
    built_named (ast.tail at m from) h =
        let test = unless (not (must_be a_part (message_sort scope m))) (kind at) in
        let one = nils (test ++ message_faults scope m) (number_faults scope from) h in
        (message_named m (nils test (message_faults scope m) one.0).1, number_named from one.1)
    built_named (ast.join at first second) h =
        let a = unless (may_be a_part (message_sort scope first)) (kind (message_at first)) in
        let b = unless (may_be a_msg (message_sort scope second)) (kind (message_at second)) in
        let one = nils (a ++ b ++ message_faults scope first) (message_faults scope second) h in
        (message_named first (nils (a ++ b) (message_faults scope first) one.0).1, message_named second one.1)

  pub argument_numbered : (a : ast.ArgumentTree) →
      argument_faults (record { layer = names.place.layer; locals = locals }) a_number a ≡ [] →
      Named (layer_of names.place) slots (argument_number names a)
  argument_numbered (ast.value (ast.named name)) h =
      named_named name (unless_nil (must_be a_number (name_sort scope name.word)) (kind name.at) h)
  argument_numbered (ast.content b) h = tt
  argument_numbered (ast.value e) h =
      number_named e (nils (unless (allows a_number Int) (kind (expression_at e))) (number_faults scope e) h).1

  pub argument_messaged : (wanted : List Sort) (a : ast.ArgumentTree) →
      argument_faults (record { layer = names.place.layer; locals = locals }) wanted a ≡ [] →
      NamedMessage (layer_of names.place) slots (argument_message names a)
  argument_messaged wanted (ast.value (ast.named name)) h = tt
  argument_messaged wanted (ast.content b) h =
      built_named b (nils (unless (may_be wanted (argument_sort scope (ast.content b)))
      (kind (argument_at (ast.content b)))) (built_faults scope b) h).1
  argument_messaged wanted (ast.value e) h = tt

-- Messages and arguments without faults are of the sorts that the types of names say.
use Rattle.std.proofs.Common.{◌≡◌, ◌∙◌, ℕ, Bool, true, false, List, [], ◌∷◌, ◌++◌, map, Option, Some, None, refl, sym}
use Rattle.std.proofs.Common.{ap, subst}
use Rattle.std.specs.Prelude.{not, bytes_eq, is_some, slice_get, unwrap_or, option_map, if◌then◌else◌}
use Rattle.std.specs.List.{find, last_or}
use Rattle.std.specs.Map.{lookup}
use Rattle.std.specs.Option.{option_or}
use Rattle.msg_core.specs.declared.message.Header.{Header}
use Rattle.layer_words.specs.declared.places.At.{At}
use Rattle.layer_ast.specs.declared.names.Name.{Name}
use Rattle.layer_words.specs.declared.words.Word.{Word}
use Rattle.layer_words.specs.declared.sorts.Sort.{Sort}
use Rattle.layer_words.specs.declared.sorts.Sort.TheVariants.{Int, Msg, Part}
use Rattle.layer_ast.specs.Tree as ast
use Rattle.layer_mean.specs.Tree.{Carried, part, whole}
use Rattle.fault_mean.specs.Earliest.{unless}
use Rattle.fault_mean.specs.Faults.{kind}
use Rattle.fault_mean.specs.Forms.{declared_as, is_queue, is_queue_array, items_of, row_of, queue_name}
use Rattle.fault_mean.specs.Kinds.{allows, a_number, a_message, a_msg, a_part}
use Rattle.fault_mean.specs.Limits.{messages_inside}
use Rattle.fault_mean.specs.Scope.{Local, Scope}
use Rattle.fault_mean.specs.Sorts.{is_number, name_sort, held_sort, built_sort, message_sort, argument_sort}
use Rattle.fault_mean.specs.Sorts.{expression_at, argument_at, message_at}
use Rattle.fault_mean.specs.ExpressionFaults.{may_be, must_be, number_faults, queue_faults, message_faults}
use Rattle.fault_mean.specs.ExpressionFaults.{built_faults, argument_faults}
use Rattle.file_mean.specs.Names.{Placed, Names, capacity_declared, carried_as, carried_in, message_slot}
use Rattle.file_mean.specs.Values.{queue_row, queue_cell, message_of, built_of, argument_message}
use Rattle.file_mean.specs.Layers.{row_items, layer_of}
use Rattle.chain_laws.specs.Typed.{sort_of, HasBlank, Carries, Sorted}
use Rattle.file_laws.proofs.Lists.{nils, unless_nil, last_map}
use Rattle.file_laws.proofs.Own.{Declares, declares_it, is_rows, rows_of_queue, rows_of_array, queue_listed}

-- P of a sort that is known and is a message's
abbrev pub Finds : (Sort → Type 0) → Option Sort → Type 0
Finds P (Some Msg) = P Msg
Finds P (Some Part) = P Part
Finds P _ = ⊥

-- the sort of a local, and the slot of a message
abbrev pub sort_among : List Local → Word → Option Sort
sort_among locals word = option_map (λ l. l.sort) (find (λ l. bytes_eq l.name.word word) locals)

abbrev pub slot_among : List (Word × ℕ) → Word → ℕ
slot_among messages word = unwrap_or (lookup (bytes_eq word) messages) 0

abbrev pub Slot : List Sort → Option Sort → ℕ → Type 0
Slot sorts (Some Msg) k = slice_get sorts k ≡ Some Msg
Slot sorts (Some Part) k = slice_get sorts k ≡ Some Part
Slot sorts _ k = Unit {0}

-- each local message has a slot of its sort
abbrev pub Agree : List Sort → List Local → List (Word × ℕ) → Type 0
Agree sorts locals messages = (word : Word) → Slot sorts (sort_among locals word) (slot_among messages word)

-- no item of a row but the last is a message
abbrev pub IsLastMessage : List ast.ItemTree → Type 0
IsLastMessage items = messages_inside items ≡ []

abbrev has_a_message : ast.ItemTree → Bool
has_a_message i = allows a_message i.sort

number_no_message : (sort : Sort) → allows a_number sort ≡ true → allows a_message sort ≡ false
number_no_message Int h = refl
number_no_message Msg h = absurd (cc h)
number_no_message Part h = absurd (cc h)

pub inner_number : (i : ast.ItemTree) (b : Bool) → allows a_number i.sort ≡ b → (if b then [] else i ∷ []) ≡ [] →
    allows a_number i.sort ≡ true
inner_number i true is h = is
inner_number i false is h = absurd (cc h)

found_last : (x : ast.ItemTree) (rest : Option ast.ItemTree) (i : ast.ItemTree) (b : Bool) →
    (if b then Some x else rest) ≡ Some i → b ≡ false →
    rest ≡ Some i
found_last x rest i true is other = absurd (cc other)
found_last x rest i false is other = is

only_found : (x i : ast.ItemTree) (b : Bool) → (if b then Some x else None) ≡ Some i → x ≡ i
only_found x i true is = cc is
only_found x i false is = absurd (cc is)

-- the message that is found among items is the last item
pub last_message : (items : List ast.ItemTree) (o : Option ast.ItemTree) (i : ast.ItemTree) → IsLastMessage items →
    find has_a_message items ≡ Some i →
    last_or o items ≡ Some i
last_message [] o i h is = absurd (cc is)
last_message (x ∷ []) o i h is = ap Some (only_found x i (has_a_message x) is)
last_message (x ∷ y ∷ items) o i h is =
    let parts = nils (if allows a_number x.sort then [] else x ∷ []) (messages_inside (y ∷ items)) h in
    let number = inner_number x (allows a_number x.sort) refl parts.0 in
    last_message (y ∷ items) (Some x) i parts.1
    (found_last x (find has_a_message (y ∷ items)) i (has_a_message x) is (number_no_message x.sort number))

-- what a row of items with such a last one carries

carried_sort : (blank : List Header) (sort : Sort) → allows a_message sort ≡ true →
    (carried : Carried) × (carried_as blank sort ≡ Some carried) × (sort_of carried ≡ sort) × HasBlank blank carried
carried_sort blank Int is = absurd (cc is)
carried_sort blank Msg is = (whole blank, refl, refl, refl)
carried_sort blank Part is = (part, refl, refl, tt)

pub found_passes : {A : Type 0} (p : A → Bool) (xs : List A) (x : A) → find p xs ≡ Some x → p x ≡ true
found_passes p [] x is = absurd (cc is)
found_passes p (y ∷ xs) x is = go (p y) refl is (found_passes p xs x) where
  go : (b : Bool) → p y ≡ b → (if b then Some y else find p xs) ≡ Some x → (find p xs ≡ Some x → p x ≡ true) →
      p x ≡ true
  go true here is later = let e : y ≡ x = cc is in ap p (sym e) ∙ here
  go false other is later = later is

-- the label of a last item
label_last : (items : List ast.ItemTree) (i : ast.ItemTree) → last_or None items ≡ Some i →
    last_or None (map (λ i. i.name.word) items) ≡ Some i.name.word
label_last items i is = last_map (λ (i : ast.ItemTree). i.name.word) items None ∙
    ap (option_map (λ (i : ast.ItemTree). i.name.word)) is

-- what a queue's rows carry, where they have a message
pub record RowCarries (p : Placed) (items : List ast.ItemTree) (i : ast.ItemTree) : Type 0 where
  pub carried : Carried
  pub last : last_or None items ≡ Some i
  pub is : carried_in p items ≡ Some carried
  pub sort : sort_of carried ≡ i.sort
  pub blanks : HasBlank p.blank carried
  pub items_are : option_map (λ item. sort_of item.1) (row_items p items).message ≡ Some (sort_of carried)

pub row_carries : (p : Placed) (items : List ast.ItemTree) (i : ast.ItemTree) → last_or None items ≡ Some i →
    allows a_message i.sort ≡ true →
    RowCarries p items i
row_carries p items i last is =
    let made = carried_sort p.blank i.sort is in
    let carries : carried_in p items ≡ Some made.0 = rw last made.1 in
    record {
      carried = made.0;
      last = last;
      is = carries;
      sort = made.2;
      blanks = made.3;
      items_are = rw (carries, label_last items i last) refl;
    }

-- a queue without faults is one of the layer
pub queue_declared : (scope : Scope) (at : At) (q : ast.QueueTree) → queue_faults scope at q ≡ [] →
    Declares is_rows scope.layer (queue_name q).word
queue_declared scope at (ast.queue name) h =
    rows_of_queue scope.layer name.word (declares_it is_queue scope.layer name.word
    (unless_nil (declared_as is_queue scope.layer name.word) (kind at) h))
queue_declared scope at (ast.queue_at name index) h =
    let parts = nils (unless (declared_as is_queue_array scope.layer name.word) (kind at)) (number_faults scope index) h
    in
    rows_of_array scope.layer name.word (declares_it is_queue_array scope.layer name.word
    (unless_nil (declared_as is_queue_array scope.layer name.word) (kind at) parts.0))

pub row_items_are : (layer : ast.LayerTree) (word : Word) (h : Declares is_rows layer word) →
    row_of layer word ≡ items_of h.declaration
row_items_are layer word h = rw h.found refl

-- what a queue of a layer carries
pub queue_is : (names : Names) (q : ast.QueueTree) (i : ast.ItemTree) →
    Declares is_rows names.place.layer (queue_name q).word →
    (h : RowCarries names.place (queue_row names q) i) →
    Carries (layer_of names.place) names.place.blank (queue_cell names q) h.carried
queue_is names q i d h = record {
  rows = record {
    capacity = capacity_declared names.place d.declaration;
    items = row_items names.place (items_of d.declaration);
  };
  listed = queue_listed names.place (queue_name q) d.declaration d.found d.passes;
  sort = subst (λ items. option_map (λ item. sort_of item.1) (row_items names.place items).message ≡
      Some (sort_of h.carried))
      (row_items_are names.place.layer (queue_name q).word d) h.items_are;
  blanks = h.blanks;
}

-- cases of a known sort

finds_sort : (P : Sort → Type 0) (o : Option Sort) (sort : Sort) → o ≡ Some sort → allows a_message sort ≡ true →
    P sort → Finds P o
finds_sort P o Int is allowed h = absurd (cc allowed)
finds_sort P o Msg is allowed h = rw is h
finds_sort P o Part is allowed h = rw is h

tail_is : (P : Sort → Type 0) (o : Option Sort) → Finds P o → not (must_be a_part o) ≡ true → P Msg
tail_is P None h is = absurd h
tail_is P (Some Int) h is = absurd h
tail_is P (Some Msg) h is = h
tail_is P (Some Part) h is = absurd (cc is)

join_is : (P : Sort → Type 0) (o : Option Sort) → Finds P o → may_be a_msg o ≡ true → P Msg
join_is P None h is = absurd h
join_is P (Some Int) h is = absurd h
join_is P (Some Msg) h is = h
join_is P (Some Part) h is = absurd (cc is)

found_slot : (sorts : List Sort) (wanted : List Sort) (o : Option Sort) (b : Bool) (k : ℕ) → allows wanted Int ≡ false →
    Slot sorts o k →
    must_be wanted (option_or o (if b then Some Int else None)) ≡ true →
    Finds (λ sort. (allows wanted sort ≡ true) × (slice_get sorts k ≡ Some sort))
    (option_or o (if b then Some Int else None))
found_slot sorts wanted None true k none slot is = absurd (cc (none, is))
found_slot sorts wanted None false k none slot is = absurd (cc is)
found_slot sorts wanted (Some Int) b k none slot is = absurd (cc (none, is))
found_slot sorts wanted (Some Msg) b k none slot is = (is, slot)
found_slot sorts wanted (Some Part) b k none slot is = (is, slot)

finds_so : (P Q : Sort → Type 0) (o : Option Sort) → ((sort : Sort) → P sort → Q sort) → Finds P o → Finds Q o
finds_so P Q None so h = absurd h
finds_so P Q (Some Int) so h = absurd h
finds_so P Q (Some Msg) so h = so Msg h
finds_so P Q (Some Part) so h = so Part h

finds_allowed : (P : Sort → Type 0) (wanted : List Sort) (o : Option Sort) → Finds P o → may_be wanted o ≡ true →
    Finds (λ sort. (allows wanted sort ≡ true) × P sort) o
finds_allowed P wanted None h is = absurd h
finds_allowed P wanted (Some Int) h is = absurd h
finds_allowed P wanted (Some Msg) h is = (is, h)
finds_allowed P wanted (Some Part) h is = (is, h)

some_found : {A : Type 0} (f : A → Sort) (o : Option A) → is_some (option_map f o) ≡ true → (x : A) × (o ≡ Some x)
some_found f None is = absurd (cc is)
some_found f (Some x) is = (x, refl)

-- the layer's own rows
abbrev pub LastMessages : ast.LayerTree → Type 0
LastMessages layer = (word : Word) → IsLastMessage (row_of layer word)

module _ (names : Names) (locals : List Local) (sorts : List Sort) (agree : Agree sorts locals names.messages)
    (rows : LastMessages names.place.layer) where
  abbrev scope : Scope
  scope = record { layer = names.place.layer; locals = locals }

  abbrev IsOf : ast.MessageTree → Sort → Type 0
  IsOf m sort = Sorted (layer_of names.place) names.place.blank sorts sort (message_of names m)

  name_found : (wanted : List Sort) (name : Name) → allows wanted Int ≡ false →
      must_be wanted (name_sort scope name.word) ≡ true →
      Finds (λ sort. (allows wanted sort ≡ true) × (slice_get sorts (message_slot names name) ≡ Some sort))
      (name_sort scope name.word)
  name_found wanted name none is = found_slot sorts wanted (sort_among locals name.word)
      (declared_as is_number names.place.layer name.word)
      (message_slot names name) none (agree name.word) is

  held_found : (at : At) (q : ast.QueueTree) (row : ast.ExpressionTree) → built_faults scope (ast.held at q row) ≡ [] →
      Finds (λ sort. Sorted (layer_of names.place) names.place.blank sorts sort (built_of names (ast.held at q row)))
      (held_sort scope q)
  held_found at q row h =
      let outer = nils (queue_faults scope at q ++ unless (is_some (held_sort scope q)) (kind at))
      (number_faults scope row) h in
      let inner = nils (queue_faults scope at q) (unless (is_some (held_sort scope q)) (kind at)) outer.0 in
      let items = queue_row names q in
      let found = some_found (λ (i : ast.ItemTree). i.sort) (find has_a_message items)
      (unless_nil (is_some (held_sort scope q)) (kind at) inner.1) in
      let allowed = found_passes has_a_message items found.0 found.1 in
      let carries = row_carries names.place items found.0
      (last_message items None found.0 (rows (queue_name q).word) found.1) allowed in
      let is = queue_is names q found.0 (queue_declared scope at q inner.0) carries in
      finds_sort (λ sort. Sorted (layer_of names.place) names.place.blank sorts sort
      (built_of names (ast.held at q row))) (held_sort scope q)
      found.0.sort (ap (option_map (λ (i : ast.ItemTree). i.sort)) found.1) allowed
      (rw carries.is (is, sym carries.sort))

  mutual
    pub message_found : (m : ast.MessageTree) → message_faults scope m ≡ [] →
        Finds (λ sort. Sorted (layer_of names.place) names.place.blank sorts sort (message_of names m))
        (message_sort scope m)
    message_found (ast.bare name) h = finds_so
        (λ sort. (allows a_message sort ≡ true) × (slice_get sorts (message_slot names name) ≡ Some sort))
        (λ sort. slice_get sorts (message_slot names name) ≡ Some sort) (name_sort scope name.word) (λ sort is. is.1)
        (name_found a_message name refl (unless_nil (must_be a_message (name_sort scope name.word)) (kind name.at) h))
    message_found (ast.built b) h = built_found b h

    pub built_found : (b : ast.BuiltTree) → built_faults scope b ≡ [] →
        Finds (λ sort. Sorted (layer_of names.place) names.place.blank sorts sort (built_of names b))
        (built_sort scope b)
    built_found (ast.nothing at) h = refl
    built_found (ast.held at q row) h = held_found at q row h
    built_found (ast.cut at m from n) h = refl
    built_found (ast.tail at m from) h =
        let outer = nils (unless (not (must_be a_part (message_sort scope m))) (kind at) ++ message_faults scope m)
        (number_faults scope from) h in
        let inner = nils (unless (not (must_be a_part (message_sort scope m))) (kind at)) (message_faults scope m)
        outer.0 in
        tail_is (IsOf m) (message_sort scope m) (message_found m inner.1)
        (unless_nil (not (must_be a_part (message_sort scope m))) (kind at) inner.0)
    built_found (ast.join at first second) h =
        let a = unless (may_be a_part (message_sort scope first)) (kind (message_at first)) in
        let b = unless (may_be a_msg (message_sort scope second)) (kind (message_at second)) in
        let one = nils (a ++ b ++ message_faults scope first) (message_faults scope second) h in
        let two = nils (a ++ b) (message_faults scope first) one.0 in
        let three = nils a b two.0 in
        join_is (IsOf second) (message_sort scope second) (message_found second one.1)
        (unless_nil (may_be a_msg (message_sort scope second)) (kind (message_at second)) three.1)

  abbrev ArgumentIs : List Sort → ast.ArgumentTree → Type 0
  ArgumentIs wanted a =
      Finds (λ sort. (allows wanted sort ≡ true) × Sorted (layer_of names.place) names.place.blank sorts sort
      (argument_message names a))
      (argument_sort scope a)

  pub argument_found : (wanted : List Sort) (a : ast.ArgumentTree) → allows wanted Int ≡ false →
      argument_faults scope wanted a ≡ [] →
      Finds (λ sort. (allows wanted sort ≡ true) × Sorted (layer_of names.place) names.place.blank sorts sort
      (argument_message names a))
      (argument_sort scope a)
  argument_found wanted (ast.value (ast.named name)) none h =
      name_found wanted name none (unless_nil (must_be wanted (name_sort scope name.word)) (kind name.at) h)
  argument_found wanted (ast.content b) none h =
      let o = argument_sort scope (ast.content b) in
      let parts = nils (unless (may_be wanted o) (kind (argument_at (ast.content b)))) (built_faults scope b) h in
      finds_allowed (λ sort. Sorted (layer_of names.place) names.place.blank sorts sort (built_of names b)) wanted o
      (built_found b parts.1)
      (unless_nil (may_be wanted o) (kind (argument_at (ast.content b))) parts.0)
  argument_found wanted (ast.value e) none h =
      absurd (cc (
        none,
        unless_nil (allows wanted Int) (kind (expression_at e))
            (nils (unless (allows wanted Int) (kind (expression_at e))) (number_faults scope e) h).0,
      ))

-- What statements, handlers and layers without faults name is there.
use Rattle.std.proofs.Common.{◌≡◌, ◌∙◌, ℕ, ◌+◌, ◌<◌, ◌≤◌, Bool, true, false, List, [], ◌∷◌, ◌++◌, length, map, Option}
use Rattle.std.proofs.Common.{Some, None, refl, sym, ap, subst, inl, inr, arith}
use Rattle.std.specs.Prelude.{◌==◌, ◌&&◌, drop, is_some, flat_map, if◌then◌else◌, nat_le, unwrap_or}
use Rattle.std.specs.List.{AllByRecursion}
use Rattle.std.specs.Option.{option_map_or}
use Rattle.std.proofs.lemmas.Bool.{and_parts, eqb-true, leb-true}
use Rattle.std.proofs.lemmas.List.{length-map, length-append}
use Rattle.layer_ast.specs.declared.names.Name.{Name}
use Rattle.layer_words.specs.declared.words.Word.{Word}
use Rattle.layer_words.specs.declared.sorts.Shape.TheVariants.{One, Array, Square}
use Rattle.layer_words.specs.declared.sorts.Sort.{Sort}
use Rattle.layer_words.specs.declared.sorts.Sort.TheVariants.{Int, Msg, Part}
use Rattle.layer_words.specs.declared.events.Kind.{Kind}
use Rattle.layer_words.specs.declared.events.Kind.TheVariants as kinds
use Rattle.layer_ast.specs.Tree as ast
use Rattle.layer_mean.specs.Event.{carries}
use Rattle.layer_mean.specs.Headers.{header_of_tag}
use Rattle.layer_mean.specs.Tree.{CellTree, no_layer}
use Rattle.fault_mean.specs.Declared.{declaration_of, is_header, is_param, names_in, declared_name, is_cell}
use Rattle.fault_mean.specs.Earliest.{unless}
use Rattle.fault_mean.specs.Faults.{kind, arity, direction, initial, twice, too_many}
use Rattle.fault_mean.specs.Forms.{declared_as, is_numbers, is_end, fields_of, queue_name, items_of, labels_of}
use Rattle.fault_mean.specs.Kinds.{allows, arguments_of}
use Rattle.fault_mean.specs.NameFaults as naming
use Rattle.fault_mean.specs.Scope.{Local, Scope, Standing, layer_scope, locals_as, popped_names, sort_after}
use Rattle.fault_mean.specs.Scope.{argument_sorts, head_scope, handler_statements, standing_in, visible}
use Rattle.fault_mean.specs.Scope.{declared_names as brought_by, head_names, handler_names as all_names}
use Rattle.fault_mean.specs.Scope.{layer_statements}
use Rattle.fault_mean.specs.Sorts.{is_initial, expression_at, size_at}
use Rattle.fault_mean.specs.Uses.{arguments_in, of_name, statement_uses}
use Rattle.fault_mean.specs.ExpressionFaults.{number_faults, queue_faults, arguments_faults}
use Rattle.fault_mean.specs.TypeFaults.{with_faults, row_type_faults, row_sorts, size_type_faults}
use Rattle.fault_mean.specs.TypeFaults.{statement_type_faults, expected_type_faults, takes_off, handler_type_faults}
use Rattle.fault_mean.specs.TypeFaults.{declaration_type_faults, layer_type_faults}
use Rattle.file_mean.specs.Names.{Names, Placed, own_names, in_slots, numbers_among, with_numbers, size_value}
use Rattle.file_mean.specs.Values.{queue_row, queue_carries, number_of}
use Rattle.file_mean.specs.Statements.{with_taken, after_block, after_all, statements_of}
use Rattle.file_mean.specs.Layers.{popped_tag, expected_of, handler_names, handler_of, cell_in, layer_of}
use Rattle.layer_words.specs.declared.places.At.{At}
use Rattle.fault_mean.specs.Limits.{LimitedSize, capacity_in, is_within, maximum_in, number_outside, sizes_in}
use Rattle.fault_mean.specs.Places.{param_value}
use Rattle.chain_laws.specs.Named.{Named, NamedAll, NamedExpected, event_number_count, slots_of, NamedHandler}
use Rattle.chain_laws.specs.Named.{NamedForm, NamedLayer, IsSize}
use Rattle.file_laws.proofs.Lists.{nils, each_nil, each_parts, unless_nil, filter_map_each, each_both, map_nil}
use Rattle.file_laws.proofs.Own.{declares_it, headed}
use Rattle.file_laws.proofs.Messages.{LastMessages}
use Rattle.file_laws.proofs.Emissions.{kind_arguments}
use Rattle.file_laws.proofs.Handlers.{last_messages}
use Rattle.file_laws.proofs.Fronts.{front, front_is, Found, found_new, seen_all, seen_front, Seen, IsMessageSort}
use Rattle.file_laws.proofs.Fronts.{LastSort, Sees, sees_numbers, sees_all, sees_kept}
use Rattle.file_laws.proofs.NamedValues.{shape_named, number_named, queue_named}
use Rattle.file_laws.proofs.NamedBlocks.{last_sort, range_below, row_named, emission_named}
use Rattle.file_laws.proofs.Growth.{grows, grows_all}
use Rattle.chain_laws.proofs.Lists.{Where, each_append, each_so, each_map}

-- sizes within their limits, where a place gives params their values

abbrev pub given_within : Placed → ast.SizeTree → ℕ → Bool
given_within p (ast.fixed at n) most = true
given_within p (ast.sized name) most = option_map_or (is_within most) (param_value p.layer p.given name.word) true

abbrev pub FitsAt : Placed → LimitedSize → Type 0
FitsAt p l = (naming.size_faults l ≡ []) × (given_within p l.size l.most ≡ true)

within_is : (most n : ℕ) → is_within most n ≡ true → IsSize most n
within_is most n h = let parts = and_parts (nat_le 1 n) (nat_le n most) h in
    (leb-true 1 n parts.0, leb-true n most parts.1)

number_within : (most n : ℕ) (at : At) (b : Bool) → is_within most n ≡ b → (if b then [] else at ∷ []) ≡ [] →
    is_within most n ≡ true
number_within most n at true is h = is
number_within most n at false is h = absurd (cc h)

param_is : (layer : ast.LayerTree) (given : List ast.GivenTree) (word : Word) (d : ast.DeclarationTree) →
    declaration_of layer word ≡ Some d →
    is_param d ≡ true → is_some (param_value layer given word) ≡ true
param_is layer given word (ast.param at own value) found is = rw found refl
param_is layer given word (ast.int at own written e) found is = absurd (cc is)
param_is layer given word (ast.rows_cell at own capacity items) found is = absurd (cc is)
param_is layer given word (ast.rows_array at own capacity items) found is = absurd (cc is)
param_is layer given word (ast.header at own fields end) found is = absurd (cc is)

pub size_is : (p : Placed) (size : ast.SizeTree) (most : ℕ) (at : At) → size_type_faults p.layer at size ≡ [] →
    naming.size_faults (record { size = size; most = most }) ≡ [] → given_within p size most ≡ true →
    IsSize most (size_value p size)
size_is p (ast.fixed own n) most at typed h within =
    within_is most n (number_within
    most n own (is_within most n) refl (map_nil too_many (number_outside most (ast.fixed own n)) h))
size_is p (ast.sized name) most at typed h within =
    let test = declared_as is_param p.layer name.word in
    let d = declares_it is_param p.layer name.word (unless_nil test (kind at) typed) in
    go (param_value p.layer p.given name.word) (param_is p.layer p.given name.word d.declaration d.found d.passes)
    within
  where
    go : (o : Option ℕ) → is_some o ≡ true → option_map_or (is_within most) o true ≡ true → IsSize most (unwrap_or o 0)
    go None there h = absurd (cc there)
    go (Some n) there h = within_is most n h

each_flat_parts : {A B : Type 0} (P : B → Type 0) (f : A → List B) (xs : List A) → AllByRecursion P (flat_map f xs) →
    AllByRecursion (λ x. AllByRecursion P (f x)) xs
each_flat_parts P f [] h = tt
each_flat_parts P f (x ∷ xs) h = let parts = each_parts P (f x) (flat_map f xs) h in
    (parts.0, each_flat_parts P f xs parts.1)

abbrev pub Clean : Placed → Standing → Type 0
Clean p s = (statement_type_faults s.scope s.statement ≡ []) × AllByRecursion (FitsAt p) (maximum_in s.statement)

abbrev scope_of : Names → List Local → Scope
scope_of names locals = record { layer = names.place.layer; locals = locals }

-- after a block as before it
sees_after : (names inner : Names) (locals : List Local) → names.taken.numbers ≤ inner.taken.numbers →
    Sees names locals →
    Sees (after_block names inner) locals
sees_after names inner locals more h = record {
  below = each_so (λ x. x.1 < names.taken.numbers) (λ x. x.1 < inner.taken.numbers)
      (λ x less. omega (arith, less, more)) names.numbers h.below;
  seen = h.seen;
}

taken_sees : (names : Names) (locals : List Local) (q : ast.QueueTree) (new : List Name) → Sees names locals →
    length (queue_row names q) ≡ length new →
    Sees (with_taken q new names) (locals ++ locals_as (map (λ i. i.sort) (queue_row names q)) new)
taken_sees names locals q new h same =
    let is = sees_kept names locals (is_some (queue_carries names q))
    (map (λ (i : ast.ItemTree). i.sort) (queue_row names q)) new h
    (length-map (queue_row names q) (λ (i : ast.ItemTree). i.sort) ∙ same)
    (last_sort names.place (queue_row names q) (is_some (queue_carries names q)) refl) in
    record { below = is.below; seen = is.seen }

block_named : (xs : ast.StatementTrees) (names : Names) (locals : List Local) (slots : ℕ) → Sees names locals →
    LastMessages names.place.layer →
    (after_all xs names).taken.numbers ≤ slots →
    AllByRecursion (Clean names.place) (standing_in (record { layer = names.place.layer; locals = locals }) xs) →
    NamedAll (layer_of names.place) slots (statements_of names xs)
block_named ast.none names locals slots sees last bound h = tt
block_named (ast.more (ast.bind at name e) rest) names locals slots sees last bound h =
    let end = (grows_all rest (with_numbers (name ∷ []) names)).numbers in (
      (omega (arith, end, bound), number_named names locals slots sees (omega (arith, end, bound)) e h.0.0),
      block_named rest (with_numbers (name ∷ []) names) (locals ++ locals_as [] (name ∷ [])) slots
          (sees_all names locals [] (name ∷ []) sees) last bound h.1,
    )
block_named (ast.more (ast.set at name None e) rest) names locals slots sees last bound h =
    let scope = scope_of names locals in
    let test = declared_as (is_numbers One) names.place.layer name.word in
    let end = (grows_all rest names).numbers in
    let parts = nils (unless test (kind at)) (number_faults scope e ++ []) h.0.0 in (
      (
        inl (
          shape_named names.place name One
              (declares_it (is_numbers One) names.place.layer name.word (unless_nil test (kind at) parts.0)),
          refl,
        ),
        tt,
        number_named names locals slots sees (omega (arith, end, bound)) e (nils (number_faults scope e) [] parts.1).0,
      ),
      block_named rest names locals slots sees last bound h.1,
    )
block_named (ast.more (ast.set at name (Some index) e) rest) names locals slots sees last bound h =
    let scope = scope_of names locals in
    let test = declared_as (is_numbers Array) names.place.layer name.word in
    let end = (grows_all rest names).numbers in
    let parts = nils (unless test (kind at)) (number_faults scope index ++ (number_faults scope e ++ [])) h.0.0 in
    let more = nils (number_faults scope index) (number_faults scope e ++ []) parts.1 in (
      (
        inr (shape_named names.place name Array
            (declares_it (is_numbers Array) names.place.layer name.word (unless_nil test (kind at) parts.0))),
        number_named names locals slots sees (omega (arith, end, bound)) index more.0,
        number_named names locals slots sees (omega (arith, end, bound)) e (nils (number_faults scope e) [] more.1).0,
      ),
      block_named rest names locals slots sees last bound h.1,
    )
block_named (ast.more (ast.set_square at name row column e) rest) names locals slots sees last bound h =
    let scope = scope_of names locals in
    let test = declared_as (is_numbers Square) names.place.layer name.word in
    let end = (grows_all rest names).numbers in
    let parts = nils (unless test (kind at))
    (number_faults scope row ++ (number_faults scope column ++ (number_faults scope e ++ []))) h.0.0 in
    let more = nils (number_faults scope row) (number_faults scope column ++ (number_faults scope e ++ [])) parts.1 in
    let last_two = nils (number_faults scope column) (number_faults scope e ++ []) more.1 in (
      (
        shape_named names.place name Square
            (declares_it (is_numbers Square) names.place.layer name.word (unless_nil test (kind at) parts.0)),
        number_named names locals slots sees (omega (arith, end, bound)) row more.0,
        number_named names locals slots sees (omega (arith, end, bound)) column last_two.0,
        number_named names locals slots sees (omega (arith, end, bound)) e
            (nils (number_faults scope e) [] last_two.1).0,
      ),
      block_named rest names locals slots sees last bound h.1,
    )
block_named (ast.more (ast.push at q items otherwise) rest) names locals slots sees last bound h =
    let scope = scope_of names locals in
    let args = arguments_in (Some items) in
    let inner = after_all otherwise names in
    let later = after_block names inner in
    let one = (grows_all otherwise names).numbers in
    let end = (grows_all rest later).numbers in
    let faults = nils (row_type_faults scope at q (length args))
    (arguments_faults scope (row_sorts names.place.layer q) args) h.0.0 in
    let test = length (queue_row names q) == length args in
    let two = nils (queue_faults scope at q) (unless test (arity at)) faults.0 in
    let count = eqb-true (length (queue_row names q)) (length args) (unless_nil test (arity at) two.1) in
    let queue_is = queue_named names locals slots sees (omega (arith, one, end, bound)) at q two.0 in
    let row_is = row_named names locals slots sees (omega (arith, one, end, bound)) q args (last (queue_name q).word)
    count faults.1 in
    let parts = each_parts (Clean names.place) (standing_in scope otherwise) (standing_in scope rest) h.1 in (
      (
        record { items = _; listed = queue_is.0 },
        queue_is.1,
        row_is.0,
        row_is.1,
        block_named otherwise names locals slots sees last (omega (arith, end, bound)) parts.0,
      ),
      block_named rest later locals slots (sees_after names inner locals one sees) last bound parts.1,
    )
block_named (ast.more (ast.take at q new block otherwise) rest) names locals slots sees last bound h =
    let scope = scope_of names locals in
    let fresh = names_in (Some new) in
    let inner = with_taken q fresh names in
    let further = locals_as (map (λ (i : ast.ItemTree). i.sort) (queue_row names q)) fresh in
    let first = after_all block inner in
    let between = after_block names first in
    let second = after_all otherwise between in
    let later = after_block names second in
    let zero_le = (grows (ast.take at q new ast.none ast.none) names).numbers in
    let one = (grows_all block inner).numbers in
    let two = (grows_all otherwise between).numbers in
    let end = (grows_all rest later).numbers in
    let test = length (queue_row names q) == length fresh in
    let faults = nils (queue_faults scope at q) (unless test (arity at)) h.0.0 in
    let count = eqb-true (length (queue_row names q)) (length fresh) (unless_nil test (arity at) faults.1) in
    let queue_is = queue_named names locals slots sees (omega (arith, zero_le, one, two, end, bound)) at q faults.0 in
    let outer = each_parts (Clean names.place)
    (standing_in (record { layer = names.place.layer; locals = locals ++ further }) block ++ standing_in
    scope otherwise)
    (standing_in scope rest) h.1 in
    let parts = each_parts (Clean names.place)
    (standing_in (record { layer = names.place.layer; locals = locals ++ further }) block)
    (standing_in scope otherwise) outer.0 in (
      (
        record { items = _; listed = queue_is.0 },
        queue_is.1,
        range_below names.taken.numbers (length (numbers_among (is_some (queue_carries names q)) fresh)) slots
            (omega (arith, one, two, end, bound)),
        block_named block inner (locals ++ further) slots (taken_sees names locals q fresh sees count) last
            (omega (arith, two, end, bound)) parts.0,
        block_named otherwise between locals slots (sees_after names first locals (omega (arith, zero_le, one)) sees)
            last (omega (arith, end, bound)) parts.1,
      ),
      block_named rest later locals slots (sees_after names second locals (omega (arith, zero_le, one, two)) sees) last
          bound outer.1,
    )
block_named (ast.more (ast.when at likely e block) rest) names locals slots sees last bound h =
    let scope = scope_of names locals in
    let inner = after_all block names in
    let later = after_block names inner in
    let one = (grows_all block names).numbers in
    let end = (grows_all rest later).numbers in
    let parts = each_parts (Clean names.place) (standing_in scope block) (standing_in scope rest) h.1 in (
      (
        number_named names locals slots sees (omega (arith, one, end, bound)) e h.0.0,
        block_named block names locals slots sees last (omega (arith, end, bound)) parts.0,
        tt,
      ),
      block_named rest later locals slots (sees_after names inner locals one sees) last bound parts.1,
    )
block_named (ast.more (ast.choose at likely e block otherwise) rest) names locals slots sees last bound h =
    let scope = scope_of names locals in
    let first = after_all block names in
    let between = after_block names first in
    let second = after_all otherwise between in
    let later = after_block names second in
    let one = (grows_all block names).numbers in
    let two = (grows_all otherwise between).numbers in
    let end = (grows_all rest later).numbers in
    let outer = each_parts (Clean names.place) (standing_in scope block ++ standing_in scope otherwise)
    (standing_in scope rest) h.1 in
    let parts = each_parts (Clean names.place) (standing_in scope block) (standing_in scope otherwise) outer.0 in (
      (
        number_named names locals slots sees (omega (arith, one, two, end, bound)) e h.0.0,
        block_named block names locals slots sees last (omega (arith, two, end, bound)) parts.0,
        block_named otherwise between locals slots (sees_after names first locals one sees) last
            (omega (arith, end, bound)) parts.1,
      ),
      block_named rest later locals slots (sees_after names second locals (omega (arith, one, two)) sees) last bound
          outer.1,
    )
block_named (ast.more (ast.each at name below most block) rest) names locals slots sees last bound h =
    let scope = scope_of names locals in
    let inside = scope_of names (locals ++ locals_as [] (name ∷ [])) in
    let inner = with_numbers (name ∷ []) names in
    let first = after_all block inner in
    let later = after_block names first in
    let one = (grows_all block inner).numbers in
    let end = (grows_all rest later).numbers in
    let faults = nils (number_faults scope below) (size_type_faults names.place.layer (size_at most) most) h.0.0 in
    let parts = each_parts (Clean names.place) (standing_in inside block) (standing_in scope rest) h.1 in (
      (
        omega (arith, one, end, bound),
        number_named names locals slots sees (omega (arith, one, end, bound)) below faults.0,
        size_is names.place most 32 (size_at most) faults.1 h.0.1.0.0 h.0.1.0.1,
        block_named block inner (locals ++ locals_as [] (name ∷ [])) slots (sees_all names locals [] (name ∷ []) sees)
            last (omega (arith, end, bound)) parts.0,
      ),
      block_named rest later locals slots (sees_after names first locals (omega (arith, one)) sees) last bound parts.1,
    )
block_named (ast.more (ast.emit at dir k arguments pushed) rest) names locals slots sees last bound h =
    let end = (grows_all rest names).numbers in (
      emission_named names locals slots sees (omega (arith, end, bound)) at dir k (arguments_in (Some arguments)) pushed
          h.0.0,
      block_named rest names locals slots sees last bound h.1,
    )

-- handlers

after_message : (layer : ast.LayerTree) (popped : Option ast.PoppedTree) →
    IsMessageSort (Some (sort_after layer popped))
after_message layer None = tt
after_message layer (Some x) = go (declared_as is_end layer x.name.word) where
  go : (b : Bool) → IsMessageSort (Some (if b then Part else Msg))
  go true = tt
  go false = tt

head_last : (layer : ast.LayerTree) (h : ast.HandlerTree) (b : Bool) → carries h.kind ≡ b →
    LastSort b (argument_sorts layer h)
head_last layer h false is = tt
head_last layer h true is =
    subst (λ wanted. LastSort true (map (λ w. if allows w Msg then sort_after layer h.popped else Int) wanted))
    (sym (kind_arguments h.kind is))
    (after_message layer h.popped)

head_seen : (numbers : List (Word × ℕ)) (sorts : List Sort) (new : List Name) (b : Bool) → length sorts ≡ length new →
    LastSort b sorts →
    AllByRecursion (Found numbers) (numbers_among b new) → AllByRecursion (Seen numbers) (locals_as sorts new)
head_seen numbers sorts new false same last h = seen_all numbers sorts new h
head_seen numbers sorts new true same last h =
    seen_front numbers sorts new same last (subst (AllByRecursion (Found numbers)) (front_is new) h)

head_sees : (p : Placed) (h : ast.HandlerTree) → length (names_in (Some h.names)) ≡ length (arguments_of h.kind) →
    Sees (handler_names p h) (head_scope p.layer h).locals
head_sees p h count =
    let new = names_in (Some h.names) in
    let kept = numbers_among (carries h.kind) new in
    let fields = popped_names h.popped in
    let numbers = in_slots 0 (kept ++ fields) ++ [] in
    let all = each_parts (Found numbers) kept fields (found_new 0 (kept ++ fields) []) in
    let same : length (argument_sorts p.layer h) ≡ length new =
    length-map (arguments_of h.kind) (λ wanted. if allows wanted Msg then sort_after p.layer h.popped else Int) ∙
    sym count in
    let is = sees_numbers (own_names p) [] (head_scope p.layer h).locals (kept ++ fields)
    (record { below = tt; seen = tt })
    (each_append (Seen numbers) (locals_as (argument_sorts p.layer h) new) (locals_as [] fields)
    (head_seen numbers (argument_sorts p.layer h) new (carries h.kind) same (head_last p.layer h (carries h.kind) refl)
    all.0)
    (seen_all numbers [] fields all.1)) in
    record { below = is.below; seen = is.seen }

-- how many numbers it is entered with

front_short : {A : Type 0} (xs : List A) → length xs ≡ 2 → length (front xs) ≡ 1
front_short [] two = absurd (omega (arith, two))
front_short (x ∷ []) two = absurd (omega (arith, two))
front_short (x ∷ y ∷ []) two = refl
front_short (x ∷ y ∷ z ∷ xs) two = absurd (omega (arith, two))

brought_is : (k : Kind) (new : List Name) → length new ≡ length (arguments_of k) →
    length (numbers_among (carries k) new) ≡ event_number_count k
brought_is kinds.Cast new count = ap length (front_is new) ∙ front_short new count
brought_is kinds.Send new count = ap length (front_is new) ∙ front_short new count
brought_is kinds.Stable new count = count
brought_is kinds.Ack new count = count
brought_is _ new count = count

popped_count : (p : Placed) (h : ast.HandlerTree) (popped : Option ast.PoppedTree) →
    option_map_or (λ x. with_faults p.layer h.at x.name (length (popped_names (Some x))) (takes_off h)) popped [] ≡ [] →
    length (popped_names popped) ≡ option_map_or (λ d. d.fields) (header_of_tag (layer_of p) (popped_tag p popped)) 0
popped_count p h None faults = refl
popped_count p h (Some x) faults =
    let a = unless (declared_as is_header p.layer x.name.word) (kind h.at) in
    let b = unless (length (fields_of p.layer x.name.word) == length (popped_names (Some x))) (arity h.at) in
    let outer = nils (a ++ b) (unless (takes_off h) (direction h.at)) faults in
    let inner = nils a b outer.0 in
    let head = headed p x.name
    (declares_it is_header p.layer x.name.word
    (unless_nil (declared_as is_header p.layer x.name.word) (kind h.at) inner.0)) in
    let count = eqb-true (length (fields_of p.layer x.name.word)) (length (popped_names (Some x)))
    (unless_nil (length (fields_of p.layer x.name.word) == length (popped_names (Some x))) (arity h.at) inner.1) in
    rw head.listed (sym count ∙ sym head.fields)

expected_named : (names : Names) (locals : List Local) (slots : ℕ) (x : ast.Expected) → Sees names locals →
    names.taken.numbers ≤ slots →
    expected_type_faults (record { layer = names.place.layer; locals = locals }) x ≡ [] →
    NamedExpected (layer_of names.place) slots (expected_of names x)
expected_named names locals slots ast.always sees bound h = tt
expected_named names locals slots (ast.common e) sees bound h = number_named names locals slots sees bound e h
expected_named names locals slots ast.rare sees bound h = tt

abbrev pub Handled : Placed → ast.HandlerTree → Type 0
Handled p h = (handler_type_faults p.layer h ≡ [])
    × AllByRecursion (λ s. AllByRecursion (FitsAt p) (maximum_in s.statement)) (handler_statements p.layer h)

-- what a handler without faults is made of: its head, its condition and its statements have none
record Head (p : Placed) (h : ast.HandlerTree) : Type 0 where
  names_are : length (names_in (Some h.names)) ≡ length (arguments_of h.kind)
  popped_is : option_map_or (λ x. with_faults p.layer h.at x.name (length (popped_names (Some x))) (takes_off h))
      h.popped [] ≡ []
  expected_is : expected_type_faults (head_scope p.layer h) h.expected ≡ []
  statements_are : AllByRecursion (Clean p) (handler_statements p.layer h)

handler_head : (p : Placed) (h : ast.HandlerTree) → Handled p h → Head p h
handler_head p h is =
    let statements = handler_statements p.layer h in
    let a = unless (length (names_in (Some h.names)) == length (arguments_of h.kind)) (arity h.at) in
    let b = option_map_or (λ x. with_faults p.layer h.at x.name (length (popped_names (Some x))) (takes_off h)) h.popped
    [] in
    let c = expected_type_faults (head_scope p.layer h) h.expected in
    let one = nils (a ++ b ++ c) (flat_map (λ s. statement_type_faults s.scope s.statement) statements) is.0 in
    let two = nils (a ++ b) c one.0 in
    let three = nils a b two.0 in
    record {
      names_are = eqb-true (length (names_in (Some h.names))) (length (arguments_of h.kind))
          (unless_nil (length (names_in (Some h.names)) == length (arguments_of h.kind)) (arity h.at) three.0);
      popped_is = three.1;
      expected_is = two.1;
      statements_are = each_both (λ s. statement_type_faults s.scope s.statement ≡ [])
          (λ s. AllByRecursion (FitsAt p) (maximum_in s.statement)) statements
          (each_nil (λ s. statement_type_faults s.scope s.statement) statements one.1) is.1;
    }

pub handler_clean : (p : Placed) (h : ast.HandlerTree) → Handled p h →
    AllByRecursion (Clean p) (handler_statements p.layer h)
handler_clean p h is = (handler_head p h is).statements_are

handler_named : (p : Placed) (h : ast.HandlerTree) → LastMessages p.layer → Handled p h →
    NamedHandler (layer_of p) (handler_of p h)
unfolding handler_of
handler_named p h last is =
    let head = handler_head p h is in
    let entry = handler_names p h in
    let end = after_all h.block entry in
    let sees = head_sees p h head.names_are in
    let kept = numbers_among (carries h.kind) (names_in (Some h.names)) in
    let fields = popped_names h.popped in
    let slots : ℕ = slots_of (layer_of p) (handler_of p h) in
    let met : entry.taken.numbers ≡
    event_number_count h.kind + option_map_or (λ d. d.fields) (header_of_tag (layer_of p) (popped_tag p h.popped)) 0 =
    omega (
      arith,
      length-append kept fields,
      brought_is h.kind (names_in (Some h.names)) head.names_are,
      popped_count p h h.popped head.popped_is,
    ) in
    let more : entry.taken.numbers ≤ end.taken.numbers = (grows_all h.block entry).numbers in (
      expected_named entry (head_scope p.layer h).locals slots h.expected sees (omega (arith, met)) head.expected_is,
      block_named h.block entry (head_scope p.layer h).locals slots sees last (omega (arith, met, more))
          head.statements_are,
    )

-- cells

initial_named : (p : Placed) (e : ast.ExpressionTree) → is_initial p.layer e ≡ true →
    Named no_layer 0 (number_of (own_names p) e)
initial_named p (ast.number at n) h = tt
initial_named p (ast.me at) h = tt
initial_named p (ast.members at) h = tt
initial_named p (ast.ltime at) h = tt
initial_named p (ast.named name) h = go (declaration_of p.layer name.word) refl h where
  go : (o : Option ast.DeclarationTree) → declaration_of p.layer name.word ≡ o → option_map_or is_param o false ≡ true →
      Named no_layer 0 (number_of (own_names p) (ast.named name))
  go None found h = absurd (cc h)
  go (Some (ast.param at own value)) found h = rw found tt
  go (Some (ast.int at own written e)) found h = absurd (cc h)
  go (Some (ast.rows_cell at own capacity items)) found h = absurd (cc h)
  go (Some (ast.rows_array at own capacity items)) found h = absurd (cc h)
  go (Some (ast.header at own fields end)) found h = absurd (cc h)
initial_named p (ast.binary at left operator right) h =
    let parts = and_parts (is_initial p.layer left) (is_initial p.layer right) h in
    (initial_named p left parts.0, initial_named p right parts.1)
initial_named p (ast.apply at function operand) h = initial_named p operand h
initial_named p (ast.pick at condition first second) h =
    let one = and_parts (is_initial p.layer condition && is_initial p.layer first) (is_initial p.layer second) h in
    let two = and_parts (is_initial p.layer condition) (is_initial p.layer first) one.0 in
    (initial_named p condition two.0, initial_named p first two.1, initial_named p second one.1)
initial_named p _ h = absurd (cc h)

cell_named : (p : Placed) (d : ast.DeclarationTree) → (declaration_type_faults p.layer d ≡ []) ×
    AllByRecursion (FitsAt p) (capacity_in d) → Where (λ (cell : CellTree). NamedForm cell.form) (cell_in p d)
cell_named p (ast.param at name n) h = tt
cell_named p (ast.int at name shape None) h = tt
cell_named p (ast.int at name shape (Some e)) h =
    let parts = nils (number_faults (layer_scope p.layer) e) (unless (is_initial p.layer e) (initial (expression_at e)))
    h.0 in
    initial_named p e (unless_nil (is_initial p.layer e) (initial (expression_at e)) parts.1)
cell_named p (ast.rows_cell at name capacity items) h = size_is p capacity 64 at h.0 h.1.0.0 h.1.0.1
cell_named p (ast.rows_array at name capacity items) h = size_is p capacity 64 at h.0 h.1.0.0 h.1.0.1
cell_named p (ast.header at name fields end) h = tt

abbrev pub Declared : Placed → ast.DeclarationTree → Type 0
Declared p d = (declaration_type_faults p.layer d ≡ []) × AllByRecursion (FitsAt p) (capacity_in d)

-- what a layer without faults is made of
pub record Parts (p : Placed) : Type 0 where
  pub last : LastMessages p.layer
  pub declarations_are : AllByRecursion (Declared p) p.layer.declarations
  pub handlers_are : AllByRecursion (Handled p) p.layer.handlers

parts_named : (p : Placed) → Parts p → NamedLayer (layer_of p)
unfolding layer_of
parts_named p parts = record {
  cells_are = filter_map_each (Declared p) (λ (cell : CellTree). NamedForm cell.form) (cell_in p) (λ d. cell_named p d)
      p.layer.declarations parts.declarations_are;
  handlers_are = each_map (Handled p) (NamedHandler (layer_of p)) (handler_of p) (λ h. handler_named p h parts.last)
      p.layer.handlers parts.handlers_are;
}

-- sizes that are numbers fit by the faults of names, and those that are params by what the place gives

capacities_fit : (p : Placed) (d : ast.DeclarationTree) → naming.declaration_name_faults p.layer d ≡ [] →
    AllByRecursion (λ l. given_within p l.size l.most ≡ true) (capacity_in d) →
    AllByRecursion (FitsAt p) (capacity_in d)
capacities_fit p d h within =
    let a = naming.uses_faults (layer_scope p.layer) (naming.declaration_uses d) in
    let b = flat_map naming.size_faults (capacity_in d) in
    let c = naming.row_faults (items_of d) in
    let e = naming.twice_among [] (labels_of d) in
    let one = nils (a ++ b ++ c ++ e) (naming.too_many_of 4 (labels_of d)) h in
    let two = nils (a ++ b ++ c) e one.0 in
    let three = nils (a ++ b) c two.0 in
    each_both (λ l. naming.size_faults l ≡ []) (λ l. given_within p l.size l.most ≡ true) (capacity_in d)
    (each_nil naming.size_faults (capacity_in d) (nils a b three.0).1) within

statement_fits : (p : Placed) (s : Standing) → naming.statement_name_faults s ≡ [] →
    AllByRecursion (λ l. given_within p l.size l.most ≡ true) (maximum_in s.statement) →
    AllByRecursion (FitsAt p) (maximum_in s.statement)
statement_fits p s h within =
    let a = naming.uses_faults s.scope (statement_uses s.statement) in
    let b = naming.twice_among (visible s.scope) (brought_by s.statement) in
    let parts = nils (a ++ b) (flat_map naming.size_faults (maximum_in s.statement)) h in
    each_both (λ l. naming.size_faults l ≡ []) (λ l. given_within p l.size l.most ≡ true) (maximum_in s.statement)
    (each_nil naming.size_faults (maximum_in s.statement) parts.1) within

statements_fit : (p : Placed) (xs : List Standing) → AllByRecursion (λ s. naming.statement_name_faults s ≡ []) xs →
    AllByRecursion (λ s. AllByRecursion (λ l. given_within p l.size l.most ≡ true) (maximum_in s.statement)) xs →
    AllByRecursion (λ s. AllByRecursion (FitsAt p) (maximum_in s.statement)) xs
statements_fit p [] h within = tt
statements_fit p (x ∷ xs) h within = (statement_fits p x h.0 within.0, statements_fit p xs h.1 within.1)

handler_fits : (p : Placed) (h : ast.HandlerTree) → naming.handler_name_faults p.layer h ≡ [] →
    AllByRecursion (λ s. AllByRecursion (λ l. given_within p l.size l.most ≡ true) (maximum_in s.statement))
    (handler_statements p.layer h) →
    AllByRecursion (λ s. AllByRecursion (FitsAt p) (maximum_in s.statement)) (handler_statements p.layer h)
handler_fits p h named within =
    let statements = handler_statements p.layer h in
    let d = naming.uses_faults (layer_scope p.layer) (option_map_or (λ x. of_name x.name ∷ []) h.popped []) in
    let e = naming.twice_among (visible (layer_scope p.layer)) (head_names h) in
    let f = naming.uses_faults (head_scope p.layer h) (naming.expected_uses h.expected) in
    let last = nils (d ++ e ++ f ++ flat_map naming.statement_name_faults statements)
    (naming.too_many_of 64 (all_names p.layer h)) named in
    let four = nils (d ++ e ++ f) (flat_map naming.statement_name_faults statements) last.0 in
    statements_fit p statements (each_nil naming.statement_name_faults statements four.1) within

abbrev Within : Placed → LimitedSize → Type 0
Within p l = given_within p l.size l.most ≡ true

all_declared : (p : Placed) (ds : List ast.DeclarationTree) →
    AllByRecursion (λ d. declaration_type_faults p.layer d ≡ []) ds →
    AllByRecursion (λ d. naming.declaration_name_faults p.layer d ≡ []) ds →
    AllByRecursion (λ d. AllByRecursion (Within p) (capacity_in d)) ds →
    AllByRecursion (Declared p) ds
all_declared p [] a b c = tt
all_declared p (d ∷ ds) a b c = ((a.0, capacities_fit p d b.0 c.0), all_declared p ds a.1 b.1 c.1)

all_handled : (p : Placed) (hs : List ast.HandlerTree) → AllByRecursion (λ h. handler_type_faults p.layer h ≡ []) hs →
    AllByRecursion (λ h. naming.handler_name_faults p.layer h ≡ []) hs →
    AllByRecursion (λ h. AllByRecursion (λ s. AllByRecursion (Within p) (maximum_in s.statement))
    (handler_statements p.layer h)) hs →
    AllByRecursion (Handled p) hs
all_handled p [] a b c = tt
all_handled p (h ∷ hs) a b c = ((a.0, handler_fits p h b.0 c.0), all_handled p hs a.1 b.1 c.1)

pub layer_parts : (p : Placed) → layer_type_faults p.layer ≡ [] → naming.layer_name_faults p.layer ≡ [] →
    AllByRecursion (λ l. given_within p l.size l.most ≡ true) (sizes_in p.layer) → Parts p
layer_parts p types named within =
    let layer = p.layer in
    let parts = nils (flat_map (declaration_type_faults layer) layer.declarations)
    (flat_map (handler_type_faults layer) layer.handlers) types in
    let a = naming.declared_faults layer in
    let b = map (λ (h : ast.HandlerTree). twice h.at) (naming.repetitions naming.same_events [] layer.handlers) in
    let c = map (λ (h : ast.HandlerTree). too_many h.at) (drop 64 layer.handlers) in
    let one = nils (a ++ b ++ c) (flat_map (naming.handler_name_faults layer) layer.handlers) named in
    let two = nils (a ++ b) c one.0 in
    let own = (nils a b two.0).0 in
    let w = naming.twice_among [] (map declared_name layer.declarations) in
    let x = naming.too_many_of 16 (naming.names_where is_param layer) in
    let y = naming.too_many_of 16 (naming.names_where is_cell layer) in
    let z = naming.too_many_of 7 (naming.names_where is_header layer) in
    let declared_nil = nils (w ++ x ++ y ++ z) (flat_map (naming.declaration_name_faults layer) layer.declarations) own
    in
    let sizes = each_parts (Within p) (flat_map capacity_in layer.declarations)
    (flat_map (λ s. maximum_in s.statement) (layer_statements layer)) within in
    let loops = each_flat_parts (λ s. AllByRecursion (Within p) (maximum_in s.statement)) (handler_statements layer)
    layer.handlers
    (each_flat_parts (Within p) (λ s. maximum_in s.statement) (layer_statements layer) sizes.1) in
    record {
      last = last_messages layer own;
      declarations_are = all_declared p layer.declarations
          (each_nil (declaration_type_faults layer) layer.declarations parts.0)
          (each_nil (naming.declaration_name_faults layer) layer.declarations declared_nil.1)
          (each_flat_parts (Within p) capacity_in layer.declarations sizes.0);
      handlers_are = all_handled p layer.handlers (each_nil (handler_type_faults layer) layer.handlers parts.1)
          (each_nil (naming.handler_name_faults layer) layer.handlers one.1) loops;
    }

pub layer_named : (p : Placed) → layer_type_faults p.layer ≡ [] → naming.layer_name_faults p.layer ≡ [] →
    AllByRecursion (λ l. given_within p l.size l.most ≡ true) (sizes_in p.layer) → NamedLayer (layer_of p)
layer_named p types named within = parts_named p (layer_parts p types named within)

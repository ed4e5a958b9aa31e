-- Handlers and layers without faults are typed.
use Rattle.std.proofs.Common.{◌≡◌, ◌∙◌, ℕ, zero, suc, ◌+◌, ◌-◌, ◌≤◌, Bool, true, false, List, [], ◌∷◌, ◌++◌, length}
use Rattle.std.proofs.Common.{map, Option, Some, None, refl, sym, ap, subst, arith}
use Rattle.std.specs.Prelude.{◌&&◌, ◌==◌, not, bytes_eq, drop, flat_map, slice_get, option_map, if◌then◌else◌}
use Rattle.std.specs.List.{AllByRecursion}
use Rattle.std.specs.Option.{option_map_or}
use Rattle.std.proofs.lemmas.Bool.{eqb-true}
use Rattle.std.proofs.Math.ListN.{length-append}
use Rattle.layer_ast.specs.declared.names.Name.{Name}
use Rattle.layer_words.specs.declared.words.Word.{Word}
use Rattle.layer_words.specs.declared.sorts.Sort.{Sort}
use Rattle.layer_words.specs.declared.sorts.Sort.TheVariants.{Int, Msg, Part}
use Rattle.layer_words.specs.declared.events.Dir.{Dir}
use Rattle.layer_words.specs.declared.events.Dir.TheVariants.{Up, Down}
use Rattle.layer_words.specs.declared.events.Kind.{Kind}
use Rattle.layer_words.specs.declared.events.Kind.TheVariants as kinds
use Rattle.layer_ast.specs.Tree as ast
use Rattle.layer_mean.specs.Event.{carries}
use Rattle.layer_mean.specs.Tree.{CellTree}
use Rattle.layer_mean.specs.Visit.{with_room}
use Rattle.fault_mean.specs.Declared.{is_header, declares, declaration_of, names_in, declared_name, is_cell, is_param}
use Rattle.fault_mean.specs.Earliest.{unless}
use Rattle.fault_mean.specs.Faults.{arity, direction, kind, twice, too_many}
use Rattle.fault_mean.specs.Forms.{declared_as, is_end, items_of, labels_of, fields_of}
use Rattle.fault_mean.specs.Kinds.{allows, arguments_of}
use Rattle.fault_mean.specs.Limits.{capacity_in, messages_inside, numbers_beyond}
use Rattle.fault_mean.specs.NameFaults as naming
use Rattle.fault_mean.specs.Scope.{Local, Standing, layer_scope, visible, locals_as, popped_names, sort_after}
use Rattle.fault_mean.specs.Scope.{head_names, argument_sorts, head_scope, handler_statements}
use Rattle.fault_mean.specs.Scope.{handler_names as all_names}
use Rattle.fault_mean.specs.Uses as using
use Rattle.fault_mean.specs.TypeFaults.{pushes, with_faults, statement_type_faults, expected_type_faults, takes_off}
use Rattle.fault_mean.specs.TypeFaults.{handler_type_faults, declaration_type_faults, layer_type_faults}
use Rattle.file_mean.specs.Names.{Placed, own_names, tag_of}
use Rattle.file_mean.specs.Statements.{after_all, statements_of}
use Rattle.file_mean.specs.Layers.{popped_tag, handler_names, handler_of, cell_in, layer_of}
use Rattle.chain_laws.specs.Typed.{TypedAll, met_sorts, TypedHandler, TypedForm, TypedLayer}
use Rattle.chain_laws.proofs.Lists.{Where, each_map}
use Rattle.file_laws.specs.Literals.{LiteralStatement, LiteralHandler, LiteralDeclaration, LiteralLayer}
use Rattle.file_laws.proofs.Lists.{nils, each_nil, map_nil, unless_nil, each_both, find_where, filter_map_each}
use Rattle.file_laws.proofs.Own.{declares_it, Headed, headed}
use Rattle.file_laws.proofs.Small.{LiteralPlaced, number_small, size_small}
use Rattle.file_laws.proofs.Messages.{sort_among, slot_among, Slot, Agree, LastMessages}
use Rattle.file_laws.proofs.Emissions.{kind_arguments}
use Rattle.file_laws.proofs.Slots.{AreNumbers, agree_numbers, locals_are_numbers, Free, slot_new}
use Rattle.file_laws.proofs.Blocks.{Good, block_typed}
use Rattle.file_laws.proofs.Growth.{grows_all}

-- room after the sorts that are met

front_slot : (sorts : List Sort) (x : Sort) (k : ℕ) (s : Sort) → slice_get sorts k ≡ Some s →
    slice_get (sorts ++ x ∷ []) k ≡ Some s
front_slot [] x k s is = absurd (cc is)
front_slot (y ∷ sorts) x zero s is = is
front_slot (y ∷ sorts) x (suc k) s is = front_slot sorts x k s is

room_slot : (n : ℕ) (sorts : List Sort) (k : ℕ) (s : Sort) → slice_get sorts k ≡ Some s →
    slice_get (with_room n Int sorts) k ≡ Some s
room_slot zero sorts k s is = is
room_slot (suc n) sorts k s is = room_slot n (sorts ++ Int ∷ []) k s (front_slot sorts Int k s is)

room_length : (n : ℕ) (sorts : List Sort) → length (with_room n Int sorts) ≡ length sorts + n
room_length zero sorts = omega arith
room_length (suc n) sorts = omega (arith, room_length n (sorts ++ Int ∷ []), length-append sorts (Int ∷ []))

free_push : (sorts : List Sort) (m : ℕ) → Free sorts m → m ≤ length sorts → Free (sorts ++ Int ∷ []) m
free_push [] m free le zero from below = refl
free_push [] m free le (suc k) from below = absurd (omega (arith, below))
free_push (x ∷ sorts) zero free le zero from below = free zero from (omega arith)
free_push (x ∷ sorts) zero free le (suc k) from below =
    free_push sorts zero (λ j f b. free (suc j) (omega arith) (omega (arith, b))) (omega arith) k (omega arith)
    (omega (arith, below))
free_push (x ∷ sorts) (suc m) free le zero from below = absurd (omega (arith, from))
free_push (x ∷ sorts) (suc m) free le (suc k) from below =
    free_push sorts m (λ j f b. free (suc j) (omega (arith, f)) (omega (arith, b))) (omega (arith, le)) k
    (omega (arith, from)) (omega (arith, below))

room_free : (n : ℕ) (sorts : List Sort) (m : ℕ) → Free sorts m → m ≤ length sorts → Free (with_room n Int sorts) m
room_free zero sorts m free le = free
room_free (suc n) sorts m free le =
    room_free n (sorts ++ Int ∷ []) m (free_push sorts m free le) (omega (arith, le, length-append sorts (Int ∷ [])))

none_free : (sorts : List Sort) → Free sorts (length sorts)
none_free sorts k from below = absurd (omega (arith, from, below))

room_agree : (n : ℕ) (sorts : List Sort) (o : Option Sort) (k : ℕ) → Slot sorts o k → Slot (with_room n Int sorts) o k
room_agree n sorts None k h = tt
room_agree n sorts (Some Int) k h = tt
room_agree n sorts (Some Msg) k h = room_slot n sorts k Msg h
room_agree n sorts (Some Part) k h = room_slot n sorts k Part h

-- a handler from what it is entered with
handler_from : (p : Placed) (h : ast.HandlerTree) (sorts : List Sort) → LiteralPlaced p → LastMessages p.layer →
    met_sorts (layer_of p) h.direction (carries h.kind) (popped_tag p h.popped) ≡ sorts →
    (handler_names p h).taken.messages ≡ length sorts →
    Agree sorts (head_scope p.layer h).locals (handler_names p h).messages →
    AllByRecursion Good (handler_statements p.layer h) →
    TypedHandler (layer_of p) p.blank (handler_of p h)
unfolding handler_of
handler_from p h sorts placed rows met count agree good =
    let entry = handler_names p h in
    let end = after_all h.block entry in
    let room = end.taken.messages - entry.taken.messages in
    subst (λ m. TypedAll (layer_of p) p.blank (with_room room Int m) (statements_of entry h.block)) (sym met)
    (block_typed h.block entry (head_scope p.layer h).locals (with_room room Int sorts)
    (record {
      placed = placed;
      rows = rows;
      agree = λ word. room_agree room sorts (sort_among (head_scope p.layer h).locals word)
          (slot_among entry.messages word) (agree word);
      free = room_free room sorts entry.taken.messages (subst (Free sorts) (sym count) (none_free sorts))
          (omega (arith, count));
    })
    (omega (arith, count, (grows_all h.block entry).messages, room_length room sorts)) good)

-- handlers of events without messages

ints_are_numbers : (sorts : List Sort) (names : List Name) → AllByRecursion (λ s. s ≡ Int) sorts →
    AreNumbers (locals_as sorts names)
ints_are_numbers sorts [] h = tt
ints_are_numbers [] (a ∷ names) h = (refl, ints_are_numbers [] names tt)
ints_are_numbers (s ∷ sorts) (a ∷ names) h = (h.0, ints_are_numbers sorts names h.1)

no_messages : (k : Kind) (s : Sort) → carries k ≡ false →
    AllByRecursion (λ s. s ≡ Int) (map (λ wanted. if allows wanted Msg then s else Int) (arguments_of k))
no_messages kinds.Cast s is = absurd (cc is)
no_messages kinds.Send s is = absurd (cc is)
no_messages kinds.Stable s is = (refl, (refl, tt))
no_messages kinds.Ack s is = (refl, (refl, tt))
no_messages _ s is = (refl, tt)

both_numbers : (locals further : List Local) → AreNumbers locals → AreNumbers further → AreNumbers (locals ++ further)
both_numbers [] further h i = i
both_numbers (l ∷ locals) further h i = (h.0, both_numbers locals further h.1 i)

-- what is met: the sort after the popped header

headed_sort : (p : Placed) (x : ast.PoppedTree) (head : Headed p x.name) →
    met_sorts (layer_of p) Up true (tag_of p x.name) ≡ (if declared_as is_end p.layer x.name.word then Part else Msg) ∷
    []
headed_sort p x head = rw (head.listed, head.ends) refl

popped_met : (p : Placed) (h : ast.HandlerTree) (dir : Dir) (popped : Option ast.PoppedTree) → h.direction ≡ dir →
    option_map_or (λ x. with_faults p.layer h.at x.name (length (popped_names (Some x))) (takes_off h)) popped [] ≡ [] →
    met_sorts (layer_of p) dir true (popped_tag p popped) ≡ sort_after p.layer popped ∷ []
popped_met p h Down None down faults = refl
popped_met p h Down (Some x) down faults =
    let a = unless (declared_as is_header p.layer x.name.word) (kind h.at) in
    let b = unless (length (fields_of p.layer x.name.word) == length (popped_names (Some x))) (arity h.at) in
    let outer = nils (a ++ b) (unless (takes_off h) (direction h.at)) faults in
    let off = unless_nil (takes_off h) (direction h.at) outer.1 in
    absurd (cc (sym (ap (λ dir. not (pushes dir) && carries h.kind) down) ∙ off))
popped_met p h Up None up faults = refl
popped_met p h Up (Some x) up faults =
    let a = unless (declared_as is_header p.layer x.name.word) (kind h.at) in
    let b = unless (length (fields_of p.layer x.name.word) == length (popped_names (Some x))) (arity h.at) in
    let outer = nils (a ++ b) (unless (takes_off h) (direction h.at)) faults in
    let inner = nils a b outer.0 in
    let head = headed p x.name
    (declares_it is_header p.layer x.name.word
    (unless_nil (declared_as is_header p.layer x.name.word) (kind h.at) inner.0)) in
    headed_sort p x head

-- the slot of the one message that a handler is entered with
one_slot : (word m : Word) (b : Bool) → bytes_eq word m ≡ b → slot_among ((m, 0) ∷ []) word ≡ 0
one_slot word m true is = rw is refl
one_slot word m false is = rw is refl

two_sorts : (first m : Name) (s : Sort) (word : Word) →
    Slot (s ∷ []) (sort_among (locals_as (Int ∷ s ∷ []) (first ∷ m ∷ [])) word) 0
two_sorts first m s word = go (bytes_eq first.word word) (bytes_eq m.word word) where
  go : (b c : Bool) → Slot (s ∷ [])
      (option_map (λ (l : Local). l.sort) (if b then Some (record { name = first; sort = Int })
      else (if c then Some (record { name = m; sort = s }) else None))) 0
  go true c = tt
  go false true = slot_new (s ∷ []) s 0 refl
  go false false = tt

two_agree : (first m : Name) (s : Sort) → Agree (s ∷ []) (locals_as (Int ∷ s ∷ []) (first ∷ m ∷ [])) ((m.word, 0) ∷ [])
two_agree first m s word = subst (Slot (s ∷ []) (sort_among (locals_as (Int ∷ s ∷ []) (first ∷ m ∷ [])) word))
    (sym (one_slot word m.word (bytes_eq word m.word) refl)) (two_sorts first m s word)

-- what a handler is entered with, by whether its events have messages
record Entry (p : Placed) (h : ast.HandlerTree) : Type 0 where
  sorts : List Sort
  met : met_sorts (layer_of p) h.direction (carries h.kind) (popped_tag p h.popped) ≡ sorts
  count : (handler_names p h).taken.messages ≡ length sorts
  agree : Agree sorts (head_scope p.layer h).locals (handler_names p h).messages

bare_entry : (p : Placed) (h : ast.HandlerTree) → carries h.kind ≡ false → Entry p h
bare_entry p h is = record {
  sorts = [];
  met = rw is refl;
  count = rw is refl;
  agree = rw is (agree_numbers [] [] (head_scope p.layer h).locals [] (both_numbers
      (locals_as (argument_sorts p.layer h) (names_in (Some h.names))) (locals_as [] (popped_names h.popped))
      (ints_are_numbers (argument_sorts p.layer h) (names_in (Some h.names))
      (no_messages h.kind (sort_after p.layer h.popped) is))
      (locals_are_numbers (popped_names h.popped))) (λ word. tt));
}

message_entry : (p : Placed) (h : ast.HandlerTree) (first : Name) (rest : List Name) →
    h.names ≡ record { first = first; rest = rest } →
    carries h.kind ≡ true → length (first ∷ rest) ≡ 2 →
    option_map_or (λ x. with_faults p.layer h.at x.name (length (popped_names (Some x))) (takes_off h)) h.popped [] ≡
    [] → Entry p h
message_entry p h first [] names is two faults = absurd (omega (arith, two))
message_entry p h first (m ∷ []) names is two faults =
    let s = sort_after p.layer h.popped in
    let args : argument_sorts p.layer h ≡ Int ∷ s ∷ [] =
    ap (map (λ wanted. if allows wanted Msg then s else Int)) (kind_arguments h.kind is) in
    record {
      sorts = s ∷ [];
      met = rw is (popped_met p h h.direction h.popped refl faults);
      count = rw (names, is) refl;
      agree = rw (names, args, is)
          (agree_numbers (s ∷ []) (locals_as (Int ∷ s ∷ []) (first ∷ m ∷ [])) (locals_as [] (popped_names h.popped))
          ((m.word, 0) ∷ []) (locals_are_numbers (popped_names h.popped)) (two_agree first m s));
    }
message_entry p h first (m ∷ n ∷ rest) names is two faults = absurd (omega (arith, two))

entered_with : (p : Placed) (h : ast.HandlerTree) (b : Bool) → carries h.kind ≡ b → length (names_in (Some h.names)) ≡
    length (arguments_of h.kind) →
    option_map_or (λ x. with_faults p.layer h.at x.name (length (popped_names (Some x))) (takes_off h)) h.popped [] ≡
    [] → Entry p h
entered_with p h true is count faults =
    message_entry p h h.names.first h.names.rest refl is (count ∙ ap length (kind_arguments h.kind is)) faults
entered_with p h false is count faults = bare_entry p h is

goods : (xs : List Standing) → AllByRecursion (λ s. statement_type_faults s.scope s.statement ≡ []) xs →
    AllByRecursion (λ s. naming.statement_name_faults s ≡ []) xs →
    AllByRecursion (λ s. LiteralStatement s.statement) xs → AllByRecursion Good xs
goods [] a b c = tt
goods (x ∷ xs) a b c = (record { types = a.0; named = b.0; literal = c.0 }, goods xs a.1 b.1 c.1)

pub handler_typed : (p : Placed) (h : ast.HandlerTree) → LiteralPlaced p → LastMessages p.layer →
    handler_type_faults p.layer h ≡ [] →
    naming.handler_name_faults p.layer h ≡ [] → LiteralHandler p.layer h →
    TypedHandler (layer_of p) p.blank (handler_of p h)
handler_typed p h placed rows types named literal =
    let statements = handler_statements p.layer h in
    let a = unless (length (names_in (Some h.names)) == length (arguments_of h.kind)) (arity h.at) in
    let b = option_map_or (λ x. with_faults p.layer h.at x.name (length (popped_names (Some x))) (takes_off h)) h.popped
    [] in
    let c = expected_type_faults (head_scope p.layer h) h.expected in
    let one = nils (a ++ b ++ c) (flat_map (λ s. statement_type_faults s.scope s.statement) statements) types in
    let two = nils (a ++ b) c one.0 in
    let three = nils a b two.0 in
    let d = naming.uses_faults (layer_scope p.layer) (option_map_or (λ x. using.of_name x.name ∷ []) h.popped []) in
    let e = naming.twice_among (visible (layer_scope p.layer)) (head_names h) in
    let f = naming.uses_faults (head_scope p.layer h) (naming.expected_uses h.expected) in
    let last = nils (d ++ e ++ f ++ flat_map naming.statement_name_faults statements)
    (naming.too_many_of 64 (all_names p.layer h)) named in
    let four = nils (d ++ e ++ f) (flat_map naming.statement_name_faults statements) last.0 in
    let count = eqb-true (length (names_in (Some h.names))) (length (arguments_of h.kind))
    (unless_nil (length (names_in (Some h.names)) == length (arguments_of h.kind)) (arity h.at) three.0) in
    let entry = entered_with p h (carries h.kind) refl count three.1 in
    handler_from p h entry.sorts placed rows entry.met entry.count entry.agree
    (goods statements (each_nil (λ s. statement_type_faults s.scope s.statement) statements one.1)
    (each_nil naming.statement_name_faults statements four.1) literal.1)

-- rows without faults have a message only as their last item

row_last : (items : List ast.ItemTree) → naming.row_faults items ≡ [] → messages_inside items ≡ []
row_last items h =
    let parts = nils (naming.twice_among [] (map (λ (i : ast.ItemTree). i.name) items))
    (map (λ (i : ast.ItemTree). too_many i.name.at) (numbers_beyond items ++ messages_inside items)) h in
    (nils (numbers_beyond items) (messages_inside items)
    (map_nil (λ (i : ast.ItemTree). too_many i.name.at) (numbers_beyond items ++ messages_inside items) parts.1)).1

declaration_last : (layer : ast.LayerTree) (d : ast.DeclarationTree) → naming.declaration_name_faults layer d ≡ [] →
    messages_inside (items_of d) ≡ []
declaration_last layer d h =
    let a = naming.uses_faults (layer_scope layer) (naming.declaration_uses d) in
    let b = flat_map naming.size_faults (capacity_in d) in
    let c = naming.row_faults (items_of d) in
    let e = naming.twice_among [] (labels_of d) in
    let one = nils (a ++ b ++ c ++ e) (naming.too_many_of 4 (labels_of d)) h in
    let two = nils (a ++ b ++ c) e one.0 in
    row_last (items_of d) (nils (a ++ b) c two.0).1

last_found : (o : Option ast.DeclarationTree) → Where (λ d. messages_inside (items_of d) ≡ []) o →
    messages_inside (option_map_or items_of o []) ≡ []
last_found None h = refl
last_found (Some d) h = h

last_each : (layer : ast.LayerTree) (ds : List ast.DeclarationTree) →
    AllByRecursion (λ d. naming.declaration_name_faults layer d ≡ []) ds →
    AllByRecursion (λ d. messages_inside (items_of d) ≡ []) ds
last_each layer [] h = tt
last_each layer (d ∷ ds) h = (declaration_last layer d h.0, last_each layer ds h.1)

pub last_messages : (layer : ast.LayerTree) → naming.declared_faults layer ≡ [] → LastMessages layer
last_messages layer h word =
    let a = naming.twice_among [] (map declared_name layer.declarations) in
    let b = naming.too_many_of 16 (naming.names_where is_param layer) in
    let c = naming.too_many_of 16 (naming.names_where is_cell layer) in
    let d = naming.too_many_of 7 (naming.names_where is_header layer) in
    let faults = nils (a ++ b ++ c ++ d) (flat_map (naming.declaration_name_faults layer) layer.declarations) h in
    last_found (declaration_of layer word)
    (find_where (λ d. messages_inside (items_of d) ≡ []) (declares word) layer.declarations
    (last_each layer layer.declarations (each_nil (naming.declaration_name_faults layer) layer.declarations faults.1)))

-- layers

cell_typed : (p : Placed) (d : ast.DeclarationTree) → LiteralPlaced p → LiteralDeclaration d →
    Where (λ (cell : CellTree). TypedForm cell.form) (cell_in p d)
cell_typed p (ast.param at name n) placed h = tt
cell_typed p (ast.int at name shape None) placed h = omega arith
cell_typed p (ast.int at name shape (Some e)) placed h = number_small (own_names p) placed e h
cell_typed p (ast.rows_cell at name capacity items) placed h = size_small p capacity placed h
cell_typed p (ast.rows_array at name capacity items) placed h = size_small p capacity placed h
cell_typed p (ast.header at name fields end) placed h = tt

typed_parts : (p : Placed) → LiteralPlaced p → LiteralLayer p.layer → LastMessages p.layer →
    AllByRecursion (λ h. handler_type_faults p.layer h ≡ []) p.layer.handlers →
    AllByRecursion (λ h. naming.handler_name_faults p.layer h ≡ []) p.layer.handlers → TypedLayer p.blank (layer_of p)
unfolding layer_of
typed_parts p placed literal rows types named = record {
  cells = filter_map_each LiteralDeclaration (λ (cell : CellTree). TypedForm cell.form) (cell_in p)
      (λ d. cell_typed p d placed)
      p.layer.declarations literal.declarations_are;
  handlers = each_map
      (λ h. (handler_type_faults p.layer h ≡ []) ×
      ((naming.handler_name_faults p.layer h ≡ []) × LiteralHandler p.layer h))
      (TypedHandler (layer_of p) p.blank) (handler_of p)
      (λ h is. handler_typed p h placed rows is.0 is.1.0 is.1.1) p.layer.handlers
      (each_both _ _ p.layer.handlers types (each_both _ _ p.layer.handlers named literal.handlers_are));
}

pub layer_typed : (p : Placed) → LiteralPlaced p → LiteralLayer p.layer → layer_type_faults p.layer ≡ [] →
    naming.layer_name_faults p.layer ≡ [] →
    TypedLayer p.blank (layer_of p)
layer_typed p placed literal types named =
    let layer = p.layer in
    let kinds_are = nils (flat_map (declaration_type_faults layer) layer.declarations)
    (flat_map (handler_type_faults layer) layer.handlers) types in
    let a = naming.declared_faults layer in
    let b = map (λ (h : ast.HandlerTree). twice h.at) (naming.repetitions naming.same_events [] layer.handlers) in
    let c = map (λ (h : ast.HandlerTree). too_many h.at) (drop 64 layer.handlers) in
    let one = nils (a ++ b ++ c) (flat_map (naming.handler_name_faults layer) layer.handlers) named in
    let two = nils (a ++ b) c one.0 in
    let rows = last_messages layer (nils a b two.0).0 in
    typed_parts p placed literal rows (each_nil (handler_type_faults layer) layer.handlers kinds_are.1)
    (each_nil (naming.handler_name_faults layer) layer.handlers one.1)

-- Layers and files without faults are within the bounds.
use Rattle.std.proofs.Common.{◌≡◌, ◌≢◌, ℕ, ◌+◌, ◌<◌, ◌≤◌, List, [], ◌∷◌, ◌++◌, length, map, Option, Some, None, refl}
use Rattle.std.proofs.Common.{arith}
use Rattle.std.specs.Prelude.{drop, flat_map}
use Rattle.std.specs.List.{AllByRecursion, enumerate_from, filter}
use Rattle.std.specs.Option.{option_map_or}
use Rattle.std.proofs.lemmas.List.{length-append, length-map}
use Rattle.layer_ast.specs.Tree as ast
use Rattle.layer_mean.specs.Event.{carries}
use Rattle.fault_mean.specs.Declared.{declared_name, declares, declaration_of, is_cell, is_header, is_param, names_in}
use Rattle.fault_mean.specs.Faults.{too_many, twice}
use Rattle.fault_mean.specs.Forms.{items_of, labels_of}
use Rattle.fault_mean.specs.Limits.{capacity_in, messages_inside, numbers_beyond}
use Rattle.fault_mean.specs.NameFaults as naming
use Rattle.fault_mean.specs.Scope.{declared_names, handler_names as all_names, handler_statements, head_names}
use Rattle.fault_mean.specs.Scope.{head_scope}
use Rattle.fault_mean.specs.Scope.{layer_scope, popped_names, visible}
use Rattle.fault_mean.specs.Uses.{of_name}
use Rattle.file_mean.specs.Layers.{handler_names, handler_of, popped_tag}
use Rattle.file_mean.specs.Names.{Placed, capacity_declared, numbers_among}
use Rattle.file_mean.specs.Stack.{blank_above}
use Rattle.file_mean.specs.Statements.{after_all}
use Rattle.file_laws.proofs.Lists.{nils, each_nil, each_both, find_where, map_nil}
use Rattle.file_laws.proofs.NamedLayers.{Declared, Handled, Parts, handler_clean, layer_parts, size_is}
use Rattle.file_laws.proofs.Files.{NamesLayer, file_parts, sizes_within}
use Rattle.chain_laws.proofs.Lists.{each_so}
use Rattle.file_laws.specs.Bounds.{HoldsDeclaration, HoldsHandler, HoldsLayer, HoldsPlaced, FilesAreHeld, placed_at}
use Rattle.file_laws.proofs.HeldCounts.{Row, drop_few, names_few, or_where, row_items_few, split}
use Rattle.file_laws.proofs.HeldBlocks.{Bounded, adds_all, block_held, tag_held, total}

-- what is known of a declaration
record Kept (p : Placed) (d : ast.DeclarationTree) : Type 0 where
  capacity : capacity_declared p d ≤ 64
  row : Row (items_of d)
  labels : length (labels_of d) ≤ 4

capacity_few : (p : Placed) (d : ast.DeclarationTree) → Declared p d → capacity_declared p d ≤ 64
capacity_few p (ast.param at name n) h = omega arith
capacity_few p (ast.int at name shape e) h = omega arith
capacity_few p (ast.rows_cell at name capacity items) h = (size_is p capacity 64 at h.0 h.1.0.0 h.1.0.1).1
capacity_few p (ast.rows_array at name capacity items) h = (size_is p capacity 64 at h.0 h.1.0.0 h.1.0.1).1
capacity_few p (ast.header at name fields end) h = omega arith

row_is : (items : List ast.ItemTree) → naming.row_faults items ≡ [] → Row items
row_is items h =
    let a = naming.twice_among [] (map (λ (i : ast.ItemTree). i.name) items) in
    let parts = nils a (map (λ (i : ast.ItemTree). too_many i.name.at) (numbers_beyond items ++ messages_inside items))
    h in
    let none = nils (numbers_beyond items) (messages_inside items)
    (map_nil (λ (i : ast.ItemTree). too_many i.name.at) (numbers_beyond items ++ messages_inside items) parts.1) in
    record { inner = none.1; few = drop_few 4 _ none.0 }

kept : (p : Placed) (d : ast.DeclarationTree) → Declared p d × (naming.declaration_name_faults p.layer d ≡ []) →
    Kept p d
kept p d h =
    let a = naming.uses_faults (layer_scope p.layer) (naming.declaration_uses d) in
    let b = flat_map naming.size_faults (capacity_in d) in
    let c = naming.row_faults (items_of d) in
    let e = naming.twice_among [] (labels_of d) in
    let one = nils (a ++ b ++ c ++ e) (naming.too_many_of 4 (labels_of d)) h.1 in
    let two = nils (a ++ b ++ c) e one.0 in
    record {
      capacity = capacity_few p d h.0;
      row = row_is (items_of d) (nils (a ++ b) c two.0).1;
      labels = names_few 4 (labels_of d) one.1;
    }

declaration_held : (p : Placed) (d : ast.DeclarationTree) → Kept p d → HoldsDeclaration p d
declaration_held p (ast.param at name n) k = tt
declaration_held p (ast.int at name shape e) k = tt
declaration_held p (ast.rows_cell at name capacity items) k = (omega (arith, k.capacity), row_items_few _ k.row)
declaration_held p (ast.rows_array at name capacity items) k = (omega (arith, k.capacity), row_items_few _ k.row)
declaration_held p (ast.header at name fields end) k = k.labels

bounded : (p : Placed) → AllByRecursion (Kept p) p.layer.declarations →
    length (filter is_header p.layer.declarations) ≤ 7 → Bounded p
bounded p h few = record {
  capacities = λ word. or_where (λ n. n ≤ 64) (capacity_declared p) 0 (declaration_of p.layer word) (omega arith)
      (find_where (λ d. capacity_declared p d ≤ 64) (declares word) p.layer.declarations
      (each_so (Kept p) (λ d. capacity_declared p d ≤ 64) (λ d k. k.capacity) p.layer.declarations h));
  rows = λ word. or_where Row items_of [] (declaration_of p.layer word) (record { inner = refl; few = omega arith })
      (find_where (λ d. Row (items_of d)) (declares word) p.layer.declarations
      (each_so (Kept p) (λ d. Row (items_of d)) (λ d k. k.row) p.layer.declarations h));
  fields = λ word. or_where (λ xs. length xs ≤ 4) labels_of [] (declaration_of p.layer word) (omega arith)
      (find_where (λ d. length (labels_of d) ≤ 4) (declares word) p.layer.declarations
      (each_so (Kept p) (λ d. length (labels_of d) ≤ 4) (λ d k. k.labels) p.layer.declarations h));
  headers = few;
}

-- handlers

popped_held : (p : Placed) (popped : Option ast.PoppedTree) → Bounded p → popped_tag p popped < 8
popped_held p None b = omega arith
popped_held p (Some x) b = tag_held p x.name b

names_are_few : (layer : ast.LayerTree) (h : ast.HandlerTree) → naming.handler_name_faults layer h ≡ [] →
    length (all_names layer h) ≤ 64
names_are_few layer h named =
    let statements = handler_statements layer h in
    let d = naming.uses_faults (layer_scope layer) (option_map_or (λ x. of_name x.name ∷ []) h.popped []) in
    let e = naming.twice_among (visible (layer_scope layer)) (head_names h) in
    let f = naming.uses_faults (head_scope layer h) (naming.expected_uses h.expected) in
    names_few 64 (all_names layer h)
    (nils (d ++ e ++ f ++ flat_map naming.statement_name_faults statements) (naming.too_many_of 64 (all_names layer h))
    named).1

handler_held : (p : Placed) (h : ast.HandlerTree) → Bounded p →
    Handled p h × (naming.handler_name_faults p.layer h ≡ []) → HoldsHandler p h
unfolding handler_of
handler_held p h b is =
    let entry = handler_names p h in
    let new = names_in (Some h.names) in
    let few = names_are_few p.layer h is.1 in
    let head = length-append new (popped_names h.popped) in
    let all = length-append (head_names h) (flat_map (λ s. declared_names s.statement) (handler_statements p.layer h))
    in
    let numbers = length-append (numbers_among (carries h.kind) new) (popped_names h.popped) in
    let parts = split (carries h.kind) new in
    let sum = adds_all h.block entry (head_scope p.layer h) in
    let end : total (after_all h.block entry) ≤ 64 = omega (arith, few, head, all, numbers, parts, sum) in
    record {
      head = omega (arith, few, all);
      tag = popped_held p h.popped b;
      numbers = omega (arith, end);
      messages = omega (arith, end);
      block = block_held h.block entry (head_scope p.layer h).locals b end (handler_clean p h is.0);
    }

-- layers

layer_held : (p : Placed) → naming.layer_name_faults p.layer ≡ [] → Parts p → HoldsLayer p
layer_held p named parts =
    let layer = p.layer in
    let a = naming.declared_faults layer in
    let b = map (λ (h : ast.HandlerTree). twice h.at) (naming.repetitions naming.same_events [] layer.handlers) in
    let c = map (λ (h : ast.HandlerTree). too_many h.at) (drop 64 layer.handlers) in
    let one = nils (a ++ b ++ c) (flat_map (naming.handler_name_faults layer) layer.handlers) named in
    let two = nils (a ++ b) c one.0 in
    let w = naming.twice_among [] (map declared_name layer.declarations) in
    let x = naming.too_many_of 16 (naming.names_where is_param layer) in
    let y = naming.too_many_of 16 (naming.names_where is_cell layer) in
    let z = naming.too_many_of 7 (naming.names_where is_header layer) in
    let declared_nil = nils (w ++ x ++ y ++ z) (flat_map (naming.declaration_name_faults layer) layer.declarations)
    (nils a b two.0).0 in
    let three = nils (w ++ x ++ y) z declared_nil.0 in
    let cells = names_few 16 (naming.names_where is_cell layer) (nils (w ++ x) y three.0).1 in
    let headers = names_few 7 (naming.names_where is_header layer) three.1 in
    let cells_same = length-map (filter is_cell layer.declarations) declared_name in
    let headers_same = length-map (filter is_header layer.declarations) declared_name in
    let known = each_so (λ d. Declared p d × (naming.declaration_name_faults p.layer d ≡ [])) (Kept p) (kept p)
    layer.declarations
    (each_both (Declared p) (λ d. naming.declaration_name_faults p.layer d ≡ []) layer.declarations
    parts.declarations_are
    (each_nil (naming.declaration_name_faults layer) layer.declarations declared_nil.1)) in
    let own = bounded p known (omega (arith, headers, headers_same)) in
    record {
      cells = omega (arith, cells, cells_same);
      headers = omega (arith, headers, headers_same);
      handlers = drop_few 64 layer.handlers
          (map_nil (λ (h : ast.HandlerTree). too_many h.at) (drop 64 layer.handlers) two.1);
      declarations_are = each_so (Kept p) (HoldsDeclaration p) (declaration_held p) layer.declarations known;
      handlers_are = each_so (λ h. Handled p h × (naming.handler_name_faults p.layer h ≡ [])) (HoldsHandler p)
          (λ h. handler_held p h own) layer.handlers
          (each_both (Handled p) (λ h. naming.handler_name_faults p.layer h ≡ []) layer.handlers parts.handlers_are
          (each_nil (naming.handler_name_faults layer) layer.handlers one.1));
    }

-- files

some_few : {A : Type 0} (xs : List A) → xs ≢ [] → 1 ≤ length xs
some_few [] some = absurd (some refl)
some_few (x ∷ xs) some = omega arith

places_held : (file : ast.FileTree) (n : ℕ) (places : List ast.PlaceTree) → AllByRecursion (NamesLayer file) places →
    AllByRecursion (λ x. HoldsPlaced (placed_at file x.0 x.1)) (enumerate_from n places)
places_held file n [] h = tt
places_held file n (place ∷ places) h =
    let p : Placed = record { layer = h.0.layer; given = place.given; blank = blank_above n (length file.places) } in (
      rw h.0.listed (layer_held p h.0.named (layer_parts p h.0.types h.0.named (sizes_within file place h.0 n))),
      places_held file (n + 1) places h.1,
    )

pub files_are_held : FilesAreHeld
files_are_held file placed none =
    let parts = file_parts file none in
    let same = length-map file.places (λ (place : ast.PlaceTree). place.name) in
    let few = names_few 24 (map (λ (place : ast.PlaceTree). place.name) file.places) parts.few in
    record {
      some = some_few file.places placed;
      few = omega (arith, few, same);
      layers_are = places_held file 0 file.places parts.places_are;
    }

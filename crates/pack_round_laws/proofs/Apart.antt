-- The names of a layer without faults can be told apart.
use Rattle.std.proofs.Common.{◌≡◌, ℕ, zero, suc, ◌-◌, Bool, true, false, List, [], ◌∷◌, ◌++◌, map, flat_map, length}
use Rattle.std.proofs.Common.{take, is_some, Some, codes, bytes_eq, refl, ap, subst}
use Rattle.std.specs.Prelude.{if◌then◌else◌, drop}
use Rattle.std.specs.List.{AllByRecursion, filter_map, list_any}
use Rattle.std.proofs.lemmas.Bool.{or_parts}
use Rattle.layer_ast.specs.declared.names.Name.{Name}
use Rattle.layer_ast.specs.Tree as ast
use Rattle.layer_mean.specs.Tree.{CellTree, HeaderTree}
use Rattle.fault_mean.specs.Declared.{declared_name, is_cell, is_header, is_param, items_in}
use Rattle.fault_mean.specs.Faults.{twice, too_many}
use Rattle.fault_mean.specs.Forms.{items_of, labels_of}
use Rattle.fault_mean.specs.Limits.{capacity_in, numbers_beyond, messages_inside}
use Rattle.fault_mean.specs.NameFaults.{repetitions, same_word, twice_among, too_many_of, row_faults, uses_faults}
use Rattle.fault_mean.specs.NameFaults.{size_faults, declaration_uses, declaration_name_faults, names_where}
use Rattle.fault_mean.specs.NameFaults.{declared_faults, handler_name_faults, layer_name_faults, same_events}
use Rattle.fault_mean.specs.Scope.{layer_scope}
use Rattle.file_mean.specs.Layers.{row_items, cell_in, header_in, layer_of}
use Rattle.file_mean.specs.Names.{Placed, numbers_among, carried_in}
use Rattle.file_laws.proofs.Lists.{nils, each_nil, map_nil}
use Rattle.chain_laws.proofs.Lists.{each_so, each_take}
use Rattle.bypass_mean.specs.Text.{numbers_called}
use Rattle.pack_round_laws.specs.Told.{IsWord, AreApart, AreTold, IsTold}
use Rattle.pack_round_laws.proofs.Walked.{IsName, NamesDeclaration, WalkedLayer}

-- names none of which was there before
new_to : (earlier names : List Name) → repetitions same_word earlier names ≡ [] →
    AllByRecursion (λ name. list_any (same_word name) earlier ≡ false) names
new_to earlier [] h = tt
new_to earlier (x ∷ rest) h =
    let parts = nils (if list_any (same_word x) earlier then x ∷ [] else []) (repetitions same_word (x ∷ earlier) rest)
    h
    in (
      first (list_any (same_word x) earlier) parts.0,
      each_so (λ y. list_any (same_word y) (x ∷ earlier) ≡ false) (λ y. list_any (same_word y) earlier ≡ false)
          (λ y is. (or_parts (same_word y x) (list_any (same_word y) earlier) is).1) rest
          (new_to (x ∷ earlier) rest parts.1),
    ) where
      first : (b : Bool) → (if b then x ∷ [] else []) ≡ [] → b ≡ false
      first true k = absurd (cc k)
      first false k = refl

abbrev words_of : List Name → List (List ℕ)
words_of names = map (λ name. name.word) names

mapped_all : (names : List Name) (P : List ℕ → Type 0) → AllByRecursion (λ name. P name.word) names →
    AllByRecursion P (words_of names)
mapped_all [] P h = tt
mapped_all (x ∷ names) P h = (h.0, mapped_all names P h.1)

names_apart : (earlier names : List Name) → repetitions same_word earlier names ≡ [] → AreApart (words_of names)
names_apart earlier [] h = tt
names_apart earlier (x ∷ rest) h =
    let parts = nils (if list_any (same_word x) earlier then x ∷ [] else []) (repetitions same_word (x ∷ earlier) rest)
    h
    in (
      mapped_all rest (λ other. bytes_eq other x.word ≡ false)
          (each_so (λ y. list_any (same_word y) (x ∷ earlier) ≡ false) (λ y. same_word y x ≡ false)
          (λ y is. (or_parts (same_word y x) (list_any (same_word y) earlier) is).0) rest
          (new_to (x ∷ earlier) rest parts.1)),
      names_apart (x ∷ earlier) rest parts.1,
    )

twice_apart : (names : List Name) → twice_among [] names ≡ [] → AreApart (words_of names)
twice_apart names h = names_apart [] names (map_nil (λ (name : Name). twice name.at) (repetitions same_word [] names) h)

taken_apart : (n : ℕ) (names : List (List ℕ)) → AreApart names → AreApart (take n names)
taken_apart zero names h = tt
taken_apart (suc n) [] h = tt
taken_apart (suc n) (x ∷ names) h = (each_take (λ other. bytes_eq other x ≡ false) n names h.0, taken_apart n names h.1)

among_told : (b : Bool) (words : List (List ℕ)) → AllByRecursion IsWord words → AreApart words →
    AreTold (numbers_among b words)
among_told true words are apart =
    record { words = each_take IsWord (length words - 1) words are; apart = taken_apart (length words - 1) words apart }
among_told false words are apart = record { words = are; apart = apart }

module _ (p : Placed) where
  -- what holds of all declared names holds of those of cells and of headers
  cells_all : (P : List ℕ → Type 0) (ds : List ast.DeclarationTree) →
      AllByRecursion (λ d. P (declared_name d).word) ds →
      AllByRecursion P (map (λ (cell : CellTree). cell.name) (filter_map (cell_in p) ds))
  cells_all P [] h = tt
  cells_all P (ast.param at name value ∷ ds) h = cells_all P ds h.1
  cells_all P (ast.int at name shape initial ∷ ds) h = (h.0, cells_all P ds h.1)
  cells_all P (ast.rows_cell at name capacity items ∷ ds) h = (h.0, cells_all P ds h.1)
  cells_all P (ast.rows_array at name capacity items ∷ ds) h = (h.0, cells_all P ds h.1)
  cells_all P (ast.header at name fields ending ∷ ds) h = cells_all P ds h.1

  headers_all : (P : List ℕ → Type 0) (ds : List ast.DeclarationTree) →
      AllByRecursion (λ d. P (declared_name d).word) ds →
      AllByRecursion P (map (λ (h : HeaderTree). h.name) (filter_map header_in ds))
  headers_all P [] h = tt
  headers_all P (ast.param at name value ∷ ds) h = headers_all P ds h.1
  headers_all P (ast.int at name shape initial ∷ ds) h = headers_all P ds h.1
  headers_all P (ast.rows_cell at name capacity items ∷ ds) h = headers_all P ds h.1
  headers_all P (ast.rows_array at name capacity items ∷ ds) h = headers_all P ds h.1
  headers_all P (ast.header at name fields ending ∷ ds) h = (h.0, headers_all P ds h.1)

  unmapped : (P : List ℕ → Type 0) (ds : List ast.DeclarationTree) →
      AllByRecursion P (words_of (map declared_name ds)) →
      AllByRecursion (λ d. P (declared_name d).word) ds
  unmapped P [] h = tt
  unmapped P (d ∷ ds) h = (h.0, unmapped P ds h.1)

  cells_apart : (ds : List ast.DeclarationTree) → AreApart (words_of (map declared_name ds)) →
      AreApart (map (λ (cell : CellTree). cell.name) (filter_map (cell_in p) ds))
  cells_apart [] h = tt
  cells_apart (ast.param at name value ∷ ds) h = cells_apart ds h.1
  cells_apart (ast.int at name shape initial ∷ ds) h =
      (cells_all _ ds (unmapped (λ other. bytes_eq other name.word ≡ false) ds h.0), cells_apart ds h.1)
  cells_apart (ast.rows_cell at name capacity items ∷ ds) h =
      (cells_all _ ds (unmapped (λ other. bytes_eq other name.word ≡ false) ds h.0), cells_apart ds h.1)
  cells_apart (ast.rows_array at name capacity items ∷ ds) h =
      (cells_all _ ds (unmapped (λ other. bytes_eq other name.word ≡ false) ds h.0), cells_apart ds h.1)
  cells_apart (ast.header at name fields ending ∷ ds) h = cells_apart ds h.1

  headers_apart : (ds : List ast.DeclarationTree) → AreApart (words_of (map declared_name ds)) →
      AreApart (map (λ (h : HeaderTree). h.name) (filter_map header_in ds))
  headers_apart [] h = tt
  headers_apart (ast.param at name value ∷ ds) h = headers_apart ds h.1
  headers_apart (ast.int at name shape initial ∷ ds) h = headers_apart ds h.1
  headers_apart (ast.rows_cell at name capacity items ∷ ds) h = headers_apart ds h.1
  headers_apart (ast.rows_array at name capacity items ∷ ds) h = headers_apart ds h.1
  headers_apart (ast.header at name fields ending ∷ ds) h =
      (headers_all _ ds (unmapped (λ other. bytes_eq other name.word ≡ false) ds h.0), headers_apart ds h.1)

  own_name : (d : ast.DeclarationTree) → NamesDeclaration d → IsName (declared_name d).word
  own_name (ast.param at name value) h = h
  own_name (ast.int at name shape initial) h = h
  own_name (ast.rows_cell at name capacity items) h = h.0
  own_name (ast.rows_array at name capacity items) h = h.0
  own_name (ast.header at name fields ending) h = h

  item_words : (items : List ast.ItemTree) → AllByRecursion (λ i. IsName i.name.word) items →
      AllByRecursion IsWord (map (λ i. i.name.word) items)
  item_words [] h = tt
  item_words (i ∷ items) h = (h.0.0, item_words items h.1)

  item_apart : (items : List ast.ItemTree) → AreApart (words_of (map (λ i. i.name) items)) →
      AreApart (map (λ i. i.name.word) items)
  item_apart items h = subst AreApart (again items) h where
    again : (items : List ast.ItemTree) → words_of (map (λ i. i.name) items) ≡ map (λ i. i.name.word) items
    again [] = refl
    again (i ∷ items) = ap (λ ws. i.name.word ∷ ws) (again items)

  row_told : (items : List ast.ItemTree) → AllByRecursion (λ i. IsName i.name.word) items → row_faults items ≡ [] →
      AreTold (row_items p items).numbers
  row_told items names faults =
      let parts = nils (twice_among [] (map (λ (i : ast.ItemTree). i.name) items))
      (map (λ (i : ast.ItemTree). too_many i.name.at) (numbers_beyond items ++ messages_inside items)) faults in
      among_told (is_some (carried_in p items)) (map (λ (i : ast.ItemTree). i.name.word) items) (item_words items names)
      (item_apart items (twice_apart (map (λ (i : ast.ItemTree). i.name) items) parts.0))

  declared_row : (d : ast.DeclarationTree) → declaration_name_faults p.layer d ≡ [] → row_faults (items_of d) ≡ []
  declared_row d h =
      let a = uses_faults (layer_scope p.layer) (declaration_uses d) in
      let b = flat_map size_faults (capacity_in d) in
      let c = row_faults (items_of d) in
      let e = twice_among [] (labels_of d) in
      let one = nils (a ++ b ++ c ++ e) (too_many_of 4 (labels_of d)) h in
      let two = nils (a ++ b ++ c) e one.0 in
      (nils (a ++ b) c two.0).1

  rows_are : (ds : List ast.DeclarationTree) → AllByRecursion NamesDeclaration ds →
      AllByRecursion (λ d. declaration_name_faults p.layer d ≡ []) ds →
      AllByRecursion (λ (cell : CellTree). AreTold (numbers_called (Some cell.form))) (filter_map (cell_in p) ds)
  rows_are [] names faults = tt
  rows_are (ast.param at name value ∷ ds) names faults = rows_are ds names.1 faults.1
  rows_are (ast.int at name shape initial ∷ ds) names faults =
      (record { words = tt; apart = tt }, rows_are ds names.1 faults.1)
  rows_are (ast.rows_cell at name capacity items ∷ ds) names faults = (
    row_told (items_in items) names.0.1 (declared_row (ast.rows_cell at name capacity items) faults.0),
    rows_are ds names.1 faults.1,
  )
  rows_are (ast.rows_array at name capacity items ∷ ds) names faults = (
    row_told (items_in items) names.0.1 (declared_row (ast.rows_array at name capacity items) faults.0),
    rows_are ds names.1 faults.1,
  )
  rows_are (ast.header at name fields ending ∷ ds) names faults = rows_are ds names.1 faults.1

  pub layer_told : WalkedLayer p.layer → layer_name_faults p.layer ≡ [] → IsTold (layer_of p)
  unfolding layer_of
  layer_told walked named =
      let layer = p.layer in
      let a = declared_faults layer in
      let b = map (λ (h : ast.HandlerTree). twice h.at) (repetitions same_events [] layer.handlers) in
      let c = map (λ (h : ast.HandlerTree). too_many h.at) (drop 64 layer.handlers) in
      let one = nils (a ++ b ++ c) (flat_map (handler_name_faults layer) layer.handlers) named in
      let two = nils (a ++ b) c one.0 in
      let own = (nils a b two.0).0 in
      let w = twice_among [] (map declared_name layer.declarations) in
      let x = too_many_of 16 (names_where is_param layer) in
      let y = too_many_of 16 (names_where is_cell layer) in
      let z = too_many_of 7 (names_where is_header layer) in
      let declared_nil = nils (w ++ x ++ y ++ z) (flat_map (declaration_name_faults layer) layer.declarations) own in
      let last = nils (w ++ x ++ y) z declared_nil.0 in
      let before = nils (w ++ x) y last.0 in
      let apart = twice_apart (map declared_name layer.declarations) (nils w x before.0).0 in
      let names = each_so NamesDeclaration (λ d. IsName (declared_name d).word) (λ d h. own_name d h) layer.declarations
      walked.declarations_are in
      let words = each_so (λ d. IsName (declared_name d).word) (λ d. IsWord (declared_name d).word) (λ d h. h.0)
      layer.declarations names in
      let others = each_so (λ d. IsName (declared_name d).word)
      (λ d. bytes_eq (declared_name d).word (codes "none") ≡ false)
      (λ d h. h.1) layer.declarations names in
      record {
        name = walked.name.0;
        cells = record {
          words = cells_all IsWord layer.declarations words;
          apart =
              cells_apart layer.declarations apart;
        };
        headers = record {
          words = (refl, headers_all IsWord layer.declarations words);
          apart = (
            headers_all (λ other. bytes_eq other (codes "none") ≡ false) layer.declarations others,
            headers_apart layer.declarations apart,
          );
        };
        rows = rows_are layer.declarations walked.declarations_are
            (each_nil (declaration_name_faults layer) layer.declarations declared_nil.1);
      }

-- What a place's tables tell.
use Rattle.std.proofs.Common.{◌≡◌, ℕ, suc, ◌+◌, ◌<◌, ◌≤◌, Bool, true, false, cond, if◌then◌else◌, List, [], ◌∷◌, ◌++◌}
use Rattle.std.proofs.Common.{map, take, length, get_or, slice_get, bytes_eq, Option, Some, None, option_map}
use Rattle.std.proofs.Common.{option_copied, unwrap_or, Bor, IfSome, refl, sym, ap, ◌∙◌, arith, ◌-◌}
use Rattle.std.specs.List.{filter, position, last_or}
use Rattle.std.proofs.lemmas.List.{map-append}
use Rattle.std.proofs.lemmas.List.Elements.{filter-append}
use Rattle.layer_ast.specs.Tree.{DeclarationTree, param, int, rows_cell, rows_array, header, ItemTree}
use Rattle.fault_mean.specs.Forms.{labels_of}
use Rattle.layer_ast.specs.View.{declaration_tree, item_tree}
use Rattle.layer_ast.specs.declared.names.Name.{Name}
use Rattle.layer_ast.specs.declared.syntax.Declaration.{Declaration}
use Rattle.layer_ast.specs.declared.syntax.Item.{Item}
use Rattle.fault_mean.specs.Declared.{cells_of, declared_name, declares, headers_of, declaration_of}
use Rattle.file_mean.specs.Names.{Placed, cell_of, tag_of, item_number}
use Rattle.file_laws.specs.Bounds.{HoldsDeclaration}
use Rattle.file_scope.specs.Words.{place_of}
use Rattle.file_slots.specs.Placed.{HoldDeclarations, words_of}
use Rattle.file_slots.proofs.Finds.{place_where, place_is, place_within, position_after, position_map}
use Rattle.file_slots.proofs.Finds.{position_within, found_holds}
use Rattle.file_slots.proofs.Lists.{last_there, trees_more}

one_more : (test : DeclarationTree → Bool) (ds : List Declaration) (i : ℕ) (d : Declaration) (b : Bool) →
    i < length ds →
    d ≡ get_or ds i d → test (declaration_tree d) ≡ b →
    words_of (filter test (map declaration_tree (take (i + 1) ds))) ≡
    words_of (filter test (map declaration_tree (take i ds))) ++
    (if b then (declared_name (declaration_tree d)).word ∷ [] else [])
one_more test ds i d b within is passes =
    ap (λ l. words_of (filter test l)) (trees_more declaration_tree ds i d within is)
    ∙ (ap words_of (filter-append test (map declaration_tree (take i ds)) (declaration_tree d ∷ []))
    ∙ (map-append (λ (x : DeclarationTree). (declared_name x).word) (filter test (map declaration_tree (take i ds))) _
    ∙ ap (λ l. words_of (filter test (map declaration_tree (take i ds))) ++ l)
    (go (test (declaration_tree d)) b passes)))
  where
    go : (a b : Bool) → a ≡ b → words_of (cond a (declaration_tree d ∷ []) []) ≡
        (if b then (declared_name (declaration_tree d)).word ∷ [] else [])
    go true true e = refl
    go true false e = absurd (cc e)
    go false true e = absurd (cc e)
    go false false e = refl

-- a word of a declaration that passes, and one of a declaration that doesn't
pub words_taken : (test : DeclarationTree → Bool) (ds : List Declaration) (i : ℕ) (d : Declaration)
    (words new : List (List ℕ)) →
    i < length ds → d ≡ get_or ds i d → true ≡ test (declaration_tree d) →
    words ≡ words_of (filter test (map declaration_tree (take i ds))) →
    new ≡ words ++ (declared_name (declaration_tree d)).word ∷ [] →
    new ≡ words_of (filter test (map declaration_tree (take (i + 1) ds)))
words_taken test ds i d words new within is passes so_far pushed =
    pushed ∙ (ap (λ l. l ++ (declared_name (declaration_tree d)).word ∷ []) so_far
    ∙ sym (one_more test ds i d true within is (sym passes)))

pub words_passed : (test : DeclarationTree → Bool) (ds : List Declaration) (i : ℕ) (d : Declaration)
    (words : List (List ℕ)) →
    i < length ds → d ≡ get_or ds i d → false ≡ test (declaration_tree d) →
    words ≡ words_of (filter test (map declaration_tree (take i ds))) →
    words ≡ words_of (filter test (map declaration_tree (take (i + 1) ds)))
words_passed test ds i d words within is passes so_far = so_far ∙
    (none _ ∙ sym (one_more test ds i d false within is (sym passes))) where
      none : (xs : List (List ℕ)) → xs ≡ xs ++ []
      none [] = refl
      none (x ∷ xs) = ap (λ l. x ∷ l) (none xs)

-- the place of a word among the words of declarations
word_place : (word : List ℕ) (ds : List DeclarationTree) → place_of word (words_of ds) ≡ place_where (declares word) ds
word_place word [] = refl
word_place word (d ∷ ds) = ap (λ o. cond (declares word d) (Some 0) (option_map (λ k. suc k) o)) (word_place word ds)

word_position : (word : List ℕ) (ds : List DeclarationTree) (words : List (List ℕ)) (o : Option ℕ) →
    words ≡ words_of ds →
    o ≡ place_of word words → o ≡ position (declares word) ds
word_position word ds words o is at = at ∙
    (ap (place_of word) is ∙ (word_place word ds ∙ sym (place_is (declares word) ds)))

word_within : (word : List ℕ) (ds : List DeclarationTree) (words : List (List ℕ)) (k : ℕ) → words ≡ words_of ds →
    Some k ≡ place_of word words → k < length ds
word_within word ds words k is at = place_within
    (declares word) ds k (sym (at ∙ (ap (place_of word) is ∙ word_place word ds)))

-- the number of a cell
pub cell_small : (p : Placed) (name : Name) (words : List (List ℕ)) (k : ℕ) → words ≡ words_of (cells_of p.layer) →
    length (cells_of p.layer) ≤ 16 → Some k ≡ place_of name.word words → k < 256
cell_small p name words k is few at =
    let within = word_within name.word (cells_of p.layer) words k is at in omega (arith, within, few)

pub cell_at : (p : Placed) (name : Name) (words : List (List ℕ)) (k : ℕ) → words ≡ words_of (cells_of p.layer) →
    Some k ≡ place_of name.word words → k ≡ cell_of p name
cell_at p name words k is at = ap (λ o. unwrap_or o 0) (word_position name.word (cells_of p.layer) words (Some k) is at)

pub cell_nowhere : (p : Placed) (name : Name) (words : List (List ℕ)) → words ≡ words_of (cells_of p.layer) →
    None ≡ place_of name.word words → 0 ≡ cell_of p name
cell_nowhere p name words is at = ap (λ o. unwrap_or o 0) (word_position name.word (cells_of p.layer) words None is at)

-- the tag of a header
pub tag_small : (p : Placed) (name : Name) (words : List (List ℕ)) (k : ℕ) → words ≡ words_of (headers_of p.layer) →
    length (headers_of p.layer) ≤ 7 → Some k ≡ place_of name.word words → k < 7
tag_small p name words k is few at =
    let within = word_within name.word (headers_of p.layer) words k is at in omega (arith, within, few)

pub tag_at : (p : Placed) (name : Name) (words : List (List ℕ)) (k : ℕ) → words ≡ words_of (headers_of p.layer) →
    Some k ≡ place_of name.word words → k + 1 ≡ tag_of p name
tag_at p name words k is at =
    ap (λ o. unwrap_or (option_map (λ j. j + 1) o) 0)
    (word_position name.word (headers_of p.layer) words (Some k) is at)

pub tag_nowhere : (p : Placed) (name : Name) (words : List (List ℕ)) → words ≡ words_of (headers_of p.layer) →
    None ≡ place_of name.word words → 0 ≡ tag_of p name
tag_nowhere p name words is at =
    ap (λ o. unwrap_or (option_map (λ j. j + 1) o) 0) (word_position name.word (headers_of p.layer) words None is at)

-- a declaration that is found is one that members can keep
pub holds_found : (p : Placed) (word : List ℕ) (o : Option (Bor Declaration)) → HoldDeclarations p →
    option_map (λ (d : Declaration). declaration_tree d) (option_copied o) ≡ declaration_of p.layer word →
    IfSome o (λ d. HoldsDeclaration p (declaration_tree d.now))
holds_found p word None all is = tt
holds_found p word (Some d) all is =
    found_holds (HoldsDeclaration p) (declares word) p.layer.declarations (declaration_tree d.now) all (sym is)

-- the sort of the last item
pub last_sort : (first : Item) (rest : List Item) (x : Item) → Some x ≡ slice_get rest (length rest - 1) →
    Some x.sort ≡ option_map (λ i. i.sort) (last_or None (item_tree first ∷ map item_tree rest))
last_sort first rest x e = ap (option_map (λ (i : ItemTree). i.sort)) (last_there item_tree first rest x e)

-- the number of an item that isn't the first
pub item_small : (first : Item) (rest : List Item) (label : Name) (k : ℕ) →
    length (item_tree first ∷ map item_tree rest) ≤ 5 →
    Some k ≡ position (λ (i : Item). bytes_eq i.name.word label.word) rest → k < 5
item_small first rest label k few is =
    let test : ItemTree → Bool = λ i. bytes_eq i.name.word label.word in
    let within = position_within test (map item_tree rest) k (is ∙ sym (position_map item_tree test rest)) in
    omega (arith, within, few)

pub item_there : (first : Item) (rest : List Item) (label : Name) (k : ℕ) →
    false ≡ bytes_eq first.name.word label.word →
    Some k ≡ position (λ (i : Item). bytes_eq i.name.word label.word) rest →
    k + 1 ≡ item_number (item_tree first ∷ map item_tree rest) label
item_there first rest label k fails is =
    let test : ItemTree → Bool = λ i. bytes_eq i.name.word label.word in
    let at : Some k ≡ position test (map item_tree rest) = is ∙ sym (position_map item_tree test rest) in
    let one : k + 1 ≡ suc k = omega arith in
    one ∙ (ap (λ o. unwrap_or (option_map (λ j. suc j) o) 0) at
    ∙ ap (λ o. unwrap_or o 0) (sym (position_after test (item_tree first) (map item_tree rest) (sym fails))))

pub item_nowhere : (first : Item) (rest : List Item) (label : Name) → false ≡ bytes_eq first.name.word label.word →
    None ≡ position (λ (i : Item). bytes_eq i.name.word label.word) rest →
    0 ≡ item_number (item_tree first ∷ map item_tree rest) label
item_nowhere first rest label fails is =
    let test : ItemTree → Bool = λ i. bytes_eq i.name.word label.word in
    let at : None ≡ position test (map item_tree rest) = is ∙ sym (position_map item_tree test rest) in
    ap (λ o. unwrap_or (option_map (λ j. suc j) o) 0) at
    ∙ ap (λ o. unwrap_or o 0) (sym (position_after test (item_tree first) (map item_tree rest) (sym fails)))

-- a declaration that members can keep has few fields
pub few_labels : (p : Placed) (d : DeclarationTree) → HoldsDeclaration p d → length (labels_of d) ≤ 4
few_labels p (param at name value) holds = omega arith
few_labels p (int at name shape initial) holds = omega arith
few_labels p (rows_cell at name capacity items) holds = omega arith
few_labels p (rows_array at name capacity items) holds = omega arith
few_labels p (header at name fields ending) holds = holds

-- the word of one more declaration
pub word_next : (ds : List Declaration) (i : ℕ) (d : Declaration) (words new : List (List ℕ)) → i < length ds →
    d ≡ get_or ds i d →
    words ≡ words_of (map declaration_tree (take i ds)) → new ≡ words ++ (declared_name (declaration_tree d)).word ∷
    [] →
    new ≡ words_of (map declaration_tree (take (i + 1) ds))
word_next ds i d words new within is so_far pushed =
    pushed
    ∙ (ap (λ l. l ++ (declared_name (declaration_tree d)).word ∷ []) so_far
    ∙ (sym (map-append (λ (x : DeclarationTree). (declared_name x).word) (map declaration_tree (take i ds))
    (declaration_tree d ∷ []))
    ∙ ap words_of (sym (trees_more declaration_tree ds i d within is))))

-- Arguments against what is wanted for them.
use Rattle.std.proofs.Common.{◌≡◌, ℕ, ◌+◌, ◌<◌, ◌≤◌, List, [], ◌∷◌, ◌++◌, map, flat_map, take, length, get_or}
use Rattle.std.proofs.Common.{slice_get, zip, min, Some, None, refl, sym, ap, ap₂, ◌∙◌, subst, append-nil, arith}
use Rattle.std.proofs.Math.ListN.{get_or-map}
use Rattle.std.proofs.lemmas.List.{take_all, take_more, length-map}
use Rattle.std.proofs.lemmas.Slice.Zip.{get_or-zip, length-zip}
use Rattle.layer_ast.specs.Tree.{ArgumentTree, ItemTree}
use Rattle.layer_ast.specs.View.{argument_tree, item_tree}
use Rattle.layer_ast.specs.declared.syntax.Argument.{Argument}
use Rattle.layer_ast.specs.declared.syntax.Item.{Item}
use Rattle.layer_words.specs.declared.sorts.Sort.{Sort}
use Rattle.fault_mean.specs.ExpressionFaults.{argument_faults, arguments_faults}
use Rattle.fault_mean.specs.Faults.{TypeFault}
use Rattle.fault_mean.specs.Kinds.{a_number}
use Rattle.fault_mean.specs.Scope.{Scope}
use Rattle.file_expressions.specs.Found.{Finds, type_shown}
use Rattle.file_scope.proofs.Finds.{finds_both, finds_none, finds_row}
use Rattle.file_scope.specs.declared.found.Found.{Found}

-- the second argument
pub second_there : (first : ArgumentTree) (xs : List Argument) (x : Argument) → 0 < length xs → x ≡ get_or xs 0 x →
    Some (argument_tree x) ≡ slice_get (first ∷ map argument_tree xs) 1
second_there first [] x within is = absurd (omega (arith, within))
second_there first (y ∷ xs) x within is = ap (λ z. Some (argument_tree z)) is

pub second_missing : (first : ArgumentTree) (xs : List Argument) → length xs ≤ 0 →
    None ≡ slice_get (first ∷ map argument_tree xs) 1
second_missing first [] few = refl
second_missing first (x ∷ xs) few = absurd (omega (arith, few))

pub one_after : (scope : Scope) (wanted : List Sort) (xs : List Argument) (x : Argument) (a b : Found) →
    0 < length xs → x ≡ get_or xs 0 x →
    Finds a (argument_faults scope wanted (argument_tree x)) b →
    Finds a (arguments_faults scope (wanted ∷ []) (map argument_tree xs)) b
one_after scope wanted [] x a b within is finds = absurd (omega (arith, within))
one_after scope wanted (y ∷ xs) x a b within is finds =
    subst (λ l. Finds a l b) (sym (append-nil (argument_faults scope wanted (argument_tree y))))
    (subst (λ z. Finds a (argument_faults scope wanted (argument_tree z)) b) is finds)

pub none_after : (scope : Scope) (wanted : List Sort) (xs : List Argument) (a : Found) → length xs ≤ 0 →
    Finds a (arguments_faults scope (wanted ∷ []) (map argument_tree xs)) a
none_after scope wanted [] a few = finds_none type_shown a
none_after scope wanted (x ∷ xs) a few = absurd (omega (arith, few))

pub event_parts : (scope : Scope) (wanted more : List (List Sort)) (first : ArgumentTree) (rest : List ArgumentTree)
    (a b c : Found) →
    wanted ≡ a_number ∷ more → Finds a (argument_faults scope a_number first) b →
    Finds b (arguments_faults scope more rest) c →
    Finds a (arguments_faults scope wanted (first ∷ rest)) c
event_parts scope wanted more first rest a b c is one others =
    subst (λ w. Finds a (arguments_faults scope w (first ∷ rest)) c) (sym is)
    (finds_both type_shown a b c (argument_faults scope a_number first) (arguments_faults scope more rest) one others)

-- one item and its argument more
zip_more : {A B : Type 0} (xs : List A) (ys : List B) (k : ℕ) (x : A) (y : B) → k < length xs → k < length ys →
    x ≡ get_or xs k x → y ≡ get_or ys k y → take (k + 1) (zip xs ys) ≡ take k (zip xs ys) ++ (x, y) ∷ []
zip_more xs ys k x y one two is are =
    take_more (zip xs ys) k (x, y)
    (let count = length-zip xs ys in omega (arith, count, one, two))
    ∙ ap (λ p. take k (zip xs ys) ++ p ∷ [])
    (get_or-zip xs ys k (x, y) one two ∙ ap₂ (λ a b. (a, b)) (sym is) (sym are))

-- one item and its argument more, and all of them
pub item_more : (scope : Scope) (items : List Item) (all : List Argument) (k : ℕ) (i : Item) (sort : Sort)
    (x : Argument) (a b c : Found) →
    k < length items → k < length all → i ≡ get_or items k i → x ≡ get_or all k x → sort ≡ i.sort →
    Finds a (flat_map (λ (p : List Sort × ArgumentTree). argument_faults scope p.0 p.1)
    (take k (zip (map (λ (i : ItemTree). i.sort ∷ []) (map item_tree items)) (map argument_tree all)))) b →
    Finds b (argument_faults scope (sort ∷ []) (argument_tree x)) c →
    Finds a (flat_map (λ (p : List Sort × ArgumentTree). argument_faults scope p.0 p.1)
    (take (k + 1) (zip (map (λ (i : ItemTree). i.sort ∷ []) (map item_tree items)) (map argument_tree all)))) c
item_more scope items all k i sort x a b c one two is are wanted so_far now =
    let f : List Sort × ArgumentTree → List TypeFault = λ p. argument_faults scope p.0 p.1 in
    let g : ItemTree → List Sort = λ t. t.sort ∷ [] in
    let ws = map g (map item_tree items) in
    let ts = map argument_tree all in
    let more : take (k + 1) (zip ws ts) ≡ take k (zip ws ts) ++ (g (item_tree i), argument_tree x) ∷ [] =
    zip_more ws ts k (g (item_tree i)) (argument_tree x)
    (let count = length-map (map item_tree items) g in let counts = length-map items item_tree in
    omega (arith, count, counts, one))
    (let count = length-map all argument_tree in omega (arith, count, two))
    (sym (get_or-map g (map item_tree items) k (item_tree i) ∙
    (ap g (get_or-map item_tree items k i) ∙ ap (λ z. g (item_tree z)) (sym is))))
    (sym (get_or-map argument_tree all k x ∙ ap argument_tree (sym are))) in
    subst (λ l. Finds a (flat_map f l) c) (sym more)
    (finds_row type_shown f a b c (take k (zip ws ts)) ((g (item_tree i), argument_tree x) ∷ []) so_far
    (subst (λ l. Finds b l c) (sym (append-nil (argument_faults scope (i.sort ∷ []) (argument_tree x))))
    (subst (λ s. Finds b (argument_faults scope (s ∷ []) (argument_tree x)) c) wanted now)))

pub items_end : (scope : Scope) (items : List Item) (all : List Argument) (k : ℕ) (a b : Found) →
    min (length items) (length all) ≤ k →
    Finds a (flat_map (λ (p : List Sort × ArgumentTree). argument_faults scope p.0 p.1)
    (take k (zip (map (λ (i : ItemTree). i.sort ∷ []) (map item_tree items)) (map argument_tree all)))) b →
    Finds a (arguments_faults scope (map (λ (i : ItemTree). i.sort ∷ []) (map item_tree items)) (map argument_tree all))
    b
items_end scope items all k a b few finds =
    let g : ItemTree → List Sort = λ t. t.sort ∷ [] in
    let ws = map g (map item_tree items) in
    let ts = map argument_tree all in
    subst (λ l. Finds a (flat_map (λ (p : List Sort × ArgumentTree). argument_faults scope p.0 p.1) l) b)
    (take_all k (zip ws ts)
    (let count = length-zip ws ts in let one = length-map (map item_tree items) g in let two =
    length-map items item_tree in
    let three = length-map all argument_tree in omega (arith, count, one, two, three, few)))
    finds

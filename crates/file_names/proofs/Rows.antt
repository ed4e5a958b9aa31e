-- Rows of items.
use Rattle.std.proofs.Common.{◌≡◌, ℕ, ◌+◌, ◌<◌, Bool, true, false, if◌then◌else◌, cond, List, [], ◌∷◌, ◌++◌, map}
use Rattle.std.proofs.Common.{filter, flat_map, take, drop, length, get_or, refl, sym, ap, ◌∙◌, subst, arith}
use Rattle.std.proofs.Common.{append-nil, zero, suc, ◌≤◌}
use Rattle.std.proofs.lemmas.List.{map-append}
use Rattle.layer_ast.specs.Tree.{ItemTree}
use Rattle.layer_ast.specs.View.{item_tree}
use Rattle.layer_ast.specs.declared.names.Name.{Name}
use Rattle.layer_ast.specs.declared.syntax.Item.{Item}
use Rattle.fault_mean.specs.Earliest.{unless}
use Rattle.fault_mean.specs.Faults.{too_many}
use Rattle.fault_mean.specs.Kinds.{a_number, allows}
use Rattle.fault_mean.specs.Limits.{messages_inside, numbers_beyond}
use Rattle.file_names.specs.Found.{Finds, name_shown}
use Rattle.file_names.specs.Rows.{followed_faults}
use Rattle.file_scope.specs.declared.found.Found.{Found}
use Rattle.file_scope.proofs.Finds.{finds_both, finds_none}
use Rattle.file_scope.proofs.Lists.{trees_more}

filter-append : {A : Type 0} (p : A → Bool) (xs ys : List A) → filter p (xs ++ ys) ≡ filter p xs ++ filter p ys
filter-append p [] ys = refl
filter-append {A} p (x ∷ xs) ys = go (p x) (filter-append p xs ys) where
  go : (b : Bool) → filter p (xs ++ ys) ≡ filter p xs ++ filter p ys →
      cond b (x ∷ filter p (xs ++ ys)) (filter p (xs ++ ys)) ≡ cond b (x ∷ filter p xs) (filter p xs) ++ filter p ys
  go true rest = ap (λ l. x ∷ l) rest
  go false rest = rest

filtered_more : {X A : Type 0} (tree : X → A) (p : A → Bool) (name : A → Name) (xs : List X) (i : ℕ) (x : X)
    (all : List Name) →
    i < length xs → x ≡ get_or xs i x → all ≡ map name (filter p (map tree (take i xs))) →
    map name (filter p (map tree (take (i + 1) xs))) ≡ all ++ map name (cond (p (tree x)) (tree x ∷ []) [])
filtered_more tree p name xs i x all within is so_far =
    ap (λ l. map name (filter p l)) (trees_more tree xs i x within is)
    ∙ (ap (map name) (filter-append p (map tree (take i xs)) (tree x ∷ []))
    ∙ (map-append name (filter p (map tree (take i xs))) (filter p (tree x ∷ []))
    ∙ ap (λ l. l ++ map name (filter p (tree x ∷ []))) (sym so_far)))

-- one more thing, that passes a test or not
pub kept_more : {X A : Type 0} (tree : X → A) (p : A → Bool) (name : A → Name) (xs : List X) (i : ℕ) (x : X)
    (all : List Name) →
    i < length xs → x ≡ get_or xs i x → p (tree x) ≡ true → all ≡ map name (filter p (map tree (take i xs))) →
    all ++ name (tree x) ∷ [] ≡ map name (filter p (map tree (take (i + 1) xs)))
kept_more tree p name xs i x all within is passes so_far =
    sym (filtered_more tree p name xs i x all within is so_far
    ∙ ap (λ b. all ++ map name (cond b (tree x ∷ []) [])) passes)

pub passed_over : {X A : Type 0} (tree : X → A) (p : A → Bool) (name : A → Name) (xs : List X) (i : ℕ) (x : X)
    (all : List Name) →
    i < length xs → x ≡ get_or xs i x → p (tree x) ≡ false → all ≡ map name (filter p (map tree (take i xs))) →
    all ≡ map name (filter p (map tree (take (i + 1) xs)))
passed_over tree p name xs i x all within is fails so_far =
    sym (filtered_more tree p name xs i x all within is so_far
    ∙ (ap (λ b. all ++ map name (cond b (tree x ∷ []) [])) fails ∙ append-nil all))

-- all items of a row but the last
inside_is : (xs : List ItemTree) (x : ItemTree) →
    map (λ i. too_many i.name.at) (messages_inside (xs ++ x ∷ [])) ≡ flat_map followed_faults xs
inside_is [] x = refl
inside_is (y ∷ []) x = go (allows a_number y.sort) where
  go : (b : Bool) → map (λ (i : ItemTree). too_many i.name.at) ((if b then [] else y ∷ []) ++ []) ≡
      unless b (too_many y.name.at) ++ []
  go true = refl
  go false = refl
inside_is (y ∷ z ∷ xs) x = go (allows a_number y.sort) (inside_is (z ∷ xs) x) where
  go : (b : Bool) → map (λ (i : ItemTree). too_many i.name.at) (messages_inside (z ∷ (xs ++ x ∷ []))) ≡
      flat_map followed_faults (z ∷ xs) →
      map (λ (i : ItemTree). too_many i.name.at) ((if b then [] else y ∷ []) ++ messages_inside (z ∷ (xs ++ x ∷ []))) ≡
      unless b (too_many y.name.at) ++ flat_map followed_faults (z ∷ xs)
  go true rest = rest
  go false rest = ap (λ l. too_many y.name.at ∷ l) rest

split_last : (xs : List Item) (n : ℕ) → length xs ≡ n + 1 → (front : List Item) × (x : Item) × (xs ≡ front ++ x ∷ []) ×
    (take n xs ≡ front)
split_last [] n is = absurd (omega (arith, is))
split_last (x ∷ xs) zero is = ([], x, ap (λ l. x ∷ l) (none xs (omega (arith, is))), refl) where
  none : (l : List Item) → length l ≡ 0 → l ≡ []
  none [] e = refl
  none (y ∷ ys) e = absurd (omega (arith, e))
split_last (x ∷ xs) (suc n) is =
    let rest = split_last xs n (omega (arith, is)) in
    (x ∷ rest.0, rest.1, ap (λ l. x ∷ l) rest.2, ap (λ l. x ∷ l) rest.3)

pub front_is : (a b : Found) (xs : List Item) (n : ℕ) → length xs ≡ n + 1 →
    Finds a (flat_map followed_faults (map item_tree (take n xs))) b →
    Finds a (map (λ i. too_many i.name.at) (messages_inside (map item_tree xs))) b
front_is a b xs n is finds =
    let s = split_last xs n is in
    subst (λ l. Finds a l b)
    (sym (ap (λ l. map (λ (i : ItemTree). too_many i.name.at) (messages_inside (map item_tree l))) s.2
    ∙ (ap (λ l. map (λ (i : ItemTree). too_many i.name.at) (messages_inside l)) (map-append item_tree s.0 (s.1 ∷ []))
    ∙ (inside_is (map item_tree s.0) (item_tree s.1) ∙ ap (λ l. flat_map followed_faults (map item_tree l))
    (sym s.3)))))
    finds

pub map_drop : {X A : Type 0} (f : X → A) (n : ℕ) (xs : List X) → map f (drop n xs) ≡ drop n (map f xs)
map_drop f zero xs = refl
map_drop f (suc n) [] = refl
map_drop f (suc n) (x ∷ xs) = map_drop f n xs

names_too_many : (items : List ItemTree) →
    map (λ (n : Name). too_many n.at) (map (λ (i : ItemTree). i.name) items) ≡
    map (λ (i : ItemTree). too_many i.name.at) items
names_too_many [] = refl
names_too_many (i ∷ items) = ap (λ l. too_many i.name.at ∷ l) (names_too_many items)

-- the numbers beyond the fourth, and the messages inside
pub row_parts : (a b c : Found) (items : List ItemTree) →
    Finds a (map (λ (n : Name). too_many n.at)
    (drop 4 (map (λ (i : ItemTree). i.name) (filter (λ i. allows a_number i.sort) items)))) b →
    Finds b (map (λ (i : ItemTree). too_many i.name.at) (messages_inside items)) c →
    Finds a (map (λ (i : ItemTree). too_many i.name.at) (numbers_beyond items ++ messages_inside items)) c
row_parts a b c items beyond inside =
    subst (λ l. Finds a l c)
    (sym (map-append (λ (i : ItemTree). too_many i.name.at) (numbers_beyond items) (messages_inside items)))
    (finds_both name_shown a b c (map (λ (i : ItemTree). too_many i.name.at) (numbers_beyond items)) _
    (subst (λ l. Finds a l b)
    (ap (map (λ (n : Name). too_many n.at))
    (sym (map_drop (λ (i : ItemTree). i.name) 4 (filter (λ i. allows a_number i.sort) items)))
    ∙ names_too_many (numbers_beyond items))
    beyond)
    inside)

pub none_inside : (xs : List Item) (a : Found) → length xs ≤ 0 →
    Finds a (map (λ (i : ItemTree). too_many i.name.at) (messages_inside (map item_tree xs))) a
none_inside [] a few = finds_none name_shown a
none_inside (x ∷ xs) a few = absurd (omega (arith, few))

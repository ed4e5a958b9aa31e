-- Names as locals, one name further.
use Rattle.std.proofs.Common.{◌≡◌, ℕ, zero, suc, ◌+◌, ◌<◌, ◌≤◌, List, [], ◌∷◌, ◌++◌, take, length, get_or, map}
use Rattle.std.proofs.Common.{slice_index_or, refl, sym, ap, ap₂, ◌∙◌, arith, append_assoc, length-take-le}
use Rattle.std.proofs.lemmas.List.{map-append, take_more, length-map}
use Rattle.layer_ast.specs.Tree.{ItemTree, ItemsTree}
use Rattle.layer_ast.specs.View.{item_tree, items_tree}
use Rattle.layer_ast.specs.declared.names.Name.{Name}
use Rattle.layer_ast.specs.declared.syntax.Item.{Item}
use Rattle.layer_ast.specs.declared.syntax.Items.{Items}
use Rattle.fault_mean.specs.Declared.{items_in}
use Rattle.layer_words.specs.declared.sorts.Sort.{Sort}
use Rattle.layer_words.specs.declared.sorts.Sort.TheVariants.{Int}
use Rattle.fault_mean.specs.Scope as names
use Rattle.file_scope.specs.Scope.{local_of, locals_of}
use Rattle.file_scope.specs.declared.scope.Local.{Local}

locals_more : (sorts : List Sort) (xs : List Name) (x : Name) →
    names.locals_as sorts (xs ++ x ∷ []) ≡
    names.locals_as sorts xs ++ record { name = x; sort = slice_index_or sorts (length xs) Int } ∷ []
locals_more [] [] x = refl
locals_more (s ∷ sorts) [] x = refl
locals_more [] (y ∷ xs) x = ap (λ l. record { name = y; sort = Int } ∷ l) (locals_more [] xs x)
locals_more (s ∷ sorts) (y ∷ xs) x = ap (λ l. record { name = y; sort = s } ∷ l) (locals_more sorts xs x)

locals_count : (sorts : List Sort) (xs : List Name) → length (names.locals_as sorts xs) ≡ length xs
locals_count sorts [] = refl
locals_count [] (y ∷ xs) = ap suc (locals_count [] xs)
locals_count (s ∷ sorts) (y ∷ xs) = ap suc (locals_count sorts xs)

pub local_more : (sorts : List Sort) (xs : List Name) (i : ℕ) (x : Name) (all : List Local) (sort : Sort) (n : ℕ) →
    i < length xs → x ≡ get_or xs i x → locals_of all ≡ names.locals_as sorts (take i xs) → n ≡ length all →
    sort ≡ slice_index_or sorts n Int →
    locals_of (all ++ record { name = x; sort = sort } ∷ []) ≡ names.locals_as sorts (take (i + 1) xs)
local_more sorts xs i x all sort n within is so_far count is_sort =
    let counted : length all ≡ length (take i xs) = sym (length-map all local_of) ∙
    (ap length so_far ∙ locals_count sorts (take i xs)) in
    map-append local_of all (record { name = x; sort = sort } ∷ [])
    ∙ (ap (λ l. l ++ record { name = x; sort = sort } ∷ []) so_far
    ∙ (ap (λ s. names.locals_as sorts (take i xs) ++ record { name = x; sort = s } ∷ [])
    (is_sort ∙ ap (λ k. slice_index_or sorts k Int) (count ∙ counted))
    ∙ (sym (locals_more sorts (take i xs) x)
    ∙ ap (names.locals_as sorts) (sym (take_more xs i x within ∙ ap (λ y. take i xs ++ y ∷ []) (sym is))))))

-- names as locals after others: the first, and the next
pub first_added : (sorts : List Sort) (x : Name) (old : List Local) (sort : Sort) → sort ≡ slice_index_or sorts 0 Int →
    locals_of (old ++ record { name = x; sort = sort } ∷ []) ≡ locals_of old ++ names.locals_as sorts (x ∷ [])
first_added [] x old sort is =
    map-append local_of old (record { name = x; sort = sort } ∷ []) ∙
    ap (λ s. locals_of old ++ record { name = x; sort = s } ∷ []) is
first_added (s ∷ sorts) x old sort is =
    map-append local_of old (record { name = x; sort = sort } ∷ []) ∙
    ap (λ s. locals_of old ++ record { name = x; sort = s } ∷ []) is

pub next_added : (sorts : List Sort) (first : Name) (rest : List Name) (k : ℕ) (x : Name) (old all : List Local)
    (sort : Sort) (n : ℕ) →
    k < length rest → x ≡ get_or rest k x → n ≡ k + 1 →
    locals_of all ≡ locals_of old ++ names.locals_as sorts (first ∷ take k rest) → sort ≡ slice_index_or sorts n Int →
    locals_of (all ++ record { name = x; sort = sort } ∷ []) ≡ locals_of old ++
    names.locals_as sorts (first ∷ take (k + 1) rest)
next_added sorts first rest k x old all sort n within is count so_far is_sort =
    let counted : n ≡ length (first ∷ take k rest) =
    let l = length-take-le k rest (omega (arith, within)) in let e : suc (length (take k rest)) ≡ n =
    omega (arith, l, count) in sym e in
    map-append local_of all (record { name = x; sort = sort } ∷ [])
    ∙ (ap (λ l. l ++ record { name = x; sort = sort } ∷ []) so_far
    ∙ (append_assoc (locals_of old) (names.locals_as sorts (first ∷ take k rest))
    (record { name = x; sort = sort } ∷ [])
    ∙ ap (λ l. locals_of old ++ l)
    (ap (λ s. names.locals_as sorts (first ∷ take k rest) ++ record { name = x; sort = s } ∷ [])
    (is_sort ∙ ap (λ i. slice_index_or sorts i Int) counted)
    ∙ (sym (locals_more sorts (first ∷ take k rest) x)
    ∙ ap (λ xs. names.locals_as sorts (first ∷ xs))
    (sym (take_more rest k x within ∙ ap (λ y. take k rest ++ y ∷ []) (sym is)))))))

-- the locals of the arguments with those of the fields after them
pub following : (arguments fields : List Local) (first second : List names.Local) →
    locals_of arguments ≡ first → locals_of fields ≡ second → locals_of (arguments ++ fields) ≡ first ++ second
following arguments fields first second one two =
    map-append local_of arguments fields ∙ ap₂ (λ a b. a ++ b) one two

-- the sorts of a row's items by place
pub first_sort : (row : ItemsTree) (place : ℕ) → place ≡ 0 →
    row.first.sort ≡ slice_index_or (map (λ i. i.sort) (items_in row)) place Int
first_sort row place is = ap (λ k. slice_index_or (map (λ (i : ItemTree). i.sort) (items_in row)) k Int) (sym is)

after_first : (rest : List Item) (k : ℕ) (i : Item) → k < length rest → i ≡ get_or rest k i →
    i.sort ≡ slice_index_or (map (λ (x : ItemTree). x.sort) (map item_tree rest)) k Int
after_first [] k i within is = absurd (omega (arith, within))
after_first (x ∷ rest) zero i within is = ap (λ (y : Item). y.sort) is
after_first (x ∷ rest) (suc k) i within is = after_first rest k i (omega (arith, within)) is

pub rest_sort : (row : Items) (place k : ℕ) (i : Item) → place ≡ k + 1 → k < length row.rest.items →
    i ≡ get_or row.rest.items k i →
    i.sort ≡ slice_index_or (map (λ i. i.sort) (items_in (items_tree row))) place Int
rest_sort row place k i is within at =
    after_first row.rest.items k i within at
    ∙ ap (λ p. slice_index_or (map (λ (i : ItemTree). i.sort) (items_in (items_tree row))) p Int)
    (let e : suc k ≡ place = omega (arith, is) in e)

past_all : (rest : List Item) (k : ℕ) → length rest ≤ k →
    Int ≡ slice_index_or (map (λ (x : ItemTree). x.sort) (map item_tree rest)) k Int
past_all [] k past = refl
past_all (x ∷ rest) zero past = absurd (omega (arith, past))
past_all (x ∷ rest) (suc k) past = past_all rest k (omega (arith, past))

pub no_sort : (row : Items) (place : ℕ) → length row.rest.items < place →
    Int ≡ slice_index_or (map (λ i. i.sort) (items_in (items_tree row))) place Int
no_sort row zero past = absurd (omega (arith, past))
no_sort row (suc k) past = past_all row.rest.items k (omega (arith, past))

pub number_there : (place : ℕ) → Int ≡ slice_index_or [] place Int
number_there place = refl

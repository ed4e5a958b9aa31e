-- How long lists are that have no fault for their length, and the rows and headers of what a layer declares.
use Rattle.std.proofs.Common.{◌≡◌, ℕ, zero, suc, ◌+◌, ◌≤◌, Bool, true, false, List, [], ◌∷◌, length, Option, Some, None}
use Rattle.std.proofs.Common.{refl, ap, arith}
use Rattle.std.specs.Prelude.{drop, is_some, if◌then◌else◌, option_and_then, option_map, option_to_list, unwrap_or}
use Rattle.std.specs.List.{filter, last_or, position}
use Rattle.std.specs.Option.{option_map_or}
use Rattle.std.proofs.lemmas.List.Quantifiers.{position-Some}
use Rattle.msg_core.specs.declared.message.Header.{Header}
use Rattle.layer_ast.specs.declared.names.Name.{Name}
use Rattle.layer_words.specs.declared.sorts.Sort.{Sort}
use Rattle.layer_words.specs.declared.sorts.Sort.TheVariants.{Int, Msg, Part}
use Rattle.layer_ast.specs.Tree as ast
use Rattle.fault_mean.specs.Faults.{too_many}
use Rattle.fault_mean.specs.Kinds.{allows, a_number}
use Rattle.fault_mean.specs.Limits.{messages_inside}
use Rattle.fault_mean.specs.NameFaults.{too_many_of}
use Rattle.file_mean.specs.Names.{Placed, carried_as, carried_in, numbers_among, message_among}
use Rattle.file_laws.proofs.Lists.{nils, map_nil}
use Rattle.file_laws.proofs.Fronts.{front, front_is}
use Rattle.file_laws.proofs.Messages.{inner_number}
use Rattle.chain_laws.proofs.Lists.{Where}

-- a list of which nothing is left after n items isn't longer than n

pub drop_few : {A : Type 0} (n : ℕ) (xs : List A) → drop n xs ≡ [] → length xs ≤ n
drop_few zero [] h = omega arith
drop_few zero (x ∷ xs) h = absurd (cc h)
drop_few (suc n) [] h = omega arith
drop_few (suc n) (x ∷ xs) h = let few = drop_few n xs h in omega (arith, few)

pub names_few : (most : ℕ) (names : List Name) → too_many_of most names ≡ [] → length names ≤ most
names_few most names h = drop_few most names (map_nil (λ (name : Name). too_many name.at) (drop most names) h)

-- all but the last, and the last

pub front_length : {A : Type 0} (xs : List A) → length xs ≤ suc (length (front xs))
front_length [] = omega arith
front_length (x ∷ []) = omega arith
front_length (x ∷ y ∷ xs) = let rest = front_length (y ∷ xs) in omega (arith, rest)

pub front_same : {A B : Type 0} (xs : List A) (ys : List B) → length xs ≡ length ys →
    length (front xs) ≡ length (front ys)
front_same [] [] same = refl
front_same [] (y ∷ ys) same = absurd (omega (arith, same))
front_same (x ∷ xs) [] same = absurd (omega (arith, same))
front_same (x ∷ []) (y ∷ []) same = refl
front_same (x ∷ []) (y ∷ z ∷ ys) same = absurd (omega (arith, same))
front_same (x ∷ w ∷ xs) (y ∷ []) same = absurd (omega (arith, same))
front_same (x ∷ w ∷ xs) (y ∷ z ∷ ys) same = ap suc (front_same (w ∷ xs) (z ∷ ys) (omega (arith, same)))

last_split : {A : Type 0} (x : A) (xs : List A) →
    length (front (x ∷ xs)) + length (option_to_list (last_or (Some x) xs)) ≡ suc (length xs)
last_split x [] = refl
last_split x (y ∷ xs) = let rest = last_split y xs in omega (arith, rest)

pub split : {A : Type 0} (b : Bool) (xs : List A) →
    length (numbers_among b xs) + length (option_to_list (message_among b xs)) ≡ length xs
split {A} true [] = let e = ap length (front_is {A = A} []) in omega (arith, e)
split true (x ∷ xs) = let e = ap length (front_is (x ∷ xs)) in let whole = last_split x xs in omega (arith, e, whole)
split false xs = omega arith

-- the numbers of a row: all but its last, or all where nothing is carried

abbrev pub numbers_in : List ast.ItemTree → ℕ
numbers_in items = length (filter (λ (i : ast.ItemTree). allows a_number i.sort) items)

pub record Row (items : List ast.ItemTree) : Type 0 where
  pub inner : messages_inside items ≡ []
  pub few : numbers_in items ≤ 4

number_first : (x : ast.ItemTree) (kept : List ast.ItemTree) (b : Bool) → b ≡ true →
    length (if b then x ∷ kept else kept) ≡ suc (length kept)
number_first x kept true is = refl
number_first x kept false is = absurd (cc is)

front_counted : (items : List ast.ItemTree) → messages_inside items ≡ [] → length (front items) ≤ numbers_in items
front_counted [] h = omega arith
front_counted (x ∷ []) h = omega arith
front_counted (x ∷ y ∷ items) h =
    let parts = nils (if allows a_number x.sort then [] else x ∷ []) (messages_inside (y ∷ items)) h in
    let first = number_first x (filter (λ (i : ast.ItemTree). allows a_number i.sort) (y ∷ items))
    (allows a_number x.sort)
    (inner_number x (allows a_number x.sort) refl parts.0) in
    let rest = front_counted (y ∷ items) parts.1 in
    omega (arith, first, rest)

no_message : (blank : List Header) (s : Sort) → is_some (carried_as blank s) ≡ false → allows a_number s ≡ true
no_message blank Int h = refl
no_message blank Msg h = absurd (cc h)
no_message blank Part h = absurd (cc h)

all_counted : (blank : List Header) (items : List ast.ItemTree) (o : Option ast.ItemTree) → messages_inside items ≡ [] →
    is_some (option_and_then (λ i. carried_as blank i.sort) (last_or o items)) ≡ false → length items ≤ numbers_in items
all_counted blank [] o h is = omega arith
all_counted blank (x ∷ []) o h is =
    let first = number_first x [] (allows a_number x.sort) (no_message blank x.sort is) in omega (arith, first)
all_counted blank (x ∷ y ∷ items) o h is =
    let parts = nils (if allows a_number x.sort then [] else x ∷ []) (messages_inside (y ∷ items)) h in
    let first = number_first x (filter (λ (i : ast.ItemTree). allows a_number i.sort) (y ∷ items))
    (allows a_number x.sort)
    (inner_number x (allows a_number x.sort) refl parts.0) in
    let rest = all_counted blank (y ∷ items) (Some x) parts.1 is in
    omega (arith, first, rest)

pub row_numbers : {A : Type 0} (p : Placed) (items : List ast.ItemTree) (xs : List A) → Row items →
    length items ≡ length xs →
    (b : Bool) → is_some (carried_in p items) ≡ b → length (numbers_among b xs) ≤ 4
row_numbers p items xs row same true is =
    let e = ap length (front_is xs) in
    let short = front_same items xs same in
    let counted = front_counted items row.inner in
    omega (arith, e, short, counted, row.few)
row_numbers p items xs row same false is =
    let counted = all_counted p.blank items None row.inner is in
    omega (arith, same, counted, row.few)

pub row_items_few : (items : List ast.ItemTree) → Row items → length items ≤ 5
row_items_few items row =
    let long = front_length items in
    let counted = front_counted items row.inner in
    omega (arith, long, counted, row.few)

-- the place of what is found, counted from 1

pub place_few : {A : Type 0} (p : A → Bool) (xs : List A) →
    unwrap_or (option_map (λ k. k + 1) (position p xs)) 0 ≤ length xs
place_few p [] = omega arith
place_few p (x ∷ xs) = go (position p (x ∷ xs)) refl where
  go : (o : Option ℕ) → position p (x ∷ xs) ≡ o → unwrap_or (option_map (λ k. k + 1) o) 0 ≤ length (x ∷ xs)
  go None is = omega arith
  go (Some k) is = let below = (position-Some p (x ∷ xs) k x is).0 in omega (arith, below)

-- what is made of what is found
pub or_where : {A B : Type 0} (Q : B → Type 0) (f : A → B) (d : B) (o : Option A) → Q d → Where (λ x. Q (f x)) o →
    Q (option_map_or f o d)
or_where Q f d None none h = none
or_where Q f d (Some x) none h = h

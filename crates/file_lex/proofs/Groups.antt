-- A table whose entries are grouped by their first byte is searched in one group alone.
use Rattle.std.proofs.Common.{◌≡◌, ℕ, nat_eq, Bool, true, false, cond, ◌&&◌, ◌||◌, ◌≤◌, List, [], ◌∷◌, length, map}
use Rattle.std.proofs.Common.{filter, find, Option, Some, None, refl, sym, ap, ◌∙◌, true≢false, eqb-true, arith}
use Rattle.std.specs.List.{list_any, list_all}
use Rattle.std.specs.Borrow.{Bor}
use Rattle.std.specs.Option.{option_map, option_and_then}
use Rattle.std.specs.Str.{bytes_eq}
use Rattle.layer_words.specs.Spelling.{beside}
use Rattle.file_lex.specs.Tables.{shown_table, shown_groups, beside_in_group}

-- whether a spelling begins with a byte
abbrev first_is : ℕ → List ℕ → Bool
first_is b [] = false
first_is b (c ∷ cs) = nat_eq c b

-- the entries that begin with a byte
abbrev pub starting : {X : Type 0} → ℕ → List (List ℕ × X) → List (List ℕ × X)
starting b table = filter (λ entry. first_is b entry.0) table

-- whether each spelling of a table begins with the byte of a group
abbrev pub is_covered : {X : Type 0} → List (ℕ × List (List ℕ × X)) → List (List ℕ × X) → Bool
is_covered groups table = list_all (λ entry. list_any (λ group. first_is group.0 entry.0) groups) table

abbrev list_tail : {A : Type 0} → List A → List A
list_tail [] = []
list_tail (x ∷ xs) = xs

both_true : (s t : Bool) → (s && t) ≡ true → (s ≡ true) × (t ≡ true)
both_true true true is = (refl, refl)
both_true true false is = cc
both_true false t is = cc

skips : (b : ℕ) (bs word : List ℕ) → first_is b word ≡ false → bytes_eq word (b ∷ bs) ≡ false
skips b bs [] is = refl
skips b bs (c ∷ cs) is = ap (λ t. t && bytes_eq cs bs) is

-- one more entry, which stands among those of its byte or is no match
one_more : {X : Type 0} (starts : Bool) (entry : List ℕ × X) (some table : List (List ℕ × X)) (b : ℕ) (bs : List ℕ) →
    first_is b entry.0 ≡ starts → beside some (b ∷ bs) ≡ beside table (b ∷ bs) →
    beside (cond starts (entry ∷ some) some) (b ∷ bs) ≡ beside (entry ∷ table) (b ∷ bs)
one_more true entry some table b bs is same =
    elim (bytes_eq entry.0 (b ∷ bs)) as (λ t.
    option_map (λ e. e.1) (cond t (Some entry) (find (λ e. bytes_eq e.0 (b ∷ bs)) some))
    ≡ option_map (λ e. e.1) (cond t (Some entry) (find (λ e. bytes_eq e.0 (b ∷ bs)) table))
    ) [ true ↦ refl | false ↦ same ]
one_more false entry some table b bs is same =
    same
    ∙ ap (λ t. option_map (λ e. e.1) (cond t (Some entry) (find (λ e. bytes_eq e.0 (b ∷ bs)) table)))
    (sym (skips b bs entry.0 is))

beside_starting : {X : Type 0} (table : List (List ℕ × X)) (b : ℕ) (bs : List ℕ) →
    beside (starting b table) (b ∷ bs) ≡ beside table (b ∷ bs)
beside_starting [] b bs = refl
beside_starting (entry ∷ table) b bs =
    one_more (first_is b entry.0) entry (starting b table) table b bs refl (beside_starting table b bs)

any_after : {A : Type 0} (p : A → Bool) (x : A) (xs : List A) (t : Bool) → cond t (Some x) (find p xs) ≡ None →
    (find p xs ≡ None → list_any p xs ≡ false) → (t || list_any p xs) ≡ false
any_after p x xs true none following = cc
any_after p x xs false none following = following none

any_none : {A : Type 0} (p : A → Bool) (xs : List A) → find p xs ≡ None → list_any p xs ≡ false
any_none p [] none = refl
any_none p (x ∷ xs) none = any_after p x xs (p x) none (any_none p xs)

-- no group has the byte: no entry that is covered begins with it
none_begins : {X : Type 0} (groups : List (ℕ × List (List ℕ × X))) (b c : ℕ) (begins : Bool) → nat_eq c b ≡ begins →
    find (λ group. nat_eq b group.0) groups ≡ None → list_any (λ group. nat_eq c group.0) groups ≡ true →
    nat_eq c b ≡ false
none_begins groups b c false is none covered = is
none_begins groups b c true is none covered =
    absurd (true≢false (
    sym covered
    ∙ (ap (λ x. list_any (λ group. nat_eq x group.0) groups) (eqb-true c b is)
    ∙ any_none (λ group. nat_eq b group.0) groups none)
    ))

first_none : {X : Type 0} (groups : List (ℕ × List (List ℕ × X))) (spelling : List ℕ) (b : ℕ) →
    find (λ group. nat_eq b group.0) groups ≡ None → list_any (λ group. first_is group.0 spelling) groups ≡ true →
    first_is b spelling ≡ false
first_none groups [] b none covered = refl
first_none groups (c ∷ cs) b none covered = none_begins groups b c (nat_eq c b) refl none covered

beside_none : {X : Type 0} (groups : List (ℕ × List (List ℕ × X))) (table : List (List ℕ × X)) (b : ℕ) (bs : List ℕ) →
    find (λ group. nat_eq b group.0) groups ≡ None → is_covered groups table ≡ true → beside table (b ∷ bs) ≡ None
beside_none groups [] b bs none covered = refl
beside_none groups (entry ∷ table) b bs none covered =
    let h = both_true (list_any (λ group. first_is group.0 entry.0) groups) (is_covered groups table) covered in
    ap (λ t. option_map (λ e. e.1) (cond t (Some entry) (find (λ e. bytes_eq e.0 (b ∷ bs)) table)))
    (skips b bs entry.0 (first_none groups entry.0 b none h.0))
    ∙ beside_none groups table b bs none h.1

found_after : {X : Type 0} (x : ℕ × List (List ℕ × X)) (groups : List (ℕ × List (List ℕ × X)))
    (table : List (List ℕ × X)) (b : ℕ)
    (group : ℕ × List (List ℕ × X)) (t : Bool) → nat_eq b x.0 ≡ t →
    (x.1 ∷ map (λ g. g.1) groups) ≡ (starting x.0 table ∷ map (λ g. starting g.0 table) groups) →
    cond t (Some x) (find (λ g. nat_eq b g.0) groups) ≡ Some group →
    (map (λ g. g.1) groups ≡ map (λ g. starting g.0 table) groups → find (λ g. nat_eq b g.0) groups ≡ Some group →
    group.1 ≡ starting b table) →
    group.1 ≡ starting b table
found_after x groups table b group true is same found following =
    let e : x ≡ group = cc in
    let h : x.1 ≡ starting x.0 table = cc in
    ap (λ g. g.1) (sym e) ∙ (h ∙ ap (λ c. starting c table) (sym (eqb-true b x.0 is)))
found_after x groups table b group false is same found following =
    following (ap list_tail same) found

-- a group has the entries that begin with its byte
found_group : {X : Type 0} (groups : List (ℕ × List (List ℕ × X))) (table : List (List ℕ × X)) (b : ℕ)
    (group : ℕ × List (List ℕ × X)) →
    map (λ g. g.1) groups ≡ map (λ g. starting g.0 table) groups → find (λ g. nat_eq b g.0) groups ≡ Some group →
    group.1 ≡ starting b table
found_group [] table b group same is = cc
found_group (x ∷ groups) table b group same is = found_after x groups table b group (nat_eq b x.0) refl same is
    (found_group groups table b group)

grouped_found : {X : Type 0} (groups : List (ℕ × List (List ℕ × X))) (table : List (List ℕ × X)) →
    map (λ g. g.1) groups ≡ map (λ g. starting g.0 table) groups → is_covered groups table ≡ true →
    (b : ℕ) (bs : List ℕ) →
    (found : Option (ℕ × List (List ℕ × X))) → find (λ g. nat_eq b g.0) groups ≡ found →
    option_and_then (λ g. beside g.1 (b ∷ bs)) found ≡ beside table (b ∷ bs)
grouped_found groups table same covered b bs None is = sym (beside_none groups table b bs is covered)
grouped_found groups table same covered b bs (Some g) is =
    ap (λ entries. beside entries (b ∷ bs)) (found_group groups table b g same is) ∙ beside_starting table b bs

-- what the group of a word's first byte says is what the whole table says
pub grouped_is : {X : Type 0} (groups : List (ℕ × List (List ℕ × X))) (table : List (List ℕ × X)) →
    map (λ g. g.1) groups ≡ map (λ g. starting g.0 table) groups → is_covered groups table ≡ true → (word : List ℕ) →
    1 ≤ length word → beside_in_group groups word ≡ beside table word
unfolding beside_in_group
grouped_is groups table same covered [] some = absurd (omega (arith, some))
grouped_is groups table same covered (b ∷ bs) some =
    grouped_found groups table same covered b bs (find (λ g. nat_eq b g.0) groups) refl

-- a search in a grouped table, as the lexer keeps it
find_group : {X : Type 0} (groups : List (ℕ × Bor (List (Bor (List ℕ) × X)))) (b : ℕ) (word : List ℕ) →
    option_and_then (λ g. beside g.1 word) (find (λ g. nat_eq b g.0) (shown_groups groups))
    ≡ option_and_then (λ entries. beside (shown_table entries) word)
    (option_map (λ g. g.1.now) (find (λ g. nat_eq b g.0) groups))
find_group [] b word = refl
find_group (group ∷ groups) b word =
    elim (nat_eq b group.0) as (λ t.
    option_and_then (λ g. beside g.1 word)
    (cond t (Some (group.0, shown_table group.1.now)) (find (λ g. nat_eq b g.0) (shown_groups groups)))
    ≡ option_and_then (λ entries. beside (shown_table entries) word)
    (option_map (λ g. g.1.now) (cond t (Some group) (find (λ g. nat_eq b g.0) groups)))
    ) [ true ↦ refl | false ↦ find_group groups b word ]

-- the group of the first byte was found, or none
pub in_group : {X : Type 0} (groups : List (ℕ × Bor (List (Bor (List ℕ) × X)))) (b : ℕ) (bs : List ℕ)
    (found : Option (Bor (List (Bor (List ℕ) × X)))) →
    option_map (λ g. g.now) found ≡ option_map (λ g. g.1.now) (find (λ g. nat_eq b g.0) groups) →
    option_and_then (λ entries. beside (shown_table entries) (b ∷ bs)) (option_map (λ g. g.now) found)
    ≡ beside_in_group (shown_groups groups) (b ∷ bs)
unfolding beside_in_group
in_group groups b bs found same =
    ap (option_and_then (λ entries. beside (shown_table entries) (b ∷ bs))) same ∙ sym (find_group groups b (b ∷ bs))

-- what the search for a word answers, where it has a first byte
pub found_in_group : {X : Type 0} (groups : List (ℕ × Bor (List (Bor (List ℕ) × X)))) (word : List ℕ) (b : ℕ)
    (bs : List ℕ)
    (found : Option (Bor (List (Bor (List ℕ) × X)))) (result : Option X) → word ≡ b ∷ bs →
    option_map (λ g. g.now) found ≡ option_map (λ g. g.1.now) (find (λ g. nat_eq b g.0) groups) →
    result ≡ option_and_then (λ entries. beside (shown_table entries) word) (option_map (λ g. g.now) found) →
    result ≡ beside_in_group (shown_groups groups) word
found_in_group groups word b bs found result split same is =
    is
    ∙ (ap (λ w. option_and_then (λ entries. beside (shown_table entries) w) (option_map (λ g. g.now) found)) split
    ∙ (in_group groups b bs found same ∙ ap (beside_in_group (shown_groups groups)) (sym split)))

-- and where it has none
pub found_nothing : {X : Type 0} (groups : List (ℕ × Bor (List (Bor (List ℕ) × X)))) (word : List ℕ) → length word ≡ 0 →
    None ≡ beside_in_group (shown_groups groups) word
unfolding beside_in_group
found_nothing groups [] none = refl
found_nothing groups (b ∷ bs) none = absurd (omega (arith, none))

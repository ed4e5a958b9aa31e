-- Segments before the line that the marks show lack nothing.
use Rattle.std.proofs.Common.{◌≡◌, ℕ, ◌+◌, ◌<◌, ◌≤◌, Bool, true, false, cond, List, [], ◌∷◌, ◌++◌, Option, Some, None}
use Rattle.std.proofs.Common.{length, take, get_or, refl, sym, ap, ◌∙◌, subst, arith, append_assoc}
use Rattle.std.proofs.lemmas.List.{take_all, take_more}
use Rattle.std.proofs.lemmas.List.Sums.{fold-append}
use Rattle.std.specs.Prelude.{◌&&◌, ◌||◌, ◌==◌, not, nat_lt, map, filter, fold, count_by, bytes_eq}
use Rattle.std.specs.List.{AllByRecursion, flat_map, list_any}
use Rattle.std.proofs.lemmas.Bool.{eqb-true}
use Rattle.std.proofs.lemmas.Bool.Decides.{nat_tests}
use Rattle.audit_mean.specs.Segment.{Entry, Name, start, in_view, same_name, same_content}
use Rattle.audit_mean.specs.Clash.{Placed}
use Rattle.audit_judge.specs.Lacks.{Known, ended_shown, entries_in, exceeds, goes_with, is_other, lacks, lacks_of_one}
use Rattle.audit_judge.specs.Lacks.{lines_of_lack, ranked_shown}
use Rattle.audit_judge.specs.Marks.{IsClear, IsInLine, IsRanked, Marked, Rises, group_found, has, is_before, item_for}
use Rattle.audit_judge.specs.Marks.{item_found, lack_line, lacking, other_than, same_item, sooner, sooner_in, sooner_of}
use Rattle.audit_judge.specs.declared.contents.Ranked.{Ranked}
use Rattle.audit_judge.specs.declared.ended.Ended.{Ended}
use Rattle.audit_judge.specs.declared.ended.Way.{Way}
use Rattle.audit_judge.specs.declared.marks.Item.{Item}
use Rattle.audit_judge.specs.declared.marks.Mark.{Mark}
use Rattle.audit_judge.specs.declared.marks.Group.{Group}
use Rattle.audit_judge.proofs.Agree.{same_bytes}
use Rattle.audit_judge.proofs.Counts.{both}
use Rattle.audit_judge.proofs.Lacking.{Reaches, OnlyBy, each, for_any, of_kept, kept_of, covered, only_by, others}

-- a line doesn't stand after another
abbrev pub NotAfter : Option ℕ → Option ℕ → Type 0
NotAfter line None = Unit {0}
NotAfter None (Some other) = ⊥
NotAfter (Some line) (Some other) = line ≤ other

in_turn : (a b c : Option ℕ) → NotAfter a b → NotAfter b c → NotAfter a c
in_turn a b None h k = tt
in_turn a None (Some z) h k = absurd k
in_turn None (Some y) (Some z) h k = absurd h
in_turn (Some x) (Some y) (Some z) h k = omega (arith, h, k)

itself : (a : Option ℕ) → NotAfter a a
itself None = tt
itself (Some x) = omega arith

pick : (x y : ℕ) → NotAfter (cond (nat_lt y x) (Some y) (Some x)) (Some x) ×
    NotAfter (cond (nat_lt y x) (Some y) (Some x)) (Some y)
pick x y = elim (nat_lt y x) as (λ t. nat_lt y x ≡ t → NotAfter (cond t (Some y) (Some x)) (Some x) ×
    NotAfter (cond t (Some y) (Some x)) (Some y)) [
      | true ↦ λ e. let below : y < x = grind (arith, nat_tests) in (omega arith, omega arith)
      | false ↦ λ e. let above : x ≤ y = grind (arith, nat_tests) in (omega arith, omega arith)
    ] refl

soonest : (a b : Option ℕ) → NotAfter (sooner a b) a × NotAfter (sooner a b) b
soonest None b = (tt, itself b)
soonest (Some x) None = (omega arith, tt)
soonest (Some x) (Some y) = pick x y

module _ (items : Item → Option Mark) (groups : Way → Option Group) where
  -- the first of the lines that a segment shows
  shown_lines : (way : Way) (found : Option ℕ) (ds : List Ranked) →
      NotAfter (fold (sooner_of items groups way) found ds) found ×
      AllByRecursion (λ r. NotAfter (fold (sooner_of items groups way) found ds)
      (lack_line (items (item_for way r)) (groups way))) ds
  shown_lines way found [] = (itself found, tt)
  shown_lines way found (d ∷ ds) =
      let line = lack_line (items (item_for way d)) (groups way) in
      let rest = shown_lines way (sooner found line) ds in
      let whole = fold (sooner_of items groups way) (sooner found line) ds in (
        in_turn whole (sooner found line) found rest.0 (soonest found line).0,
        (in_turn whole (sooner found line) line rest.0 (soonest found line).1, rest.1),
      )

  -- and that all segments show
  all_lines : (found : Option ℕ) (es : List Ended) → NotAfter (fold (sooner_in items groups) found es) found ×
      AllByRecursion (λ e. AllByRecursion
      (λ r. NotAfter (fold (sooner_in items groups) found es) (lack_line (items (item_for e.way r)) (groups e.way)))
      e.deliveries.items) es
  all_lines found [] = (itself found, tt)
  all_lines found (e ∷ es) =
      let here = shown_lines e.way found e.deliveries.items in
      let next = sooner_in items groups found e in
      let rest = all_lines next es in
      let whole = fold (sooner_in items groups) next es in (
        in_turn whole next found rest.0 here.0,
        (
          each (λ r h. in_turn whole next (lack_line (items (item_for e.way r)) (groups e.way)) rest.0 h)
              e.deliveries.items here.1,
          rest.1,
        ),
      )

-- one more of what is gone through
pub folded_on : {A X : Type 0} (f : A → X → A) (a found : A) (xs : List X) (i : ℕ) (d : X) → i < length xs →
    found ≡ fold f a (take i xs) → f found (get_or xs i d) ≡ fold f a (take (i + 1) xs)
folded_on f a found xs i d inside so_far = ap (λ b. f b (get_or xs i d)) so_far ∙
    sym (ap (fold f a) (take_more xs i d inside) ∙ fold-append f a (take i xs) (get_or xs i d ∷ []))

pub all_folded : {A X : Type 0} (f : A → X → A) (a found : A) (xs : List X) (i : ℕ) → length xs ≤ i →
    found ≡ fold f a (take i xs) → found ≡ fold f a xs
all_folded f a found xs i past so_far = so_far ∙ ap (fold f a) (take_all i xs past)

-- no line of a lack in a segment's group stands before this
abbrev Shown : Option ℕ → List Known → Known → Type 0
Shown line group other = AllByRecursion (λ p. NotAfter line (lack_line (item_found p group) (group_found group)))
    other.deliveries

mapped : {X Y : Type 0} (P : Y → Type 0) (f : X → Y) (xs : List X) → AllByRecursion (λ x. P (f x)) xs →
    AllByRecursion P (map f xs)
mapped P f [] all = tt
mapped P f (x ∷ xs) all = (all.0, mapped P f xs all.1)

-- the lines that the code compares are those of the lists
shown_of : (items : Item → Option Mark) (groups : Way → Option Group) (all : List Known) (line : Option ℕ)
    (es : List Ended) → Marked items groups all →
    AllByRecursion (λ e. AllByRecursion (λ r. NotAfter line (lack_line (items (item_for e.way r)) (groups e.way)))
    e.deliveries.items) es → AllByRecursion (λ one. Shown line (filter (goes_with one) all) one) (map ended_shown es)
shown_of items groups all line es marked following =
    mapped _ ended_shown es
    (each (λ e h. mapped _ ranked_shown e.deliveries.items
    (each (λ r k. subst (λ o. NotAfter line o) (λ i. lack_line (marked.of_items e.way r i) (marked.of_groups e.way i))
    k) e.deliveries.items h)) es following)

-- what an item that one segment has and another has not tells
lack_reached : (mark : Option Mark) (group : Option Group) (one other : Known) → Reaches (lacking mark group) one.line →
    OnlyBy mark true other.member → ((m : ℕ) → (one.member ≡ m → ⊥) → Reaches (other_than m group) one.line) →
    (one.member ≡ other.member → ⊥) → Reaches (lack_line mark group) one.line
lack_reached None group one other lacks only parted differ = absurd cc
lack_reached (Some mark) group one other lacks only parted differ =
    elim mark.more_members as
    (λ t. mark.more_members ≡ t →
    Reaches (cond t (lacking (Some mark) group) (other_than mark.member group)) one.line) [
      | true ↦ λ e. lacks
      | false ↦ λ e. parted mark.member (λ is. differ (is ∙ sym (only e refl)))
    ] refl

no_lack_before : (line first : Option ℕ) (at : ℕ) → is_before at line ≡ true → NotAfter line first →
    Reaches first at → ⊥
no_lack_before line None at front following reaches = reaches
no_lack_before None (Some first) at front following reaches = following
no_lack_before (Some line) (Some first) at front following reaches =
    let below : at < line = grind (arith, nat_tests) in
    omega (arith, following, reaches)

same_self : (bytes : List ℕ) → bytes_eq bytes bytes ≡ true
same_self [] = refl
same_self (byte ∷ bytes) = let e : (byte == byte) ≡ true = grind (arith, nat_tests) in rw e (same_self bytes)

pub content_self : (e : Entry) → same_content e e ≡ true
content_self e = let p : (e.peer == e.peer) ≡ true = grind (arith, nat_tests) in rw p (same_self e.body)

item_self : (p : Placed) → same_item p p ≡ true
item_self p = let e : (p.place == p.place) ≡ true = grind (arith, nat_tests) in rw (content_self p.entry) e

-- each delivery is in its segment
has_own : (ds front : List Placed) (other : Known) → other.deliveries ≡ front ++ ds →
    AllByRecursion (λ p. has p other ≡ true) ds
has_own [] front other e = tt
has_own (d ∷ ds) front other e =
    (rw e (at front), has_own ds (front ++ d ∷ []) other (e ∙ sym (append_assoc front (d ∷ []) ds)))
  where
    at : (xs : List Placed) → list_any (same_item d) (xs ++ d ∷ ds) ≡ true
    at [] = rw (item_self d) refl
    at (x ∷ xs) = elim (same_item d x) as (λ t. (t || list_any (same_item d) (xs ++ d ∷ ds)) ≡ true)
        [ true ↦ refl | false ↦ at xs ]

-- a segment that has an item has more of its content than the item's place
enough : (one : Known) (p : Placed) → IsRanked one → has p one ≡ true → exceeds (entries_in one) p ≡ false
enough one p ranked there = of_some one.deliveries ranked there
  where
    below : (m n : ℕ) → m < n → (m == n) ≡ false
    below m n h = grind (arith, nat_tests)

    of_same : (d : Placed) → same_item p d ≡ true → d.place < count_by (same_content d.entry) (entries_in one) →
        exceeds (entries_in one) p ≡ false
    of_same d e less =
        let parts = both (same_content p.entry d.entry) (p.place == d.place) e in
        let said = both (p.entry.peer == d.entry.peer) (bytes_eq p.entry.body d.entry.body) parts.0 in
        let q = eqb-true p.entry.peer d.entry.peer said.0 in
        let b = same_bytes p.entry.body d.entry.body said.1 in
        let at = eqb-true p.place d.place parts.1 in
        let counts : count_by (same_content p.entry) (entries_in one) ≡
        count_by (same_content d.entry) (entries_in one) = λ i.
        count_by (λ x. (q i == x.peer) && bytes_eq (b i) x.body) (entries_in one) in
        below p.place (count_by (same_content p.entry) (entries_in one)) (rw (at, counts) less)

    of_some : (ds : List Placed) →
        AllByRecursion (λ placed. placed.place < count_by (same_content placed.entry) (entries_in one)) ds →
        list_any (same_item p) ds ≡ true → exceeds (entries_in one) p ≡ false
    of_some [] all h = absurd cc
    of_some (d ∷ ds) all h = elim (same_item p d) as (λ t. same_item p d ≡ t → (t || list_any (same_item p) ds) ≡ true →
        exceeds (entries_in one) p ≡ false) [
          | true ↦ λ e k. of_same d e all.0
          | false ↦ λ e k. of_some ds all.1 k
        ] refl h

none_kept : {X : Type 0} (q : X → Bool) (xs : List X) → AllByRecursion (λ x. q x ≡ false) xs → filter q xs ≡ []
none_kept q [] all = refl
none_kept q (x ∷ xs) all = rw all.0 (none_kept q xs all.1)

-- what is known of one segment in its group
record Stands (group : List Known) (one : Known) : Type 0 where
  lacks : (p : Placed) → has p one ≡ false → Reaches (lacking (item_found p group) (group_found group)) one.line
  parted : (m : ℕ) → (one.member ≡ m → ⊥) → Reaches (other_than m (group_found group)) one.line
  only : (p : Placed) → OnlyBy (item_found p group) (has p one) one.member

both_each : {X : Type 0} (P Q : X → Type 0) (xs : List X) → AllByRecursion P xs → AllByRecursion Q xs →
    AllByRecursion (λ x. P x × Q x) xs
both_each P Q [] a b = tt
both_each P Q (x ∷ xs) a b = ((a.0, b.0), both_each P Q xs a.1 b.1)

stand : (n : ℕ) (group : List Known) → Rises n group → AllByRecursion (Stands group) group
stand n group rises =
    each (λ one h. record { lacks = h.0.0; parted = h.0.1; only = h.1 }) group
    (both_each _ _ group (both_each _ _ group (for_any _ group (λ p. covered p n group rises))
    (for_any _ group (λ m. others m n group rises))) (for_any _ group (λ p. only_by p n group rises)))

parted_members : (m n : ℕ) → not (m == n) ≡ true → m ≡ n → ⊥
parted_members m n h e = grind (arith, nat_tests)

-- a segment before the line lacks nothing of one in its group
nothing_of : (line : Option ℕ) (group : List Known) (one other : Known) → is_before one.line line ≡ true →
    Stands group one → IsRanked one → Stands group other → Shown line group other → is_other one other ≡ true →
    lacks one other ≡ []
nothing_of line group one other front stands ranked there shown apart =
    ap (map (lines_of_lack one.line)) (none_kept (exceeds (entries_in one)) other.deliveries
    (each (λ p h. by_test p h.0 h.1 (has p one) refl) other.deliveries
    (both_each _ _ other.deliveries shown (has_own other.deliveries [] other refl))))
  where
    by_test : (p : Placed) → NotAfter line (lack_line (item_found p group) (group_found group)) → has p other ≡ true →
        (t : Bool) → has p one ≡ t → exceeds (entries_in one) p ≡ false
    by_test p following its true e = enough one p ranked e
    by_test p following its false e =
        absurd (no_lack_before line (lack_line (item_found p group) (group_found group)) one.line front following
        (lack_reached (item_found p group) (group_found group) one other (stands.lacks p e) (rw its at (there.only p))
        stands.parted (parted_members one.member other.member apart)))

nothing_of_all : (line : Option ℕ) (group : List Known) (one : Known) → is_before one.line line ≡ true →
    Stands group one → IsRanked one → (rest : List Known) →
    AllByRecursion (λ other. Stands group other × Shown line group other) rest → lacks_of_one one rest ≡ []
nothing_of_all line group one front stands ranked [] all = refl
nothing_of_all line group one front stands ranked (other ∷ rest) all =
    let more = nothing_of_all line group one front stands ranked rest all.1 in
    elim (is_other one other) as
    (λ t. is_other one other ≡ t →
    flat_map (lacks one) (cond t (other ∷ filter (is_other one) rest) (filter (is_other one) rest)) ≡ []) [
      | true ↦ λ e. rw (nothing_of line group one other front stands ranked all.0.0 all.0.1 e) more
      | false ↦ λ e. more
    ] refl

same_named : (m n : Name) → same_name m n ≡ true → m ≡ n
same_named start start e = refl
same_named start (in_view l k) e = absurd cc
same_named (in_view l k) start e = absurd cc
same_named (in_view l k) (in_view m n) e =
    let parts = both (l == m) (k == n) e in
    λ i. in_view (eqb-true l m parts.0 i) (eqb-true k n parts.1 i)

-- segments that go along are of one group
one_group : (all : List Known) (one other : Known) → goes_with one other ≡ true → filter (goes_with other) all ≡
    filter (goes_with one) all
one_group all one other e =
    let parts = both (same_name one.name other.name) (same_name one.next other.next) e in
    let p = same_named one.name other.name parts.0 in
    let q = same_named one.next other.next parts.1 in
    sym (λ i. filter (λ x. same_name (p i) x.name && same_name (q i) x.next) all)

goes_itself : (one : Known) → goes_with one one ≡ true
goes_itself one = rw (itself_named one.name, itself_named one.next) refl
  where
    itself_named : (n : Name) → same_name n n ≡ true
    itself_named start = refl
    itself_named (in_view l k) =
        let p : (l == l) ≡ true = grind (arith, nat_tests) in
        let q : (k == k) ≡ true = grind (arith, nat_tests) in
        rw (p, q) refl

raised : (m n : ℕ) (xs : List Known) → m ≤ n → Rises n xs → Rises m xs
raised m n [] le rises = tt
raised m n (x ∷ xs) le rises = (omega (arith, rises.0), rises.1)

rises_kept : (q : Known → Bool) (n : ℕ) (xs : List Known) → Rises n xs → Rises n (filter q xs)
rises_kept q n [] rises = tt
rises_kept q n (x ∷ xs) rises = elim (q x) as (λ t. Rises n (cond t (x ∷ filter q xs) (filter q xs))) [
  | true ↦ (rises.0, rises_kept q x.line xs rises.1)
  | false ↦ raised n x.line (filter q xs) (omega (arith, rises.0)) (rises_kept q x.line xs rises.1)
]

-- all segments before the line lack nothing
clear_of : (line : Option ℕ) (all : List Known) → IsInLine all →
    AllByRecursion (λ one. Shown line (filter (goes_with one) all) one) all → IsClear line all
clear_of line all in_line shown =
    each (λ one h front. nothing_of_all line (filter (goes_with one) all) one front (h.0.0 one (goes_itself one)) h.0.1
    (filter (goes_with one) all) (h.1 one)) all
    (both_each _ _ all (both_each _ _ all (for_any _ all stands_with) in_line.ranked)
    (for_any _ all (λ one. each (λ o _. group_of one) all in_line.ranked)))
  where
    stands_with : (one : Known) → AllByRecursion (λ x. goes_with one x ≡ true → Stands (filter (goes_with one) all) x)
        all
    stands_with one = of_kept _ (goes_with one) all
        (stand 0 (filter (goes_with one) all) (rises_kept (goes_with one) 0 all in_line.rises))

    group_of : (one : Known) →
        AllByRecursion (λ other. Stands (filter (goes_with one) all) other ×
        Shown line (filter (goes_with one) all) other) (filter (goes_with one) all)
    group_of one =
        both_each _ _ (filter (goes_with one) all)
        (stand 0 (filter (goes_with one) all) (rises_kept (goes_with one) 0 all in_line.rises))
        (kept_of _ (goes_with one) all
        (each (λ other s e. subst (λ g. Shown line g other) (one_group all one other e) s) all shown))

-- what is found by the marks of all segments
pub all_clear : (items : Item → Option Mark) (groups : Way → Option Group) (es : List Ended) (line : Option ℕ) →
    IsInLine (map ended_shown es) → Marked items groups (map ended_shown es) →
    line ≡ fold (sooner_in items groups) None es → IsClear line (map ended_shown es)
all_clear items groups es line in_line marked e =
    rw e (clear_of (fold (sooner_in items groups) None es) (map ended_shown es) in_line
    (shown_of items groups (map ended_shown es) (fold (sooner_in items groups) None es) es marked
    (all_lines items groups None es).1))

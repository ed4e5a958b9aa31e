-- The marks of the segments, one more at a time.
use Rattle.std.proofs.Common.{◌≡◌, ℕ, ◌+◌, ◌<◌, ◌≤◌, Bool, true, false, cond, List, [], ◌∷◌, Option, Some, None, length}
use Rattle.std.proofs.Common.{take, drop, get_or, suc, refl, sym, ap, ◌∙◌, subst, arith, drop-cons}
use Rattle.std.specs.Prelude.{◌&&◌, ◌||◌, ◌==◌, map, filter}
use Rattle.std.specs.Option.{option_eq}
use Rattle.std.specs.HashMap as hash
use Rattle.std.specs.HashMap.{HashMap}
use Rattle.std.specs.List.{list_any}
use Rattle.std.proofs.lemmas.Bool.{eqb-true}
use Rattle.std.proofs.lemmas.Bool.Decides.{nat_tests}
use Rattle.std.proofs.lemmas.List.{drop_all, map_more, take_all}
use Rattle.std.proofs.lemmas.List.Folds.{list_any-append}
use Rattle.audit_mean.specs.Segment.{same_name}
use Rattle.audit_judge.specs.Clashes.{same_view}
use Rattle.audit_judge.specs.Entries.{name_shown}
use Rattle.audit_judge.specs.Lacks.{Known, ended_shown, goes, ranked_shown, same_content_key, same_way}
use Rattle.audit_judge.specs.Marks.{Marked, group_found, item_for, item_found, group_with, mark_with, same_item}
use Rattle.audit_judge.specs.Marks.{same_item_key}
use Rattle.audit_judge.specs.declared.contents.Ranked.{Ranked}
use Rattle.audit_judge.specs.declared.ended.Ended.{Ended}
use Rattle.audit_judge.specs.declared.ended.Way.{Way}
use Rattle.audit_judge.specs.declared.marks.Item.{Item}
use Rattle.audit_judge.specs.declared.marks.Mark.{Mark}
use Rattle.audit_judge.specs.declared.marks.Group.{Group}
use Rattle.audit_judge.proofs.Agree.{same_views, turned}
use Rattle.audit_judge.proofs.Counts.{both}
use Rattle.audit_judge.proofs.Lacking.{front_marked}
use Rattle.audit_judge.proofs.Ranks.{same_on, turned_content}

pub one_way : (a b : Way) → same_way a b ≡ true → a ≡ b
one_way a b e =
    let parts = both (option_eq same_view a.from b.from) (same_view a.to b.to) e in
    let ends = both (a.to.0 == b.to.0) (a.to.1 == b.to.1) parts.1 in
    let p = same_views a.from b.from parts.0 in
    let l = eqb-true a.to.0 b.to.0 ends.0 in
    let m = eqb-true a.to.1 b.to.1 ends.1 in
    λ i. record { from = p i; to = (l i, m i) }

turned_view : (a b : Option (ℕ × ℕ)) → option_eq same_view a b ≡ same_name (name_shown b) (name_shown a)
turned_view None None = refl
turned_view None (Some y) = refl
turned_view (Some x) None = refl
turned_view (Some x) (Some y) = λ i. turned x.0 y.0 i && turned x.1 y.1 i

-- a segment goes a way where its own is the same
pub keyed : (x : Ended) (way : Way) → same_way x.way way ≡ goes way (ended_shown x)
keyed x way = λ i. turned_view x.way.from way.from i && (turned x.way.to.0 way.to.0 i && turned x.way.to.1 way.to.1 i)

item_on : (a b q : Item) → same_item_key a b ≡ true → same_item_key a q ≡ same_item_key b q
item_on a b q e =
    let ways = both (same_way a.way b.way) (same_content_key a.content b.content && a.place == b.place) e in
    let parts = both (same_content_key a.content b.content) (a.place == b.place) ways.1 in
    let w = one_way a.way b.way ways.0 in
    let c = same_on a.content b.content q.content parts.0 in
    let p = eqb-true a.place b.place parts.1 in
    λ i. same_way (w i) q.way && (c i && p i == q.place)

-- a map answers the same for items that are the same
pub item_answers : {X S : Type 0} (m : HashMap Item X S) (a b : Item) → same_item_key a b ≡ true →
    hash.get same_item_key m a ≡ hash.get same_item_key m b
item_answers m a b e = λ i. hash.get_by (λ q. item_on a b q e i) m

-- two deliveries are one item where their keys are the same
item_keyed : (w way : Way) (d r : Ranked) → same_item_key (item_for w d) (item_for way r) ≡
    (same_way w way && same_item (ranked_shown r) (ranked_shown d))
item_keyed w way d r = λ i. same_way w way && (sym (turned_content r.entry d.entry) i && turned d.place r.place i)

-- marks with those of some deliveries of one more segment
abbrev pub IsMarkedBy : (old new : Item → Option Mark) → Option Group → Ended → List Ranked → Type 0
IsMarkedBy old new following one done = (way : Way) (r : Ranked) →
    new (item_for way r) ≡ cond (same_way one.way way && list_any (same_item (ranked_shown r)) (map ranked_shown done))
    (Some (mark_with (old (item_for way r)) following one.member one.line)) (old (item_for way r))

twice : (mark : Option Mark) (following : Option Group) (member line : ℕ) →
    mark_with (Some (mark_with mark following member line)) following member line ≡ mark_with mark following member line
twice mark following member line =
    let same : (line == line) ≡ true = grind (arith, nat_tests) in
    let guarded : ((mark_with mark following member line).front == line) ≡ true =
    ap (λ n. n == line) (front_marked mark following member line) ∙ same in
    rw guarded refl

pub marked_on : (old f g : Item → Option Mark) (following : Option Group) (one : Ended) (ds : List Ranked) (j : ℕ)
    (d : Ranked) (x : Item) (mark : Mark) → j < length ds → ((a b : Item) → same_item_key a b ≡ true → f a ≡ f b) →
    IsMarkedBy old f following one (take j ds) → x ≡ item_for one.way (get_or ds j d) →
    mark ≡ mark_with (f x) following one.member one.line →
    ((q : Item) → g q ≡ cond (same_item_key x q) (Some mark) (f q)) →
    IsMarkedBy old g following one (take (j + 1) ds)
marked_on old f g following one ds j d x mark inside steady so_far x_is mark_is updates way r =
    updates (item_for way r)
    ∙ (λ i. cond (same_item_key x (item_for way r)) (Some (mark_is i)) (f (item_for way r)))
    ∙ (λ i. cond (same_item_key x (item_for way r)) (Some (mark_with (f x) following one.member one.line))
    (so_far way r i))
    ∙ by_tests (same_way one.way way) there here keys (so_far way r)
    ∙ (λ i. cond (same_way one.way way && sym any_more i) (Some new) (old (item_for way r)))
  where
    now : Ranked
    now = get_or ds j d

    there : Bool
    there = list_any (same_item (ranked_shown r)) (map ranked_shown (take j ds))

    here : Bool
    here = same_item (ranked_shown r) (ranked_shown now)

    new : Mark
    new = mark_with (old (item_for way r)) following one.member one.line

    keys : same_item_key x (item_for way r) ≡ (same_way one.way way && here)
    keys = ap (λ k. same_item_key k (item_for way r)) x_is ∙ item_keyed one.way way now r

    any_more : list_any (same_item (ranked_shown r)) (map ranked_shown (take (j + 1) ds)) ≡ (there || (here || false))
    any_more = ap (list_any (same_item (ranked_shown r))) (map_more ranked_shown ds j d inside) ∙
        list_any-append (same_item (ranked_shown r)) (map ranked_shown (take j ds)) (ranked_shown now ∷ [])

    by_tests : (a l s : Bool) → same_item_key x (item_for way r) ≡ (a && s) →
        f (item_for way r) ≡ cond (a && l) (Some new) (old (item_for way r)) →
        cond (same_item_key x (item_for way r)) (Some (mark_with (f x) following one.member one.line))
        (cond (a && l) (Some new) (old (item_for way r))) ≡
        cond (a && (l || (s || false))) (Some new) (old (item_for way r))
    by_tests false l s k e = rw k refl
    by_tests true true true k e =
        rw (k, steady x (item_for way r) k, e) (ap Some (twice (old (item_for way r)) following one.member one.line))
    by_tests true true false k e = rw k refl
    by_tests true false true k e = rw (k, steady x (item_for way r) k, e) refl
    by_tests true false false k e = rw k refl

pub all_marked : (old f : Item → Option Mark) (following : Option Group) (one : Ended) (ds : List Ranked) (j : ℕ) →
    length ds ≤ j → IsMarkedBy old f following one (take j ds) → IsMarkedBy old f following one ds
all_marked old f following one ds j past so_far = subst (IsMarkedBy old f following one) (take_all j ds past) so_far

-- the segments with one more before them
pub one_more : (items_old items_new : Item → Option Mark) (groups_old groups_new : Way → Option Group) (one : Ended)
    (rest : List Known) (following : Option Group) (group : Group) → Marked items_old groups_old rest →
    following ≡ groups_old one.way → group ≡ group_with following one.member one.line →
    IsMarkedBy items_old items_new following one one.deliveries.items →
    ((q : Way) → groups_new q ≡ cond (same_way one.way q) (Some group) (groups_old q)) →
    Marked items_new groups_new (ended_shown one ∷ rest)
one_more items_old items_new groups_old groups_new one rest following group marked_so_far after_is group_is marks
    updates = record {
      of_items = λ way r. marks way r ∙ item_by way r (same_way one.way way) refl ∙
          (λ i. item_found (ranked_shown r)
          (cond (keyed one way i) (ended_shown one ∷ filter (goes way) rest) (filter (goes way) rest)));
      of_groups = λ way. updates way ∙ group_by way (same_way one.way way) refl ∙
          (λ i. group_found (cond (keyed one way i) (ended_shown one ∷ filter (goes way) rest)
          (filter (goes way) rest)));
    }
  where
    found : (way : Way) → same_way one.way way ≡ true → following ≡ group_found (filter (goes way) rest)
    found way same = after_is ∙ marked_so_far.of_groups one.way ∙
        ap (λ w. group_found (filter (goes w) rest)) (one_way one.way way same)

    group_by : (way : Way) (t : Bool) → same_way one.way way ≡ t → cond t (Some group) (groups_old way) ≡
        group_found (cond t (ended_shown one ∷ filter (goes way) rest) (filter (goes way) rest))
    group_by way true same = ap Some (group_is ∙ ap (λ g. group_with g one.member one.line) (found way same))
    group_by way false same = marked_so_far.of_groups way

    item_by : (way : Way) (r : Ranked) (t : Bool) → same_way one.way way ≡ t →
        cond (t && list_any (same_item (ranked_shown r)) (map ranked_shown one.deliveries.items))
        (Some (mark_with (items_old (item_for way r)) following one.member one.line)) (items_old (item_for way r)) ≡
        item_found (ranked_shown r) (cond t (ended_shown one ∷ filter (goes way) rest) (filter (goes way) rest))
    item_by way r true same = λ i. cond (list_any (same_item (ranked_shown r)) (map ranked_shown one.deliveries.items))
        (Some (mark_with (marked_so_far.of_items way r i) (found way same i) one.member one.line))
        (marked_so_far.of_items way r i)
    item_by way r false same = marked_so_far.of_items way r

-- of the segments from the last on, one more
pub marks_on : (items_old items_new : Item → Option Mark) (groups_old groups_new : Way → Option Group)
    (ended : List Ended) (n i : ℕ) (d one : Ended) (following : Option Group) (group : Group) → n ≡ suc i →
    i < length ended → one ≡ get_or ended i d → Marked items_old groups_old (map ended_shown (drop n ended)) →
    following ≡ groups_old one.way → group ≡ group_with following one.member one.line →
    IsMarkedBy items_old items_new following one one.deliveries.items →
    ((q : Way) → groups_new q ≡ cond (same_way one.way q) (Some group) (groups_old q)) →
    Marked items_new groups_new (map ended_shown (drop i ended))
marks_on items_old items_new groups_old groups_new ended n i d one following group next inside is so_far after_is
    group_is
    marks updates =
    subst (λ es. Marked items_new groups_new (map ended_shown es))
    (sym (drop-cons ended i d inside ∙ ap (λ e. e ∷ drop (suc i) ended) (sym is)))
    (one_more items_old items_new groups_old groups_new one (map ended_shown (drop (suc i) ended)) following group
    (subst (λ m. Marked items_old groups_old (map ended_shown (drop m ended))) next so_far) after_is group_is marks
    updates)

-- at first none is marked
pub none_marked : (items : Item → Option Mark) (groups : Way → Option Group) (ended : List Ended) (n : ℕ) →
    n ≡ length ended → ((q : Item) → items q ≡ None) → ((q : Way) → groups q ≡ None) →
    Marked items groups (map ended_shown (drop n ended))
none_marked items groups ended n is no_items no_groups =
    rw (drop_all n ended (omega (arith, is))) record {
      of_items = λ way r. no_items (item_for way r);
      of_groups = λ way.
          no_groups way;
    }

-- What is seen at a place, and with which deliveries it disagrees.
use Rattle.std.specs.Prelude.{bytes_eq}
use Rattle.std.specs.Option.{option_eq}
use Rattle.std.specs.List.{list_any}
use Rattle.std.proofs.lemmas.Bool.{eqb-true}
use Rattle.std.proofs.lemmas.Bool.Decides.{nat_tests}
use Rattle.std.proofs.lemmas.List.Folds.{list_any-append}
use Rattle.audit_mean.specs.Segment.{Name, start, in_view, Entry, same_name, same_content}
use Rattle.audit_mean.specs.Clash.{Lists, of_each_peer, whole, Placed, same_source, same_place, clashes, clashes_after}
use Rattle.audit_mean.specs.Clash.{lines_at}
use Rattle.audit_judge.specs.Entries.{entry_shown}
use Rattle.audit_judge.specs.Places.{placed_shown, source_of}
use Rattle.audit_judge.specs.Clashes.{view_of, place_key, same_view, same_place_key, disagrees, seen_with, IsInOrder}
use Rattle.audit_judge.specs.declared.segments.Entry as code
use Rattle.audit_judge.specs.declared.places.Placed as coded
use Rattle.audit_judge.specs.declared.clashes.PlaceKey.{PlaceKey}
use Rattle.audit_judge.specs.declared.clashes.Seen.{Seen}
use Rattle.audit_judge.proofs.Counts.{both, same_option}
use Rattle.audit_judge.proofs.Rising.{still_none, first_is_least}
use Rattle.audit_mean.specs.Finding.{least}
use Rattle.std.proofs.Common.{◌≡◌, ℕ, suc, ◌+◌, ◌<◌, ◌≤◌, Bool, true, false, cond, List, [], ◌∷◌, ◌++◌, length, take}
use Rattle.std.proofs.Common.{drop, get_or, Option, Some, None, refl, sym, ap, ◌∙◌, arith, add-one, drop-cons}
use Rattle.std.proofs.lemmas.List.{drop_all, map-append, map_more, take-append-drop, take_all}
use Rattle.std.specs.Prelude.{◌&&◌, ◌||◌, not, ◌==◌, nat_eq, map, option_map}
use Rattle.std.specs.List.{find}

-- how three things compare by a test that tells equals: where one equals the second, the third equals both or neither
pub record Triangle (a b c : Bool) : Type 0 where
  pub from_first : a ≡ true → b ≡ c
  pub from_second : b ≡ true → a ≡ c

or_true : (a : Bool) → (a || true) ≡ true
or_true true = refl
or_true false = refl

or_false : (b : Bool) → (b || false) ≡ b
or_false true = refl
or_false false = refl

and_false : (a : Bool) → (a && false) ≡ false
and_false true = refl
and_false false = refl

covered : (b' c c' : Bool) → b' ≡ c' → (not b' || (not c && not c')) ≡ not b'
covered false c c' same = refl
covered true c c' same = rw (← same) (and_false (not c))

covered_first : (b c b' c' : Bool) → b' ≡ c' → (b ≡ true → false ≡ c) → ((not b && not b') || (not c && not c')) ≡
    not b'
covered_first false c b' c' same f = covered b' c c' same
covered_first true c b' c' same f = rw (← (f refl), ← same) refl

covered_same : (b mc a' b' c' : Bool) → (b' ≡ true → a' ≡ c') → ((not b && (mc || not b')) || (not b && not c')) ≡
    (not b && ((mc || not a') || not b'))
covered_same true mc a' b' c' f = refl
covered_same false true a' b' c' f = refl
covered_same false false a' false c' f = sym (or_true (not a'))
covered_same false false a' true c' f = ap not (sym (f refl)) ∙ sym (or_false (not a'))

-- if a delivery doesn't disagree with those seen, then one more disagrees with it or them as it does with those seen
-- and it
either : (mm mc a b c a' b' c' : Bool) → Triangle a b c → Triangle a' b' c' → ((mm || not a) && (mc || not a')) ≡
    false → (((mm || not b) && (mc || not b')) || (not c && not c')) ≡
    (((mm || not a) || not b) && ((mc || not a') || not b'))
either true true a b c a' b' c' t t' e = absurd cc
either true false a b c false b' c' t t' e = absurd cc
either true false a b c true b' c' t t' e = covered b' c c' (t'.from_first refl)
either false true false b c a' b' c' t t' e = absurd cc
either false false false b c false b' c' t t' e = absurd cc
either false false false b c true b' c' t t' e = covered_first b c b' c' (t'.from_first refl) t.from_second
either false mc true b c a' b' c' t t' e = rw (← (t.from_first refl)) (covered_same b mc a' b' c' t'.from_second)

pub same_bytes : (xs ys : List ℕ) → bytes_eq xs ys ≡ true → xs ≡ ys
same_bytes [] [] e = refl
same_bytes [] (y ∷ ys) e = absurd cc
same_bytes (x ∷ xs) [] e = absurd cc
same_bytes (x ∷ xs) (y ∷ ys) e =
    let parts = both (x == y) (bytes_eq xs ys) e in
    λ i. eqb-true x y parts.0 i ∷ same_bytes xs ys parts.1 i

pub turned : (m n : ℕ) → (m == n) ≡ (n == m)
turned m n = grind (arith, nat_tests)

pub turned_bytes : (xs ys : List ℕ) → bytes_eq xs ys ≡ bytes_eq ys xs
turned_bytes [] [] = refl
turned_bytes [] (y ∷ ys) = refl
turned_bytes (x ∷ xs) [] = refl
turned_bytes (x ∷ xs) (y ∷ ys) = rw (turned x y, turned_bytes xs ys) refl

of_members : (x y z : ℕ) → Triangle (x == y) (x == z) (y == z)
of_members x y z = record {
  from_first = λ e. ap (λ n. n == z) (eqb-true x y e);
  from_second = λ e. turned x y ∙ ap (λ n. y == n) (eqb-true x z e);
}

of_contents : (x y z : Entry) → Triangle (same_content x y) (same_content x z) (same_content y z)
of_contents x y z = record {
  from_first = λ e.
      let parts = both (x.peer == y.peer) (bytes_eq x.body y.body) e in
      λ i. (eqb-true x.peer y.peer parts.0 i == z.peer) && bytes_eq (same_bytes x.body y.body parts.1 i) z.body;
  from_second = λ e.
      let parts = both (x.peer == z.peer) (bytes_eq x.body z.body) e in
      rw (turned x.peer y.peer, turned_bytes x.body y.body)
      (λ i. (y.peer == eqb-true x.peer z.peer parts.0 i) && bytes_eq y.body (same_bytes x.body z.body parts.1 i));
}

-- deliveries among which no two members disagree, and what is seen of them at each place
pub record Agreed (lists : Lists) (seen : PlaceKey → Option Seen) (all : List Placed) : Type 0 where
  pub none : clashes_after lists [] all ≡ []
  pub known : (e : Placed) → list_any (clashes lists e) all ≡ disagrees (seen (place_key lists e)) e.entry

keyed : (lists : Lists) (a b : Placed) → same_place_key (place_key lists a) (place_key lists b) ≡ same_place lists a b
keyed lists a b = named a.entry.segment.name b.entry.segment.name lists
  where
    named : (m n : Name) (lists : Lists) →
        (option_eq same_view (view_of m) (view_of n) &&
        (option_eq nat_eq (source_of lists a.entry) (source_of lists b.entry) && a.place == b.place)) ≡
        (same_name m n && (same_source lists a.entry b.entry && a.place == b.place))
    named start start of_each_peer = refl
    named start start whole = refl
    named start (in_view l k) lists = refl
    named (in_view l k) start lists = refl
    named (in_view l k) (in_view m n) of_each_peer = refl
    named (in_view l k) (in_view m n) whole = refl

pub same_views : (a b : Option (ℕ × ℕ)) → option_eq same_view a b ≡ true → a ≡ b
same_views None None e = refl
same_views None (Some y) e = absurd cc
same_views (Some x) None e = absurd cc
same_views (Some x) (Some y) e =
    let parts = both (x.0 == y.0) (x.1 == y.1) e in
    λ i. Some (eqb-true x.0 y.0 parts.0 i, eqb-true x.1 y.1 parts.1 i)

-- keys that are the same are one
one_key : (a b : PlaceKey) → same_place_key a b ≡ true → a ≡ b
one_key a b e =
    let views = both (option_eq same_view a.view b.view) _ e in
    let peers = both (option_eq nat_eq a.peer b.peer) _ views.1 in
    let p = same_views a.view b.view views.0 in
    let q = same_option a.peer b.peer peers.0 in
    let r = eqb-true a.place b.place peers.1 in
    λ i. record { view = p i; peer = q i; place = r i }

-- at the place of one more delivery that doesn't disagree
seen_more : (seen : Option Seen) (x : code.Entry) (e : Entry) → disagrees seen (entry_shown x) ≡ false →
    (disagrees seen e || (not (x.member == e.member) && not (same_content (entry_shown x) e))) ≡
    disagrees (Some (seen_with seen x)) e
seen_more None x e agrees = refl
seen_more (Some s) x e agrees =
    either s.more_members s.more_contents (s.first.member == x.member) (s.first.member == e.member)
    (x.member == e.member)
    (same_content (entry_shown s.first) (entry_shown x)) (same_content (entry_shown s.first) e)
    (same_content (entry_shown x) e)
    (of_members s.first.member x.member e.member) (of_contents (entry_shown s.first) (entry_shown x) e) agrees

-- one more delivery that doesn't disagree
pub agrees_on : (lists : Lists) (f g : PlaceKey → Option Seen) (all : List Placed) (x : coded.Placed) →
    Agreed lists f all → disagrees (f (place_key lists (placed_shown x))) (entry_shown x.entry) ≡ false →
    ((q : PlaceKey) → g q ≡ cond (same_place_key (place_key lists (placed_shown x)) q)
    (Some (seen_with (f (place_key lists (placed_shown x))) x.entry)) (f q)) →
    Agreed lists g (all ++ placed_shown x ∷ [])
agrees_on lists f g all x agreed agrees updates = record {
  none = still_none lists all (placed_shown x) agreed.none (agreed.known (placed_shown x) ∙ agrees);
  known = λ e.
      rw (
        list_any-append (clashes lists e) all (placed_shown x ∷ []),
        or_false (clashes lists e (placed_shown x)),
        agreed.known e,
        updates (place_key lists e),
      )
      (by_test e (same_place lists (placed_shown x) e) (keyed lists (placed_shown x) e));
}
  where
    by_test : (e : Placed) (t : Bool) → same_place_key (place_key lists (placed_shown x)) (place_key lists e) ≡ t →
        (disagrees (f (place_key lists e)) e.entry ||
        (t && (not (x.entry.member == e.entry.member) && not (same_content (entry_shown x.entry) e.entry)))) ≡
        disagrees (cond (same_place_key (place_key lists (placed_shown x)) (place_key lists e))
        (Some (seen_with (f (place_key lists (placed_shown x))) x.entry)) (f (place_key lists e))) e.entry
    by_test e true same =
        let one = one_key (place_key lists (placed_shown x)) (place_key lists e) same in
        rw (same, ← one) (seen_more (f (place_key lists (placed_shown x))) x.entry e.entry agrees)
    by_test e false same = rw same (or_false (disagrees (f (place_key lists e)) e.entry))

-- at first nothing is seen
pub nothing_seen : (lists : Lists) (f : PlaceKey → Option Seen) → ((q : PlaceKey) → f q ≡ None) → Agreed lists f []
nothing_seen lists f none = record { none = refl; known = λ e. rw (none (place_key lists e)) refl }

-- one more of the deliveries that are gone through
pub agrees_further : (lists : Lists) (f g : PlaceKey → Option Seen) (placed : List coded.Placed) (i : ℕ)
    (d : coded.Placed) (key : PlaceKey) (seen : Option Seen) (s : Seen) → i < length placed →
    Agreed lists f (map placed_shown (take i placed)) → key ≡ place_key lists (placed_shown (get_or placed i d)) →
    seen ≡ f key → false ≡ disagrees seen (entry_shown (get_or placed i d).entry) →
    s ≡ seen_with seen (get_or placed i d).entry → ((q : PlaceKey) → g q ≡ cond (same_place_key key q) (Some s) (f q)) →
    Agreed lists g (map placed_shown (take (i + 1) placed))
agrees_further lists f g placed i d key seen s inside agreed key_is seen_is agrees s_is updates =
    let x : coded.Placed = get_or placed i d in
    let known : seen ≡ f (place_key lists (placed_shown x)) = seen_is ∙ ap f key_is in
    let now : s ≡ seen_with (f (place_key lists (placed_shown x))) x.entry = s_is ∙
    ap (λ o. seen_with o x.entry) known in
    rw (map_more placed_shown placed i d inside)
    (agrees_on lists f g (map placed_shown (take i placed)) x agreed
    (ap (λ o. disagrees o (entry_shown x.entry)) (sym known) ∙ sym agrees)
    (λ q. updates q ∙ (λ j. cond (same_place_key (key_is j) q) (Some (now j)) (f q))))

whole_at : (placed : List coded.Placed) (i : ℕ) (d : coded.Placed) → i < length placed →
    map placed_shown placed ≡ map placed_shown (take i placed) ++ placed_shown (get_or placed i d) ∷
    map placed_shown (drop (suc i) placed)
whole_at placed i d inside =
    ap (map placed_shown) (sym (take-append-drop i placed)) ∙ map-append placed_shown (take i placed) (drop i placed) ∙
    rw (drop-cons placed i d) refl

-- a delivery that disagrees makes the least clash
pub clash_found : (lists : Lists) (f : PlaceKey → Option Seen) (placed : List coded.Placed) (i : ℕ) (d : coded.Placed)
    (key : PlaceKey) (seen : Option Seen) (front : List coded.Placed) → i < length placed →
    IsInOrder 0 (map placed_shown placed) → Agreed lists f (map placed_shown (take i placed)) →
    key ≡ place_key lists (placed_shown (get_or placed i d)) → seen ≡ f key →
    true ≡ disagrees seen (entry_shown (get_or placed i d).entry) → front ≡ take i placed →
    option_map (lines_at (placed_shown (get_or placed i d)))
    (find (clashes lists (placed_shown (get_or placed i d))) (map placed_shown front)) ≡
    least (clashes_after lists [] (map placed_shown placed))
clash_found lists f placed i d key seen front inside order agreed key_is seen_is against front_is =
    let x : coded.Placed = get_or placed i d in
    let known : seen ≡ f (place_key lists (placed_shown x)) = seen_is ∙ ap f key_is in
    let whole = whole_at placed i d inside in
    let some : list_any (clashes lists (placed_shown x)) (map placed_shown (take i placed)) ≡ true =
    agreed.known (placed_shown x) ∙ ap (λ o. disagrees o (entry_shown x.entry)) (sym known) ∙ sym against in
    rw (front_is, whole) (first_is_least lists (map placed_shown (take i placed)) (placed_shown x)
    (map placed_shown (drop (suc i) placed)) (rw whole at order) agreed.none some)

-- no delivery disagrees
pub no_clash : (lists : Lists) (f : PlaceKey → Option Seen) (placed : List coded.Placed) (i : ℕ) → length placed ≤ i →
    Agreed lists f (map placed_shown (take i placed)) → None ≡ least (clashes_after lists [] (map placed_shown placed))
no_clash lists f placed i past agreed =
    sym (ap (λ xs. least (clashes_after lists [] (map placed_shown xs))) (sym (take_all i placed past)) ∙
    ap least agreed.none)

-- of a list that is gone through by an index, the first that passes
pub found_here : {X Y : Type 0} (p : Y → Bool) (f : X → Y) (xs : List X) (i : ℕ) (d : X) → i < length xs →
    p (f (get_or xs i d)) ≡ true → find p (map f (drop i xs)) ≡ Some (f (get_or xs i d))
found_here p f xs i d inside e = rw (drop-cons xs i d, e) refl

pub found_later : {X Y : Type 0} (p : Y → Bool) (f : X → Y) (xs : List X) (i : ℕ) (d : X) → i < length xs →
    p (f (get_or xs i d)) ≡ false → find p (map f (drop (i + 1) xs)) ≡ find p (map f (drop i xs))
found_later p f xs i d inside e = rw (drop-cons xs i d, e, add-one) refl

pub found_none : {X Y : Type 0} (p : Y → Bool) (f : X → Y) (xs : List X) (i : ℕ) → length xs ≤ i →
    find p (map f (drop i xs)) ≡ None
found_none p f xs i past = rw (drop_all i xs past) refl

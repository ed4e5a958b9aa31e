-- Deliveries counted list by list.
use Rattle.std.proofs.Common.{◌≡◌, ℕ, ◌+◌, ◌<◌, ◌≤◌, Bool, true, false, cond, List, [], ◌∷◌, ◌++◌, length, take, get_or}
use Rattle.std.proofs.Common.{Option, Some, None, refl, sym, ap, ◌∙◌, append_assoc, arith}
use Rattle.std.specs.Prelude.{◌&&◌, ◌==◌, nat_eq, map, count_by, unwrap_or}
use Rattle.std.specs.Option.{option_eq}
use Rattle.std.proofs.lemmas.Bool.{eqb-true}
use Rattle.std.proofs.lemmas.List.{append-nil, map-append, length-map, length-take, map_more, take_all}
use Rattle.std.proofs.lemmas.List.Sums.{fold-append, count_by-le-length}
use Rattle.audit_mean.specs.Segment.{Entry}
use Rattle.audit_mean.specs.Clash.{Lists, of_each_peer, whole, same_list, placed_after}
use Rattle.audit_judge.specs.Entries.{entry_shown}
use Rattle.audit_judge.specs.Places.{Lengthens, list_key, same_key, placed_shown}
use Rattle.audit_judge.specs.declared.segments.Entry as code
use Rattle.audit_judge.specs.declared.places.Placed as coded
use Rattle.audit_judge.specs.declared.places.ListKey.{ListKey}

pub both : (a b : Bool) → (a && b) ≡ true → (a ≡ true) × (b ≡ true)
both true b e = (refl, e)
both false b e = absurd cc

-- two deliveries are in one list where their keys are the same
keyed : (lists : Lists) (a b : Entry) → same_key (list_key lists a) (list_key lists b) ≡ same_list lists a b
keyed of_each_peer a b = refl
keyed whole a b = refl

pub same_option : (a b : Option ℕ) → option_eq nat_eq a b ≡ true → a ≡ b
same_option None None e = refl
same_option None (Some y) e = absurd cc
same_option (Some x) None e = absurd cc
same_option (Some x) (Some y) e = ap Some (eqb-true x y e)

-- keys that are the same are one
one_key : (a b : ListKey) → same_key a b ≡ true → a ≡ b
one_key a b e =
    let members = both (a.member == b.member) _ e in
    let begun = both (a.began == b.began) _ members.1 in
    let p = eqb-true a.member b.member members.0 in
    let q = eqb-true a.began b.began begun.0 in
    let r = same_option a.peer b.peer begun.1 in
    λ i. record { member = p i; began = q i; peer = r i }

pub count_more : (p : Entry → Bool) (xs : List Entry) (x : Entry) →
    count_by p (xs ++ x ∷ []) ≡ count_by p xs + cond (p x) 1 0
count_more p xs x = fold-append (λ a y. a + cond (p y) 1 0) 0 xs (x ∷ [])

-- with one more delivery its list is longer by one
pub counted_on : (lists : Lists) (f g : ListKey → Option ℕ) (before : List Entry) (x : Entry) →
    ((e : Entry) → unwrap_or (f (list_key lists e)) 0 ≡ count_by (λ b. same_list lists b e) before) →
    Lengthens f g (list_key lists x) → (e : Entry) → unwrap_or (g (list_key lists e)) 0 ≡
    count_by (λ b. same_list lists b e) (before ++ x ∷ [])
counted_on lists f g before x counted updates e =
    rw (count_more (λ b. same_list lists b e) before x, updates (list_key lists e), keyed lists x e)
    (by_test (same_list lists x e) (keyed lists x e))
  where
    by_test : (t : Bool) → same_key (list_key lists x) (list_key lists e) ≡ t →
        unwrap_or (cond t (Some (unwrap_or (f (list_key lists x)) 0 + 1)) (f (list_key lists e))) 0 ≡
        count_by (λ b. same_list lists b e) before + cond t 1 0
    by_test true same = ap (λ k. unwrap_or (f k) 0 + 1) (one_key _ _ same) ∙ ap (λ n. n + 1) (counted e)
    by_test false same = counted e ∙ omega arith

-- the places with one more delivery
pub placed_more : (lists : Lists) (before entries : List Entry) (x : Entry) →
    placed_after lists before (entries ++ x ∷ []) ≡ placed_after lists before entries ++
    record { entry = x; place = count_by (λ b. same_list lists b x) (before ++ entries) } ∷ []
placed_more lists before [] x = rw (append-nil before) refl
placed_more lists before (e ∷ entries) x =
    rw (placed_more lists (before ++ e ∷ []) entries x, append_assoc before (e ∷ []) entries) refl

-- the deliveries placed so far, and the lengths of the lists after them
pub record IsPlaced (lists : Lists) (lengths : ListKey → Option ℕ) (done : List coded.Placed) (entries : List Entry) :
    Type 0 where
  pub placed : map placed_shown done ≡ placed_after lists [] entries
  pub counted : (e : Entry) → unwrap_or (lengths (list_key lists e)) 0 ≡ count_by (λ b. same_list lists b e) entries

pub places_on : (lists : Lists) (f g : ListKey → Option ℕ) (done : List coded.Placed) (place : ℕ)
    (entries : List code.Entry) (i : ℕ) (entry : code.Entry) → i < length entries →
    IsPlaced lists f done (map entry_shown (take i entries)) →
    place ≡ unwrap_or (f (list_key lists (entry_shown (get_or entries i entry)))) 0 →
    Lengthens f g (list_key lists (entry_shown (get_or entries i entry))) →
    IsPlaced lists g (done ++ record { entry = get_or entries i entry; place = place } ∷ [])
    (map entry_shown (take (i + 1) entries))
places_on lists f g done place entries i entry inside so_far here longer =
    let x = entry_shown (get_or entries i entry) in
    let before = map entry_shown (take i entries) in
    rw (map_more entry_shown entries i entry inside) record {
      placed = map-append placed_shown done _ ∙
          rw (so_far.placed, here, so_far.counted x) (sym (placed_more lists [] before x));
      counted = counted_on lists f g before x so_far.counted longer;
    }

pub all_placed : (lists : Lists) (f : ListKey → Option ℕ) (done : List coded.Placed) (entries : List code.Entry)
    (i : ℕ) → length entries ≤ i → IsPlaced lists f done (map entry_shown (take i entries)) →
    map placed_shown done ≡ placed_after lists [] (map entry_shown entries)
all_placed lists f done entries i past so_far = so_far.placed ∙ ap (λ es. placed_after lists [] (map entry_shown es))
    (take_all i entries past)

-- no list is longer than there are deliveries, so its length is below the largest number
pub few : (lists : Lists) (f : ListKey → Option ℕ) (done : List coded.Placed) (entries : List code.Entry) (i : ℕ)
    (e : Entry) → i < length entries → length entries < 4294967296 →
    IsPlaced lists f done (map entry_shown (take i entries)) → unwrap_or (f (list_key lists e)) 0 < 4294967295
few lists f done entries i e inside small so_far =
    let most = count_by-le-length (λ b. same_list lists b e) (map entry_shown (take i entries)) in
    let mapped = length-map (take i entries) entry_shown in
    let taken = length-take i entries in
    let here = so_far.counted e in
    omega arith

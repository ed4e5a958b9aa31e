-- Deliveries counted content by content.
use Rattle.std.proofs.Common.{◌≡◌, ℕ, ◌+◌, ◌<◌, ◌≤◌, Bool, true, false, cond, List, [], ◌∷◌, ◌++◌, length, take, get_or}
use Rattle.std.proofs.Common.{Option, Some, refl, sym, ap, ◌∙◌, append_assoc, arith}
use Rattle.std.specs.Prelude.{◌&&◌, ◌==◌, map, count_by, unwrap_or, bytes_eq}
use Rattle.std.specs.HashMap as hash
use Rattle.std.specs.HashMap.{HashMap}
use Rattle.std.proofs.lemmas.Bool.{eqb-true}
use Rattle.std.proofs.lemmas.List.{append-nil, map-append, length-map, length-take, map_more, take_all}
use Rattle.std.proofs.lemmas.List.Sums.{count_by-le-length}
use Rattle.audit_mean.specs.Segment as spec
use Rattle.audit_mean.specs.Segment.{same_content}
use Rattle.audit_judge.specs.Entries.{entry_shown}
use Rattle.audit_judge.specs.Lacks.{Counts, OneMore, content_of, ranked_after, ranked_shown, same_content_key}
use Rattle.audit_judge.specs.declared.segments.Entry.{Entry}
use Rattle.audit_judge.specs.declared.contents.Content.{Content}
use Rattle.audit_judge.specs.declared.contents.Ranked.{Ranked}
use Rattle.audit_judge.proofs.Agree.{same_bytes, turned, turned_bytes}
use Rattle.audit_judge.proofs.Counts.{both, count_more}

pub same_on : (a b q : Content) → same_content_key a b ≡ true → same_content_key a q ≡ same_content_key b q
same_on a b q e =
    let parts = both (a.peer == b.peer) (bytes_eq a.body.now b.body.now) e in
    λ i. (eqb-true a.peer b.peer parts.0 i == q.peer) && bytes_eq (same_bytes a.body.now b.body.now parts.1 i)
    q.body.now

-- a map answers the same for contents that are the same
pub answers : {X S : Type 0} (m : HashMap Content X S) (a b : Content) → same_content_key a b ≡ true →
    hash.get same_content_key m a ≡ hash.get same_content_key m b
answers m a b e = λ i. hash.get_by (λ q. same_on a b q e i) m

pub turned_content : (e x : Entry) → same_content (entry_shown e) (entry_shown x) ≡
    same_content_key (content_of x) (content_of e)
turned_content e x = λ i. turned e.peer x.peer i && turned_bytes e.body.now x.body.now i

-- the counts with one more delivery
pub counts_on : (f g : Content → Option ℕ) (before : List spec.Entry) (x : Entry) →
    ((a b : Content) → same_content_key a b ≡ true → f a ≡ f b) → Counts f before → OneMore f g (content_of x) →
    Counts g (before ++ entry_shown x ∷ [])
counts_on f g before x steady counts more e =
    rw (count_more (same_content (entry_shown e)) before (entry_shown x), more (content_of e), turned_content e x)
    (by_test (same_content_key (content_of x) (content_of e)) refl)
  where
    by_test : (t : Bool) → same_content_key (content_of x) (content_of e) ≡ t →
        unwrap_or (cond t (Some (unwrap_or (f (content_of x)) 0 + 1)) (f (content_of e))) 0 ≡
        count_by (same_content (entry_shown e)) before + cond t 1 0
    by_test true same = ap (λ o. unwrap_or o 0 + 1) (steady (content_of x) (content_of e) same) ∙
        ap (λ n. n + 1) (counts e)
    by_test false same = counts e ∙ omega arith

ranked_more : (before entries : List spec.Entry) (x : spec.Entry) → ranked_after before (entries ++ x ∷ []) ≡
    ranked_after before entries ++ record { entry = x; place = count_by (same_content x) (before ++ entries) } ∷ []
ranked_more before [] x = rw (append-nil before) refl
ranked_more before (e ∷ entries) x = rw (ranked_more (before ++ e ∷ []) entries x, append_assoc before (e ∷ []) entries)
    refl

-- the deliveries ranked so far, and how often each content came
pub record IsRanked (counts : Content → Option ℕ) (done : List Ranked) (entries : List spec.Entry) : Type 0 where
  pub ranked : map ranked_shown done ≡ ranked_after [] entries
  pub counted : Counts counts entries

pub ranks_on : (f g : Content → Option ℕ) (done : List Ranked) (place : ℕ) (entries : List Entry) (i : ℕ)
    (entry : Entry) → i < length entries → ((a b : Content) → same_content_key a b ≡ true → f a ≡ f b) →
    IsRanked f done (map entry_shown (take i entries)) → place ≡ unwrap_or (f (content_of (get_or entries i entry))) 0 →
    OneMore f g (content_of (get_or entries i entry)) →
    IsRanked g (done ++ record { entry = get_or entries i entry; place = place } ∷ [])
    (map entry_shown (take (i + 1) entries))
ranks_on f g done place entries i entry inside steady so_far here more =
    let x = get_or entries i entry in
    let before = map entry_shown (take i entries) in
    rw (map_more entry_shown entries i entry inside) record {
      ranked = map-append ranked_shown done _ ∙
          rw (so_far.ranked, here, so_far.counted x) (sym (ranked_more [] before (entry_shown x)));
      counted = counts_on f g before x steady so_far.counted more;
    }

pub all_ranked : (f : Content → Option ℕ) (done : List Ranked) (entries : List Entry) (i : ℕ) → length entries ≤ i →
    IsRanked f done (map entry_shown (take i entries)) →
    map ranked_shown done ≡ ranked_after [] (map entry_shown entries)
all_ranked f done entries i past so_far = so_far.ranked ∙
    ap (λ es. ranked_after [] (map entry_shown es)) (take_all i entries past)

-- no content comes more often than there are deliveries
pub few_of : (f : Content → Option ℕ) (before : List spec.Entry) (e : Entry) → Counts f before →
    unwrap_or (f (content_of e)) 0 ≤ length before
few_of f before e counts =
    let most = count_by-le-length (same_content (entry_shown e)) before in
    let here = counts e in
    omega arith

-- the deliveries of ranked ones
abbrev pub shown_entries : List Ranked → List spec.Entry
shown_entries deliveries = map (λ placed. placed.entry) (map ranked_shown deliveries)

shown_more : (deliveries : List Ranked) (i : ℕ) (d : Ranked) → i < length deliveries →
    shown_entries (take (i + 1) deliveries) ≡ shown_entries (take i deliveries) ++
    entry_shown (get_or deliveries i d).entry ∷ []
shown_more deliveries i d inside = ap (map (λ placed. placed.entry)) (map_more ranked_shown deliveries i d inside) ∙
    map-append (λ placed. placed.entry) (map ranked_shown (take i deliveries))
    (ranked_shown (get_or deliveries i d) ∷ [])

pub count_further : (f g : Content → Option ℕ) (deliveries : List Ranked) (i : ℕ) (d : Ranked) → i < length deliveries →
    ((a b : Content) → same_content_key a b ≡ true → f a ≡ f b) → Counts f (shown_entries (take i deliveries)) →
    OneMore f g (content_of (get_or deliveries i d).entry) → Counts g (shown_entries (take (i + 1) deliveries))
count_further f g deliveries i d inside steady counts more =
    rw (shown_more deliveries i d inside)
    (counts_on f g (shown_entries (take i deliveries)) (get_or deliveries i d).entry steady counts more)

pub all_counted : (f : Content → Option ℕ) (deliveries : List Ranked) (i : ℕ) → length deliveries ≤ i →
    Counts f (shown_entries (take i deliveries)) → Counts f (shown_entries deliveries)
all_counted f deliveries i past counts e = counts e ∙
    ap (λ ds. count_by (same_content (entry_shown e)) (shown_entries ds)) (take_all i deliveries past)

-- no content comes more often than there are deliveries before this one
pub few_ranked : (f : Content → Option ℕ) (deliveries : List Ranked) (i : ℕ) (d : Ranked) (content : Content) →
    i < length deliveries → length deliveries < 18446744073709551616 → Counts f (shown_entries (take i deliveries)) →
    content ≡ content_of (get_or deliveries i d).entry → unwrap_or (f content) 0 < 18446744073709551615
few_ranked f deliveries i d content inside small counts is =
    let most = few_of f (shown_entries (take i deliveries)) (get_or deliveries i d).entry counts in
    let outer = length-map (map ranked_shown (take i deliveries)) (λ placed. placed.entry) in
    let inner = length-map (take i deliveries) ranked_shown in
    let taken = length-take i deliveries in
    rw is (omega arith)

pub few_placed : (f : Content → Option ℕ) (done : List Ranked) (entries : List Entry) (i : ℕ) (d : Entry)
    (content : Content) → i < length entries → length entries < 18446744073709551616 →
    IsRanked f done (map entry_shown (take i entries)) → content ≡ content_of (get_or entries i d) →
    unwrap_or (f content) 0 < 18446744073709551615
few_placed f done entries i d content inside small so_far is =
    let most = few_of f (map entry_shown (take i entries)) (get_or entries i d) so_far.counted in
    let mapped = length-map (take i entries) entry_shown in
    let taken = length-take i entries in
    rw is (omega arith)

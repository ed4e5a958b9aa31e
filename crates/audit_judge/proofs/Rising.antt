-- The least of the clashes of deliveries in the order of their lines.
use Rattle.std.proofs.Common.{◌≡◌, ℕ, ◌+◌, ◌<◌, ◌≤◌, Bool, true, false, cond, List, [], ◌∷◌, ◌++◌, length, Option, Some}
use Rattle.std.proofs.Common.{None, refl, sym, ap, ◌∙◌, append_assoc, arith}
use Rattle.std.specs.Prelude.{◌||◌, map, filter, option_map}
use Rattle.std.specs.List.{find, list_any, enumerate_from}
use Rattle.std.specs.Option.{option_to_list}
use Rattle.std.proofs.lemmas.Bool.Decides.{nat_tests}
use Rattle.std.proofs.lemmas.List.{append-nil}
use Rattle.audit_mean.specs.Line.{ReportLine, deliver, view, out, end, visits, silent}
use Rattle.audit_mean.specs.Segment.{Numbered, Entry, Segment, segment_after, entry_after, entries_after}
use Rattle.audit_mean.specs.Clash.{Lists, Placed, placed_after, clashes, clashes_after, lines_at}
use Rattle.audit_mean.specs.Finding.{comes_before, lesser, least}
use Rattle.audit_judge.specs.Clashes.{IsInOrder}

-- none of these pairs comes before that one
abbrev pub NoneBefore : ℕ × ℕ → List (ℕ × ℕ) → Type 0
NoneBefore x [] = Unit {0}
NoneBefore x (y ∷ ys) = (comes_before y x ≡ false) × NoneBefore x ys

none_before-append : (x : ℕ × ℕ) (ys zs : List (ℕ × ℕ)) → NoneBefore x ys → NoneBefore x zs → NoneBefore x (ys ++ zs)
none_before-append x [] zs a b = b
none_before-append x (y ∷ ys) zs a b = (a.0, none_before-append x ys zs a.1 b)

-- the first of pairs is the least where none of the others comes before it
least_after : (x : ℕ × ℕ) (ys : List (ℕ × ℕ)) → NoneBefore x ys → lesser x (least ys) ≡ x
least_after x [] none = refl
least_after x (y ∷ ys) none = through (least ys) (following ys none.1)
  where
    After : Option (ℕ × ℕ) → Type 0
    After None = Unit {0}
    After (Some z) = comes_before z x ≡ false

    chosen : (t : Bool) (y z : ℕ × ℕ) → comes_before y x ≡ false → comes_before z x ≡ false →
        comes_before (cond t z y) x ≡ false
    chosen true y z a b = b
    chosen false y z a b = a

    one : (y : ℕ × ℕ) (o : Option (ℕ × ℕ)) → comes_before y x ≡ false → After o → comes_before (lesser y o) x ≡ false
    one y None a b = a
    one y (Some z) a b = chosen (comes_before z y) y z a b

    following : (zs : List (ℕ × ℕ)) → NoneBefore x zs → After (least zs)
    following [] none = tt
    following (z ∷ zs) none = one z (least zs) none.0 (following zs none.1)

    through : (o : Option (ℕ × ℕ)) → After o → lesser x (Some (lesser y o)) ≡ x
    through o b = rw (one y o none.0 b) refl

-- what is in order after one line is so after an earlier
earlier : (m n : ℕ) (xs : List Placed) → m ≤ n → IsInOrder n xs → IsInOrder m xs
earlier m n [] le order = tt
earlier m n (x ∷ xs) le order = (omega arith, order.1)

-- pairs whose second line is after another's come after it
later : (lists : Lists) (a b : ℕ) (before rest : List Placed) → IsInOrder b rest →
    NoneBefore (a, b) (clashes_after lists before rest)
later lists a b before [] order = tt
later lists a b before (x ∷ rest) order =
    none_before-append (a, b) (map (lines_at x) (filter (clashes lists x) before))
    (clashes_after lists (before ++ x ∷ []) rest)
    (each (filter (clashes lists x) before))
    (later lists a b (before ++ x ∷ []) rest (earlier b x.entry.line rest (omega (arith, order.0)) order.1))
  where
    one : (n : ℕ) → comes_before (n, x.entry.line) (a, b) ≡ false
    one n = let above : b < x.entry.line = order.0 in grind (arith, nat_tests)

    each : (ys : List Placed) → NoneBefore (a, b) (map (lines_at x) ys)
    each [] = tt
    each (y ∷ ys) = (one y.entry.line, each ys)

-- what passes first of deliveries in order stands before all others that pass
pub record First (p : Placed → Bool) (b : Placed) (xs : List Placed) : Type 0 where
  pub first : Placed
  pub others : List Placed
  pub found : find p xs ≡ Some first
  pub kept : filter p xs ≡ first ∷ others
  pub following : NoneBefore (lines_at b first) (map (lines_at b) others)

same_end : (m n b : ℕ) → n < m → comes_before (m, b) (n, b) ≡ false
same_end m n b above = grind (arith, nat_tests)

all_after : (p : Placed → Bool) (b x : Placed) (xs : List Placed) → IsInOrder x.entry.line xs →
    NoneBefore (lines_at b x) (map (lines_at b) (filter p xs))
all_after p b x [] order = tt
all_after p b x (y ∷ ys) order =
    let rest = all_after p b x ys (earlier x.entry.line y.entry.line ys (omega (arith, order.0)) order.1) in
    elim (p y) as (λ t. NoneBefore (lines_at b x) (map (lines_at b) (cond t (y ∷ filter p ys) (filter p ys)))) [
      | true ↦ (same_end y.entry.line x.entry.line b.entry.line order.0, rest)
      | false ↦ rest
    ]

pub first_of_those : (p : Placed → Bool) (b : Placed) (n : ℕ) (xs : List Placed) → IsInOrder n xs →
    list_any p xs ≡ true → First p b xs
first_of_those p b n [] order some = absurd cc
first_of_those p b n (x ∷ xs) order some =
    elim (p x) as (λ t. p x ≡ t → First p b (x ∷ xs)) [
      | true ↦ λ e. record {
        first = x;
        others = filter p xs;
        found = rw e refl;
        kept = rw e refl;
        following =
            all_after p b x xs order.1;
      }
      | false ↦ λ e.
          let rest = first_of_those p b x.entry.line xs order.1 (rw e at some) in
          record {
            first = rest.first;
            others = rest.others;
            found = rw e rest.found;
            kept = rw e rest.kept;
            following =
                rest.following;
          }
    ] refl

filter_none : (p : Placed → Bool) (xs : List Placed) → list_any p xs ≡ false → filter p xs ≡ []
filter_none p [] e = refl
filter_none p (x ∷ xs) e =
    elim (p x) as (λ t. (t || list_any p xs) ≡ false → cond t (x ∷ filter p xs) (filter p xs) ≡ []) [
      | true ↦ λ h. absurd cc
      | false ↦ λ h. filter_none p xs h
    ] e

clashes-append : (lists : Lists) (before xs ys : List Placed) → clashes_after lists before (xs ++ ys) ≡
    clashes_after lists before xs ++ clashes_after lists (before ++ xs) ys
clashes-append lists before [] ys = rw (append-nil before) refl
clashes-append lists before (x ∷ xs) ys =
    rw (clashes-append lists (before ++ x ∷ []) xs ys, append_assoc before (x ∷ []) xs)
    (sym (append_assoc (map (lines_at x) (filter (clashes lists x) before)) (clashes_after lists (before ++ x ∷ []) xs)
    (clashes_after lists (before ++ x ∷ xs) ys)))

-- one more delivery that clashes with none leaves them without a clash
pub still_none : (lists : Lists) (xs : List Placed) (x : Placed) → clashes_after lists [] xs ≡ [] →
    list_any (clashes lists x) xs ≡ false → clashes_after lists [] (xs ++ x ∷ []) ≡ []
still_none lists xs x none e = clashes-append lists [] xs (x ∷ []) ∙ rw (none, filter_none (clashes lists x) xs e) refl

order_split : (n : ℕ) (xs : List Placed) (x : Placed) (ys : List Placed) → IsInOrder n (xs ++ x ∷ ys) →
    IsInOrder n xs × IsInOrder x.entry.line ys
order_split n [] x ys order = (tt, order.1)
order_split n (y ∷ xs) x ys order =
    let rest = order_split y.entry.line xs x ys order.1 in
    ((order.0, rest.0), rest.1)

-- the first delivery that clashes with one before it, and the first of those, are the least clash
pub first_is_least : (lists : Lists) (xs : List Placed) (x : Placed) (ys : List Placed) → IsInOrder 0 (xs ++ x ∷ ys) →
    clashes_after lists [] xs ≡ [] → list_any (clashes lists x) xs ≡ true →
    option_map (lines_at x) (find (clashes lists x) xs) ≡ least (clashes_after lists [] (xs ++ x ∷ ys))
first_is_least lists xs x ys order none some =
    let parts = order_split 0 xs x ys order in
    let one = first_of_those (clashes lists x) x 0 xs parts.0 some in
    let rest = clashes_after lists (xs ++ x ∷ []) ys in
    let following = none_before-append (lines_at x one.first) (map (lines_at x) one.others) rest one.following
    (later lists one.first.entry.line x.entry.line (xs ++ x ∷ []) ys parts.1) in
    rw (clashes-append lists [] xs (x ∷ ys), none, one.found, one.kept)
    (ap Some (sym (least_after (lines_at x one.first) (map (lines_at x) one.others ++ rest) following)))

-- deliveries in the order of their lines, all after this line
abbrev pub Rises : ℕ → List Entry → Type 0
Rises line [] = Unit {0}
Rises line (entry ∷ more) = (line < entry.line) × Rises entry.line more

-- a delivery, if there is one, is of this line
abbrev pub IsOfLine : ℕ → Option Entry → Type 0
IsOfLine line None = Unit {0}
IsOfLine line (Some entry) = entry.line ≡ line

of_segment : (line member peer : ℕ) (body : List ℕ) (segment : Option Segment) →
    IsOfLine line (option_map (λ s. record { line = line; member = member; segment = s; peer = peer; body = body })
    segment)
of_segment line member peer body None = tt
of_segment line member peer body (Some s) = refl

of_line : (before : List Numbered) (number : ℕ) (line : ReportLine) →
    IsOfLine number (entry_after before (number, line))
of_line before number (deliver member peer body) = of_segment number member peer body (segment_after member before)
of_line before number (view member ltime mask) = tt
of_line before number (out member) = tt
of_line before number end = tt
of_line before number visits = tt
of_line before number silent = tt

rises_with : (line number : ℕ) (entry : Option Entry) (rest : List Entry) → line < number → IsOfLine number entry →
    Rises number rest → Rises line (option_to_list entry ++ rest)
rises_with line number None [] above is rises = tt
rises_with line number None (e ∷ rest) above is rises = (omega (arith, rises.0), rises.1)
rises_with line number (Some e) rest above is rises = rw is (above, rises)

-- the deliveries of numbered lines are in order
rising : (before : List Numbered) (line number : ℕ) (lines : List ReportLine) → line < number →
    Rises line (entries_after before (enumerate_from number lines))
rising before line number [] above = tt
rising before line number (l ∷ lines) above =
    rises_with line number (entry_after before (number, l))
    (entries_after (before ++ (number, l) ∷ []) (enumerate_from (number + 1) lines)) above (of_line before number l)
    (rising (before ++ (number, l) ∷ []) number (number + 1) lines (omega arith))

placed_rising : (lists : Lists) (line : ℕ) (before entries : List Entry) → Rises line entries →
    IsInOrder line (placed_after lists before entries)
placed_rising lists line before [] rises = tt
placed_rising lists line before (e ∷ entries) rises =
    (rises.0, placed_rising lists e.line (before ++ e ∷ []) entries rises.1)

-- and so are they with their places
pub in_order : (lists : Lists) (lines : List ReportLine) →
    IsInOrder 0 (placed_after lists [] (entries_after [] (enumerate_from 1 lines)))
in_order lists lines = placed_rising lists 0 [] (entries_after [] (enumerate_from 1 lines))
    (rising [] 0 1 lines (omega arith))

-- there are no more deliveries than lines
pub few_entries : (before lines : List Numbered) → length (entries_after before lines) ≤ length lines
few_entries before [] = omega arith
few_entries before (line ∷ lines) = at_most_one (entry_after before line) (entries_after (before ++ line ∷ []) lines)
    (few_entries (before ++ line ∷ []) lines)
  where
    at_most_one : (entry : Option Entry) (rest : List Entry) → length rest ≤ length lines →
        length (option_to_list entry ++ rest) ≤ length (line ∷ lines)
    at_most_one None rest few = omega arith
    at_most_one (Some e) rest few = omega arith

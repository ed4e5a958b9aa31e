-- Segments that end, line by line.
use Rattle.std.proofs.Common.{◌≡◌, ℕ, ◌+◌, ◌<◌, ◌≤◌, Bool, true, false, cond, List, [], ◌∷◌, ◌++◌, length, take, get_or}
use Rattle.std.proofs.Common.{Option, Some, None, refl, sym, ap, ◌∙◌, subst, append_assoc, arith}
use Rattle.std.specs.Prelude.{◌&&◌, ◌==◌, map, filter, option_map, Vec}
use Rattle.std.specs.List.{AllByRecursion}
use Rattle.std.specs.Option.{option_to_list}
use Rattle.std.specs.declared.alloc.Global.{Global}
use Rattle.std.proofs.lemmas.Bool.{eqb-true}
use Rattle.std.proofs.lemmas.Bool.Decides.{nat_tests}
use Rattle.std.proofs.lemmas.List.{append-nil, map-append, length-map, take_all}
use Rattle.std.proofs.lemmas.List.FromFn.{length-enumerate_from}
use Rattle.std.proofs.lemmas.List.Elements.{filter-append}
use Rattle.std.proofs.lemmas.List.Sums.{fold-append}
use Rattle.audit_mean.specs.Line.{ReportLine, deliver, view, out, end, visits, silent}
use Rattle.audit_mean.specs.Segment.{Numbered, Segment, first_segment, segment_next, segment_after, entry_after}
use Rattle.audit_mean.specs.Segment.{entries_of}
use Rattle.audit_mean.specs.Segment as spec
use Rattle.audit_mean.specs.Lack.{ended_by, ended_after, is_in}
use Rattle.audit_judge.specs.Reading.{shown_line}
use Rattle.audit_judge.specs.Entries.{Stands, numbered_lines, standing, entry_shown}
use Rattle.audit_judge.specs.Lacks.{Holds, ended_shown, held_after, is_left, known_segment, list_at}
use Rattle.audit_judge.specs.declared.line.LineMeaning.{LineMeaning}
use Rattle.audit_judge.specs.declared.segments.Segments.{Segments}
use Rattle.audit_judge.specs.declared.segments.Entry.{Entry}
use Rattle.audit_judge.specs.declared.ended.Ended.{Ended}
use Rattle.audit_judge.proofs.Deliveries.{led_on, numbered_more, one_more}
use Rattle.audit_judge.proofs.Lacking.{each}

-- each segment after these lines, and each delivery in them, is of a segment that began before a line
pub record Began (number : ℕ) (lines : List Numbered) : Type 0 where
  pub segments : (member : ℕ) (segment : Segment) → segment_after member lines ≡ Some segment → segment.began < number
  pub entries : AllByRecursion (λ (e : spec.Entry). e.segment.began < number) (entries_of lines)

-- the segments that ended so far, the segments after them, and the deliveries in these
pub record Leads (number : ℕ) (segments : Segments) (held : ℕ → Option (Vec Entry Global)) (all : List Ended)
    (lines : List Numbered) : Type 0 where
  pub stands : Stands segments lines
  pub holds : Holds held lines
  pub began : Began number lines
  pub ended : map ended_shown all ≡ map known_segment (ended_after [] lines)

mapped : {X Y : Type 0} (f : X → Y) (o : Option X) → map f (option_to_list o) ≡ option_to_list (option_map f o)
mapped f None = refl
mapped f (Some x) = refl

-- the segments that end with one more line
ended_more : (before lines : List Numbered) (line : Numbered) → ended_after before (lines ++ line ∷ []) ≡
    ended_after before lines ++ option_to_list (ended_by (before ++ lines) line)
ended_more before [] line = append-nil (option_to_list (ended_by before line)) ∙ rw (append-nil before) refl
ended_more before (first ∷ lines) line =
    rw (ended_more (before ++ first ∷ []) lines line, append_assoc before (first ∷ []) lines)
    (sym (append_assoc (option_to_list (ended_by before first)) (ended_after (before ++ first ∷ []) lines)
    (option_to_list (ended_by (before ++ first ∷ lines) line))))

next_segment : (member : ℕ) (before : List Numbered) (line : Numbered) → segment_after member (before ++ line ∷ []) ≡
    segment_next member (segment_after member before) line
next_segment member before line = fold-append (segment_next member) (Some first_segment) before (line ∷ [])

some_of : {A : Type 0} {a b : A} → Some a ≡ Some b → a ≡ b
some_of e = cc

joined : (P : spec.Entry → Type 0) (xs ys : List spec.Entry) → AllByRecursion P xs → AllByRecursion P ys →
    AllByRecursion P (xs ++ ys)
joined P [] ys a b = b
joined P (x ∷ xs) ys a b = (a.0, joined P xs ys a.1 b)

-- one more line, of this number
began_on : (number : ℕ) (before : List Numbered) (line : ReportLine) → Began number before →
    Began (number + 1) (before ++ (number, line) ∷ [])
began_on number before line began = record {
  segments = λ member segment e. of_line line member segment (sym (next_segment member before (number, line)) ∙ e);
  entries =
      subst (AllByRecursion (λ (e : spec.Entry). e.segment.began < number + 1))
      (sym (one_more [] before (number, line)))
      (joined (λ e. e.segment.began < number + 1) (entries_of before)
      (option_to_list (entry_after before (number, line)))
      (each (λ e below. omega (arith, below)) (entries_of before) began.entries) (of_entry line));
}
  where
    as_before : (member : ℕ) (segment : Segment) → segment_after member before ≡ Some segment →
        segment.began < number + 1
    as_before member segment e = let below = began.segments member segment e in omega (arith, below)

    by_view : (t : Bool) (member ltime mask : ℕ) (segment : Segment) →
        cond t (Some (record { name = spec.in_view ltime mask; began = number })) (segment_after member before) ≡
        Some segment → segment.began < number + 1
    by_view true member ltime mask segment e = let at : number ≡ segment.began = ap (λ s. s.began) (some_of e) in
        omega (arith, at)
    by_view false member ltime mask segment e = as_before member segment e

    by_out : (t : Bool) (member : ℕ) (segment : Segment) → cond t None (segment_after member before) ≡ Some segment →
        segment.began < number + 1
    by_out true member segment e = absurd cc
    by_out false member segment e = as_before member segment e

    of_line : (l : ReportLine) (member : ℕ) (segment : Segment) →
        segment_next member (segment_after member before) (number, l) ≡ Some segment → segment.began < number + 1
    of_line (deliver m peer body) member segment e = as_before member segment e
    of_line (view m ltime mask) member segment e = by_view (m == member) member ltime mask segment e
    of_line (out m) member segment e = by_out (m == member) member segment e
    of_line end member segment e = as_before member segment e
    of_line visits member segment e = as_before member segment e
    of_line silent member segment e = as_before member segment e

    of_segment : (member peer : ℕ) (body : List ℕ) (o : Option Segment) → segment_after member before ≡ o →
        AllByRecursion (λ (e : spec.Entry). e.segment.began < number + 1)
        (option_to_list (option_map
        (λ s. record { line = number; member = member; segment = s; peer = peer; body = body }) o))
    of_segment member peer body None e = tt
    of_segment member peer body (Some s) e = (as_before member s e, tt)

    of_entry : (l : ReportLine) →
        AllByRecursion (λ (e : spec.Entry). e.segment.began < number + 1)
        (option_to_list (entry_after before (number, l)))
    of_entry (deliver member peer body) = of_segment member peer body (segment_after member before) refl
    of_entry (view m ltime mask) = tt
    of_entry (out m) = tt
    of_entry end = tt
    of_entry visits = tt
    of_entry silent = tt

-- none of the deliveries is in a segment that begins after them
none_in : (member : ℕ) (segment : Segment) (entries : List spec.Entry) →
    AllByRecursion (λ (e : spec.Entry). e.segment.began < segment.began) entries →
    filter (is_in member segment) entries ≡ []
none_in member segment [] all = refl
none_in member segment (e ∷ entries) all = by_test (none_in member segment entries all.1) (e.member == member)
    (e.segment.began == segment.began) (apart e.segment.began segment.began all.0)
  where
    apart : (m n : ℕ) → m < n → (m == n) ≡ false
    apart m n h = grind (arith, nat_tests)

    by_test : filter (is_in member segment) entries ≡ [] → (a b : Bool) → b ≡ false →
        cond (a && b) (e ∷ filter (is_in member segment) entries) (filter (is_in member segment) entries) ≡ []
    by_test rest true true h = absurd cc
    by_test rest true false h = rest
    by_test rest false b h = rest

-- the deliveries in each member's segment with one more line
holds_on : (f g : ℕ → Option (Vec Entry Global)) (before : List Numbered) (number : ℕ) (line : ReportLine)
    (entry : Option Entry) → Holds f before → Began number before → option_map entry_shown entry ≡
    entry_after before (number, line) →
    ((member : ℕ) → list_at (g member) ≡ held_after entry line member (list_at (f member))) →
    Holds g (before ++ (number, line) ∷ [])
holds_on f g before number line entry holds began is held member segment e =
    ap (map entry_shown) (held member)
    ∙ of_line line entry is (sym (next_segment member before (number, line)) ∙ e)
    ∙ sym (filter-append (is_in member segment) (entries_of before)
    (option_to_list (entry_after before (number, line))))
    ∙ ap (filter (is_in member segment)) (sym (one_more [] before (number, line)))
  where
    front : List spec.Entry
    front = filter (is_in member segment) (entries_of before)

    as_before : segment_after member before ≡ Some segment → map entry_shown (list_at (f member)) ≡ front ++ []
    as_before e = holds member segment e ∙ sym (append-nil front)

    no_entry : (entry : Option Entry) (l : ReportLine) → option_map entry_shown entry ≡ None →
        (map entry_shown (cond (is_left l member) [] (list_at (f member))) ≡ front ++ []) →
        map entry_shown (held_after entry l member (list_at (f member))) ≡ front ++ []
    no_entry None l none h = h
    no_entry (Some x) l none h = absurd cc

    by_view : (t : Bool) (ltime mask : ℕ) →
        cond t (Some (record { name = spec.in_view ltime mask; began = number })) (segment_after member before) ≡
        Some segment → map entry_shown (cond t [] (list_at (f member))) ≡ front ++ []
    by_view true ltime mask e =
        let at : number ≡ segment.began = ap (λ s. s.began) (some_of e) in
        sym (append-nil front ∙ none_in
        member segment (entries_of before)
        (subst (λ n. AllByRecursion (λ (x : spec.Entry). x.segment.began < n) (entries_of before)) at
        began.entries))
    by_view false ltime mask e = as_before e

    by_out : (t : Bool) → cond t None (segment_after member before) ≡ Some segment →
        map entry_shown (cond t [] (list_at (f member))) ≡ front ++ []
    by_out true e = absurd cc
    by_out false e = as_before e

    of_segment : (m peer : ℕ) (body : List ℕ) (x : spec.Entry) (o : Option Segment) → segment_after m before ≡ o →
        option_map (λ s. record { line = number; member = m; segment = s; peer = peer; body = body }) o ≡ Some x →
        segment_after x.member before ≡ Some x.segment
    of_segment m peer body x None e h = absurd cc
    of_segment m peer body x (Some s) e h =
        let same = some_of h in
        ap (λ y. segment_after y.member before) (sym same) ∙ e ∙ ap (λ y. Some y.segment) same

    same_began : (m : ℕ) → (m == m) ≡ true
    same_began m = grind (arith, nat_tests)

    of_entry : (x : spec.Entry) → segment_after member before ≡ Some segment → segment_after x.member before ≡
        Some x.segment → (t : Bool) → (x.member == member) ≡ t → is_in member segment x ≡ t
    of_entry x e h true same =
        let one : x.segment ≡ segment =
        some_of (sym h ∙ ap (λ m. segment_after m before) (eqb-true x.member member same) ∙ e) in
        rw (same, one) (same_began segment.began)
    of_entry x e h false same = rw same refl

    delivered : (m peer : ℕ) (body : List ℕ) (entry : Option Entry) → option_map entry_shown entry ≡
        entry_after before (number, deliver m peer body) → segment_after member before ≡ Some segment →
        map entry_shown (held_after entry (deliver m peer body) member (list_at (f member))) ≡ front ++
        filter (is_in member segment) (option_to_list (entry_after before (number, deliver m peer body)))
    delivered m peer body None is e = as_before e ∙ ap (λ o. front ++ filter (is_in member segment) (option_to_list o))
        is
    delivered m peer body (Some x) is e =
        by_test (x.member == member) refl ∙ ap (λ o. front ++ filter (is_in member segment) (option_to_list o)) is
      where
        here : segment_after x.member before ≡ Some (entry_shown x).segment
        here = of_segment m peer body (entry_shown x) (segment_after m before) refl (sym is)

        by_test : (t : Bool) → (x.member == member) ≡ t →
            map entry_shown (cond t (list_at (f member) ++ x ∷ []) (list_at (f member))) ≡ front ++
            cond (is_in member segment (entry_shown x)) (entry_shown x ∷ []) []
        by_test true same = map-append entry_shown (list_at (f member)) (x ∷ []) ∙
            rw (of_entry (entry_shown x) e here true same)
            (ap (λ xs. xs ++ entry_shown x ∷ []) (holds member segment e))
        by_test false same = rw (of_entry (entry_shown x) e here false same) (as_before e)

    of_line : (l : ReportLine) (entry : Option Entry) → option_map entry_shown entry ≡ entry_after before (number, l) →
        segment_next member (segment_after member before) (number, l) ≡ Some segment →
        map entry_shown (held_after entry l member (list_at (f member))) ≡ front ++
        filter (is_in member segment) (option_to_list (entry_after before (number, l)))
    of_line (deliver m peer body) entry is e = delivered m peer body entry is e
    of_line (view m ltime mask) entry is e = no_entry entry (view m ltime mask) is (by_view (m == member) ltime mask e)
    of_line (out m) entry is e = no_entry entry (out m) is (by_out (m == member) e)
    of_line end entry is e = no_entry entry end is (as_before e)
    of_line visits entry is e = no_entry entry visits is (as_before e)
    of_line silent entry is e = no_entry entry silent is (as_before e)

-- at first nothing is held
pub none_led : (segments : Segments) (held : ℕ → Option (Vec Entry Global)) (all : List Ended) → Stands segments [] →
    ((member : ℕ) → held member ≡ None) → all ≡ [] → Leads 1 segments held all []
none_led segments held all stands none empty = record {
  stands = stands;
  holds = λ member segment e. ap (λ o. map entry_shown (list_at o)) (none member);
  began = record {
    segments = λ member segment e.
        (let first : 0 ≡ segment.began = ap (λ s. s.began) (some_of e) in omega (arith, first));
    entries = tt;
  };
  ended = ap (map ended_shown) empty;
}

-- one more line
pub leads_on : (old new : Segments) (f g : ℕ → Option (Vec Entry Global)) (all : List Ended) (ended : Option Ended)
    (entry : Option Entry) (lines : List LineMeaning) (i : ℕ) (line d : LineMeaning) → i < length lines →
    line ≡ get_or lines i d →
    Leads (i + 1) old f all (take i (numbered_lines lines)) →
    ((before : List Numbered) → Stands old before → Holds f before → option_map ended_shown ended ≡
    option_map known_segment (ended_by before (i + 1, shown_line line))) →
    ((before : List Numbered) → Stands old before → option_map entry_shown entry ≡
    entry_after before (i + 1, shown_line line)) →
    ((member : ℕ) → list_at (g member) ≡ held_after entry (shown_line line) member (list_at (f member))) →
    ((m : ℕ) → standing new m ≡ segment_next m (standing old m) (i + 1, shown_line line)) →
    Leads (i + 1 + 1) new g (all ++ option_to_list ended) (take (i + 1) (numbered_lines lines))
leads_on old new f g all ended entry lines i line d inside is leads ends entered held advanced =
    let before = take i (numbered_lines lines) in
    let read : Numbered = (i + 1, shown_line line) in
    rw (numbered_more lines i line d inside is) record {
      stands = led_on old new before read leads.stands advanced;
      holds = holds_on f g before (i + 1) (shown_line line) entry leads.holds leads.began (entered before leads.stands)
          held;
      began = began_on (i + 1) before (shown_line line) leads.began;
      ended =
          map-append ended_shown all (option_to_list ended)
          ∙ (λ j. leads.ended j ++
          (mapped ended_shown ended ∙ ap option_to_list (ends before leads.stands leads.holds) ∙
          sym (mapped known_segment (ended_by before read))) j)
          ∙ sym (map-append known_segment (ended_after [] before) (option_to_list (ended_by before read)))
          ∙ ap (map known_segment) (sym (ended_more [] before read));
    }

-- all lines are read
pub all_led : (number : ℕ) (segments : Segments) (held : ℕ → Option (Vec Entry Global)) (all : List Ended)
    (lines : List LineMeaning) (i : ℕ) → length lines ≤ i →
    Leads number segments held all (take i (numbered_lines lines)) →
    map ended_shown all ≡ map known_segment (ended_after [] (numbered_lines lines))
all_led number segments held all lines i past leads =
    let numbers = length-enumerate_from 1 (map shown_line lines) in
    let mapped = length-map lines shown_line in
    leads.ended ∙ ap (λ ls. map known_segment (ended_after [] ls)) (take_all i (numbered_lines lines) (omega arith))

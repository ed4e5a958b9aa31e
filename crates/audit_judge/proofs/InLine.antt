-- The segments of a report end line by line.
use Rattle.std.proofs.Common.{◌≡◌, ℕ, ◌+◌, ◌<◌, ◌≤◌, Bool, cond, List, [], ◌∷◌, ◌++◌, Option, Some, None, refl, sym, ap}
use Rattle.std.proofs.Common.{◌∙◌, subst, arith, append_assoc}
use Rattle.std.specs.Prelude.{map, filter, option_map, count_by}
use Rattle.std.specs.List.{AllByRecursion, enumerate_from}
use Rattle.std.specs.Option.{option_to_list}
use Rattle.std.proofs.lemmas.List.{append-nil}
use Rattle.audit_mean.specs.Line.{ReportLine, deliver, view, out, end, visits, silent}
use Rattle.audit_mean.specs.Segment.{Numbered, Name, in_view, Entry, Segment, same_content, segment_after, entries_of}
use Rattle.audit_mean.specs.Lack.{Ended, is_in, ended_by, ended_after}
use Rattle.audit_judge.specs.Lacks.{known_segment, ranked_after}
use Rattle.audit_judge.specs.Marks.{IsInLine, IsRanked, Rises}
use Rattle.audit_judge.proofs.Clear.{content_self}
use Rattle.audit_judge.proofs.Counts.{count_more}
use Rattle.audit_judge.proofs.Lacking.{each}
use Rattle.audit_judge.proofs.Surplus.{entries_ranked}

-- a segment, if there is one, is ended by this line
abbrev IsEndedBy : ℕ → Option Ended → Type 0
IsEndedBy line None = Unit {0}
IsEndedBy line (Some ended) = ended.line ≡ line

of_view : (number member : ℕ) (next : Name) (entries : Segment → List Entry) (segment : Option Segment) →
    IsEndedBy number (option_map
    (λ s. record { line = number; member = member; name = s.name; next = next; entries = entries s }) segment)
of_view number member next entries None = tt
of_view number member next entries (Some s) = refl

ended_of_line : (before : List Numbered) (number : ℕ) (line : ReportLine) →
    IsEndedBy number (ended_by before (number, line))
ended_of_line before number (deliver member peer body) = tt
ended_of_line before number (view member ltime mask) =
    of_view number member (in_view ltime mask) (λ s. filter (is_in member s) (entries_of before))
    (segment_after member before)
ended_of_line before number (out member) = tt
ended_of_line before number end = tt
ended_of_line before number visits = tt
ended_of_line before number silent = tt

rises_with : (line number : ℕ) (ended : Option Ended) (rest : List Ended) → line < number → IsEndedBy number ended →
    Rises number (map known_segment rest) → Rises line (map known_segment (option_to_list ended ++ rest))
rises_with line number None [] above is rises = tt
rises_with line number None (e ∷ rest) above is rises = (omega (arith, rises.0), rises.1)
rises_with line number (Some e) rest above is rises = (omega (arith, is), rw is rises)

ends_rising : (before : List Numbered) (line number : ℕ) (lines : List ReportLine) → line < number →
    Rises line (map known_segment (ended_after before (enumerate_from number lines)))
ends_rising before line number [] above = tt
ends_rising before line number (l ∷ lines) above =
    rises_with line number (ended_by before (number, l))
    (ended_after (before ++ (number, l) ∷ []) (enumerate_from (number + 1) lines)) above
    (ended_of_line before number l)
    (ends_rising (before ++ (number, l) ∷ []) number (number + 1) lines (omega arith))

count_grows : (p : Entry → Bool) (xs ys : List Entry) → count_by p xs ≤ count_by p (xs ++ ys)
count_grows p xs [] = rw (append-nil xs) (omega arith)
count_grows p xs (y ∷ ys) =
    let first = count_more p xs y in
    let more = count_grows p (xs ++ y ∷ []) ys in
    let all = ap (count_by p) (append_assoc xs (y ∷ []) ys) in
    let some : count_by p xs ≤ count_by p (xs ++ y ∷ []) = omega (arith, first) in
    omega (arith, some, more, all)

ranked_few : (before entries : List Entry) →
    AllByRecursion (λ placed. placed.place < count_by (same_content placed.entry) (before ++ entries))
    (ranked_after before entries)
ranked_few before [] = tt
ranked_few before (e ∷ entries) =
    let first : count_by (same_content e) (before ++ e ∷ []) ≡ count_by (same_content e) before + 1 =
    count_more (same_content e) before e ∙ ap (λ t. count_by (same_content e) before + cond t 1 0) (content_self e)
    in
    let more = count_grows (same_content e) (before ++ e ∷ []) entries in
    let all = append_assoc before (e ∷ []) entries in
    let whole = ap (count_by (same_content e)) all in (
      omega (arith, first, more, whole),
      each (λ p less. subst (λ es. p.place < count_by (same_content p.entry) es) all less)
          (ranked_after (before ++ e ∷ []) entries) (ranked_few (before ++ e ∷ []) entries),
    )

all_ranked : (ends : List Ended) → AllByRecursion IsRanked (map known_segment ends)
all_ranked [] = tt
all_ranked (one ∷ ends) = (
  subst (λ es. AllByRecursion (λ placed. placed.place < count_by (same_content placed.entry) es)
      (ranked_after [] one.entries)) (sym (entries_ranked [] one.entries)) (ranked_few [] one.entries),
  all_ranked ends,
)

-- the segments that the lines of a report end
pub in_line : (lines : List ReportLine) → IsInLine (map known_segment (ended_after [] (enumerate_from 1 lines)))
in_line lines = record
    { rises = ends_rising [] 0 1 lines (omega arith); ranked = all_ranked (ended_after [] (enumerate_from 1 lines)) }

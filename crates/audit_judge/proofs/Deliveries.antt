-- Segments and deliveries, line by line.
use Rattle.std.proofs.Common.{◌≡◌, ℕ, ◌+◌, ◌<◌, ◌≤◌, List, [], ◌∷◌, ◌++◌, length, take, replicate, get_or, Option, Some}
use Rattle.std.proofs.Common.{None, refl, sym, ap, ◌∙◌, append_assoc, arith}
use Rattle.std.specs.Prelude.{map, option_map}
use Rattle.std.specs.Option.{option_to_list}
use Rattle.std.proofs.lemmas.List.{append-nil, map-append, length-map, get_or-map, get_or-replicate, take_more}
use Rattle.std.proofs.lemmas.List.{take_all}
use Rattle.std.proofs.lemmas.List.FromFn.{get_or-enumerate_from, length-enumerate_from}
use Rattle.std.proofs.lemmas.List.Sums.{fold-append}
use Rattle.audit_mean.specs.Segment.{Numbered, first_segment, segment_next, entry_after, entries_after, entries_of}
use Rattle.audit_judge.specs.Reading.{shown_line}
use Rattle.audit_judge.specs.Entries.{Stands, numbered_lines, segment_shown, standing, entry_shown}
use Rattle.audit_judge.specs.declared.line.LineMeaning.{LineMeaning}
use Rattle.audit_judge.specs.declared.segments.Segment.{Segment}
use Rattle.audit_judge.specs.declared.segments.Segments.{Segments}
use Rattle.audit_judge.specs.declared.segments.Entry.{Entry}

-- at first each member is in its first segment
pub at_first : (segment : Segment) → segment_shown segment ≡ first_segment →
    Stands (record { of_members = replicate 256 (Some segment) }) []
at_first segment e = λ member below. rw (get_or-replicate 256 member (Some segment) None below) (ap Some e)

-- one more line leads each member on
pub led_on : (old new : Segments) (before : List Numbered) (line : Numbered) → Stands old before →
    ((m : ℕ) → standing new m ≡ segment_next m (standing old m) line) → Stands new (before ++ line ∷ [])
led_on old new before line stands next =
    λ member below. next member ∙
    rw (stands member below) (sym (fold-append (segment_next member) (Some first_segment) before (line ∷ [])))

-- the deliveries with one more line
pub one_more : (before lines : List Numbered) (line : Numbered) → entries_after before (lines ++ line ∷ []) ≡
    entries_after before lines ++ option_to_list (entry_after (before ++ lines) line)
one_more before [] line = append-nil (option_to_list (entry_after before line)) ∙ rw (append-nil before) refl
one_more before (first ∷ lines) line =
    rw (one_more (before ++ first ∷ []) lines line, append_assoc before (first ∷ []) lines)
    (sym (append_assoc (option_to_list (entry_after before first)) (entries_after (before ++ first ∷ []) lines)
    (option_to_list (entry_after (before ++ first ∷ lines) line))))

-- one more of the lines with their numbers
pub numbered_more : (lines : List LineMeaning) (i : ℕ) (line d : LineMeaning) → i < length lines →
    line ≡ get_or lines i d →
    take (i + 1) (numbered_lines lines) ≡ take i (numbered_lines lines) ++ (i + 1, shown_line line) ∷ []
numbered_more lines i line d inside is =
    let all = length-enumerate_from 1 (map shown_line lines) in
    let mapped = length-map lines shown_line in
    let here = get_or-enumerate_from 1 (map shown_line lines) i (0, shown_line line) (omega arith) in
    let said : get_or (map shown_line lines) i (shown_line line) ≡ shown_line line =
    get_or-map shown_line lines i d (shown_line line) inside ∙
    ap shown_line (sym is) in
    let number : 1 + i ≡ i + 1 = omega arith in
    take_more (numbered_lines lines) i (0, shown_line line) (omega arith) ∙ rw (here, said, number) refl

-- the deliveries read so far, and the segments after them
pub record Follows (segments : Segments) (entries : List Entry) (lines : List Numbered) : Type 0 where
  pub stands : Stands segments lines
  pub read : map entry_shown entries ≡ entries_of lines

option_listed : (entry : Option Entry) → map entry_shown (option_to_list entry) ≡
    option_to_list (option_map entry_shown entry)
option_listed None = refl
option_listed (Some entry) = refl

-- one more line is read
pub reads_on : (old new : Segments) (read : List Entry) (entry : Option Entry) (lines : List LineMeaning) (i : ℕ)
    (line d : LineMeaning) → i < length lines → line ≡ get_or lines i d →
    Follows old read (take i (numbered_lines lines)) →
    ((before : List Numbered) → Stands old before → option_map entry_shown entry ≡
    entry_after before (i + 1, shown_line line)) →
    ((m : ℕ) → standing new m ≡ segment_next m (standing old m) (i + 1, shown_line line)) →
    Follows new (read ++ option_to_list entry) (take (i + 1) (numbered_lines lines))
reads_on old new read entry lines i line d inside is follows entered advanced =
    let before = take i (numbered_lines lines) in
    let here = entered before follows.stands in
    rw (numbered_more lines i line d inside is) record {
      stands = led_on old new before (i + 1, shown_line line) follows.stands advanced;
      read = map-append entry_shown read (option_to_list entry) ∙
          rw (follows.read, option_listed entry, here) (sym (one_more [] before (i + 1, shown_line line)));
    }

-- all lines are read
pub all_read : (segments : Segments) (read : List Entry) (lines : List LineMeaning) (i : ℕ) → length lines ≤ i →
    Follows segments read (take i (numbered_lines lines)) → map entry_shown read ≡ entries_of (numbered_lines lines)
all_read segments read lines i past follows =
    let all = length-enumerate_from 1 (map shown_line lines) in
    let mapped = length-map lines shown_line in
    follows.read ∙ ap entries_of (take_all i (numbered_lines lines) (omega arith))

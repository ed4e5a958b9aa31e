-- The bytes of a report read back as what its run says.
use Rattle.std.proofs.Common.{◌≡◌, ℕ, ◌+◌, ◌-◌, ◌==◌, ◌<◌, ◌≤◌, false, List, [], ◌∷◌, ◌++◌}
use Rattle.std.proofs.Common.{length, take, refl, sym, ap, ◌∙◌, arith, append_assoc, Some, None}
use Rattle.std.proofs.Common.{Ok, Err}
use Rattle.std.specs.Prelude.{slice_index, if◌then◌else◌}
use Rattle.std.specs.List.{AllByRecursion, AllZip, concat, flat_map, slice_split}
use Rattle.std.proofs.Math.Seq.{take-append_seam}
use Rattle.std.proofs.lemmas.List.{append-nil, length-append}
use Rattle.std.proofs.lemmas.List.Splits.{slice_split_at, slice_split_none}
use Rattle.msg_core.specs.View.{most_members}
use Rattle.script_mean.specs.Event.{member_of}
use Rattle.script_mean.specs.declared.event.ScriptEvent.{ScriptEvent}
use Rattle.audit_mean.specs.Finding.{too_large, report_finding, finding_of, least}
use Rattle.audit_mean.specs.Line.{ReportLine, end, line_said}
use Rattle.audit_mean.specs.Report.{running, stage_after, report_from}
use Rattle.audit_mean.specs.Text.{is_too_large, unended, lines_of}
use Rattle.layer_mean.specs.Tree.{LayerTree}
use Rattle.packet_laws.specs.Strays.{AreNumbered}
use Rattle.stack_mean.specs.Plan.{Plan}
use Rattle.stack_mean.specs.Plans.{plans_of}
use Rattle.run_mean.specs.Report.{Moment, moments, moment_lines, run_of, report_lines, end_line}
use Rattle.run_mean.specs.World.{World, happens, first_world}
use Rattle.chain_laws.specs.Runs.{TypedStack}
use Rattle.member_laws.specs.Members.{IsGivenEvent, IsChainedWorld}
use Rattle.member_laws.proofs.Members.{all_of, events_keep_chains, first_world_is_chained}
use Rattle.member_laws.proofs.Numbered.{plans_are_numbered}
use Rattle.order_laws.specs.Said.{moment_said}
use Rattle.report_laws.specs.ReadsBack.{report_bytes, ReportReadsBack, found_in, AuditFinds}
use Rattle.report_laws.specs.ReadsBack.{KeptIsFound}
use Rattle.report_laws.proofs.Lines.{Says, SaysOn, end_says}
use Rattle.report_laws.proofs.Moments.{zip_both, moment_says}
use Rattle.report_laws.proofs.Sayable.{event_says}
use Rattle.report_laws.proofs.Texts.{Whole, whole_layers}

-- lines and what they say: their texts, without line feeds

texts_of : (ls : List (List ℕ)) (xs : List ReportLine) → AllZip Says ls xs → List (List ℕ)
texts_of [] [] h = []
texts_of [] (x ∷ xs) h = absurd h
texts_of (l ∷ ls) [] h = absurd h
texts_of (l ∷ ls) (x ∷ xs) h = h.0.text ∷ texts_of ls xs h.1

-- texts with a line feed between
feeds : List ℕ → List (List ℕ) → List ℕ
feeds t [] = t
feeds t (u ∷ us) = t ++ 10 ∷ feeds u us

ended : (l t more : List ℕ) (j : List ℕ) → l ≡ t ++ 10 ∷ [] → more ≡ j ++ 10 ∷ [] → l ++ more ≡ (t ++ 10 ∷ j) ++ 10 ∷ []
ended l t more j hl hm =
    ap (λ a. a ++ more) hl ∙ ap (λ b. (t ++ 10 ∷ []) ++ b) hm ∙ append_assoc t (10 ∷ []) (j ++ 10 ∷ [])
    ∙ sym (append_assoc t (10 ∷ j) (10 ∷ []))

concat_is : (l : List ℕ) (x : ReportLine) (ls : List (List ℕ)) (xs : List ReportLine) (first : Says l x)
    (h : AllZip Says ls xs) → concat (l ∷ ls) ≡ feeds first.text (texts_of ls xs h) ++ 10 ∷ []
unfolding texts_of feeds
concat_is l x [] [] first h = append-nil l ∙ first.written
concat_is l x [] (y ∷ xs) first h = absurd h
concat_is l x (k ∷ ls) [] first h = absurd h
concat_is l x (k ∷ ls) (y ∷ xs) first h =
    ended l first.text (concat (k ∷ ls)) (feeds h.0.text (texts_of ls xs h.1)) first.written
    (concat_is k y ls xs h.0 h.1)

split_is : (l : List ℕ) (x : ReportLine) (ls : List (List ℕ)) (xs : List ReportLine) (first : Says l x)
    (h : AllZip Says ls xs) →
    slice_split (λ byte. byte == 10) (feeds first.text (texts_of ls xs h)) ≡ first.text ∷ texts_of ls xs h
unfolding texts_of feeds
split_is l x [] [] first h =
    slice_split_none (λ byte. byte == 10) first.text (all_of (λ b. (b == 10) ≡ false) first.text first.whole)
split_is l x [] (y ∷ xs) first h = absurd h
split_is l x (k ∷ ls) [] first h = absurd h
split_is l x (k ∷ ls) (y ∷ xs) first h =
    slice_split_at (λ byte. byte == 10) first.text 10 (feeds h.0.text (texts_of ls xs h.1))
    (all_of (λ b. (b == 10) ≡ false) first.text first.whole) refl
    ∙ ap (λ (us : List (List ℕ)). first.text ∷ us) (split_is k y ls xs h.0 h.1)

-- the last line feed is taken off

index_last : (xs : List ℕ) (b : ℕ) → slice_index (xs ++ b ∷ []) (length xs) ≡ b
index_last [] b = refl
index_last (x ∷ xs) b = index_last xs b

lines_some : (text : List ℕ) → 0 < length text → lines_of text ≡ slice_split (λ byte. byte == 10) (unended text)
lines_some [] some = absurd (omega (arith, some))
lines_some (c ∷ text) some = refl

unended_is : (xs : List ℕ) → unended (xs ++ 10 ∷ []) ≡ xs
unended_is xs =
    let text = xs ++ 10 ∷ [] in
    let long : length text ≡ length xs + 1 = length-append xs (10 ∷ []) in
    let place : length text - 1 ≡ length xs = omega (arith, long) in
    ap (λ n. if slice_index text n == 10 then take n text else text) place
    ∙ ap (λ v. if v == 10 then take (length xs) text else text) (index_last xs 10)
    ∙ take-append_seam xs (10 ∷ [])

lines_back : (ls : List (List ℕ)) (xs : List ReportLine) (h : AllZip Says ls xs) → 0 < length ls →
    lines_of (concat ls) ≡ texts_of ls xs h
unfolding texts_of
lines_back [] xs h some = absurd (omega (arith, some))
lines_back (l ∷ ls) [] h some = absurd h
lines_back (l ∷ ls) (x ∷ xs) h some =
    let all = feeds h.0.text (texts_of ls xs h.1) in
    let long : length (all ++ 10 ∷ []) ≡ length all + 1 = length-append all (10 ∷ []) in
    ap lines_of (concat_is l x ls xs h.0 h.1) ∙ lines_some (all ++ 10 ∷ []) (omega (arith, long))
    ∙ ap (slice_split (λ byte. byte == 10)) (unended_is all) ∙ split_is l x ls xs h.0 h.1

-- an audit reads them one after the other

goes_on : (n : ℕ) (text : List ℕ) (x : ReportLine) (rest : List (List ℕ)) (all : List ReportLine) →
    line_said text ≡ Some x → stage_after running x ≡ Some running → report_from running (n + 1) rest ≡ Ok all →
    report_from running n (text ∷ rest) ≡ Ok (x ∷ all)
goes_on n text x rest all said stays is = rw (said, stays, is) refl

ends_so : (n : ℕ) (text : List ℕ) → line_said text ≡ Some end → report_from running n (text ∷ []) ≡ Ok (end ∷ [])
ends_so n text said = rw said refl

says_all : (ls : List (List ℕ)) (xs : List ReportLine) (l : List ℕ) → AllZip SaysOn ls xs → Says l end →
    AllZip Says (ls ++ l ∷ []) (xs ++ end ∷ [])
says_all [] [] l h last = (last, tt)
says_all [] (x ∷ xs) l h last = absurd h
says_all (k ∷ ls) [] l h last = absurd h
says_all (k ∷ ls) (x ∷ xs) l h last = (h.0.says, says_all ls xs l h.1 last)

reads : (ls : List (List ℕ)) (xs : List ReportLine) (l : List ℕ) (h : AllZip SaysOn ls xs) (last : Says l end) (n : ℕ) →
    report_from running n (texts_of (ls ++ l ∷ []) (xs ++ end ∷ []) (says_all ls xs l h last)) ≡ Ok (xs ++ end ∷ [])
unfolding texts_of says_all
reads [] [] l h last n = ends_so n last.text last.said
reads [] (x ∷ xs) l h last n = absurd h
reads (k ∷ ls) [] l h last n = absurd h
reads (k ∷ ls) (x ∷ xs) l h last n =
    goes_on n h.0.says.text x (texts_of (ls ++ l ∷ []) (xs ++ end ∷ []) (says_all ls xs l h.1 last)) (xs ++ end ∷ [])
    h.0.says.said h.0.stays (reads ls xs l h.1 last (n + 1))

-- the lines of a run

run_says : (stack : List LayerTree) (plans : List Plan) (members : ℕ) (w : World) (events : List ScriptEvent) →
    TypedStack stack → AllByRecursion Whole stack → AreNumbered plans → members ≤ most_members →
    AllByRecursion IsGivenEvent events → AllByRecursion (λ e. member_of e < members) events → IsChainedWorld stack w →
    AllZip SaysOn (flat_map (moment_lines stack plans None) (moments stack plans w events))
    (flat_map (moment_said stack) (moments stack plans w events))
run_says stack plans members w [] typed whole are most given mine world = tt
run_says stack plans members w (e ∷ events) typed whole are most given mine world =
    let g = happens stack plans w e in
    let m : Moment = record { before = w; event = e; happening = g } in
    zip_both SaysOn (moment_lines stack plans None m)
    (flat_map (moment_lines stack plans None) (moments stack plans g.world events)) (moment_said stack m)
    (flat_map (moment_said stack) (moments stack plans g.world events))
    (moment_says stack whole plans m (omega (arith, mine.0, most)) (event_says stack plans w e typed are given.0 world))
    (run_says stack plans members g.world events typed whole are most given.1 mine.1
    (events_keep_chains stack plans w e typed are given.0 world))

pub report_reads_back : ReportReadsBack
unfolding report_lines
report_reads_back stack s typed named is =
    let plans = plans_of stack in
    let w = first_world stack s.group s.stamp s.members in
    let ls = flat_map (moment_lines stack plans None) (run_of stack plans s) in
    let xs = flat_map (moment_said stack) (run_of stack plans s) in
    let l = end_line (length s.events) in
    let says = run_says stack plans s.members w s.events typed (whole_layers stack named)
    (plans_are_numbered stack typed) is.members is.given is.of_members
    (first_world_is_chained stack s.group s.stamp s.members typed is.group is.stamp is.members) in
    let last = end_says (length s.events) is.few in
    let long : length (ls ++ l ∷ []) ≡ length ls + 1 = length-append ls (l ∷ []) in
    ap (report_from running 1)
    (lines_back (ls ++ l ∷ []) (xs ++ end ∷ []) (says_all ls xs l says last) (omega (arith, long)))
    ∙ reads ls xs l says last 1

pub audit_finds : AuditFinds
audit_finds law stack s typed named is =
    ap (λ r. if is_too_large (report_bytes stack s) then Err too_large else report_finding law r)
    (report_reads_back stack s typed named is)

pub kept_is_found : KeptIsFound
kept_is_found law stack s typed named is small kept =
    audit_finds law stack s typed named is
    ∙ ap (λ t. if t then Err too_large else Ok (found_in law stack s)) small
    ∙ ap (λ bs. Ok (finding_of (least bs))) kept

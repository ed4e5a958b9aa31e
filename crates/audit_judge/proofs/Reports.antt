-- The lines of a report, read one by one.
use Rattle.std.proofs.Common.{◌≡◌, ℕ, ◌+◌, ◌-◌, ◌≤◌, Bool, true, false, take, List, [], ◌∷◌, ◌++◌, length, Some, None}
use Rattle.std.proofs.Common.{Result, Ok, Err, refl, ap, ◌∙◌, sym, append_assoc, arith}
use Rattle.std.specs.Prelude.{◌==◌, slice_index, if◌then◌else◌}
use Rattle.std.proofs.lemmas.List.{length-take}
use Rattle.std.proofs.lemmas.List.Sums.{count_by-le-length}
use Rattle.std.proofs.lemmas.List.Splits.{length-slice_split}
use Rattle.audit_mean.specs.Line.{ReportLine, line_said}
use Rattle.audit_mean.specs.Report.{Stage, ◌>>=◌, stage_after, running, report_from}
use Rattle.audit_mean.specs.Text.{lines_of, unended}

-- the lines read so far, before what the others say
abbrev pub with_front : List ReportLine → Result (List ReportLine) ℕ → Result (List ReportLine) ℕ
with_front front (Ok lines) = Ok (front ++ lines)
with_front front (Err number) = Err number

front_more : (front : List ReportLine) (said : ReportLine) (rest : Result (List ReportLine) ℕ) →
    with_front (front ++ said ∷ []) rest ≡ with_front front (rest >>= λ more. Ok (said ∷ more))
front_more front said (Ok lines) = ap Ok (append_assoc front (said ∷ []) lines)
front_more front said (Err number) = refl

-- with one more line read, those read and the others still are the whole
pub goes_on : (front : List ReportLine) (stage next : Stage) (number : ℕ) (line : List ℕ) (said : ReportLine)
    (all following : List (List ℕ)) (whole : Result (List ReportLine) ℕ) → all ≡ line ∷ following →
    line_said line ≡ Some said → stage_after stage said ≡ Some next → with_front front (report_from stage number all) ≡
    whole → with_front (front ++ said ∷ []) (report_from next (number + 1) following) ≡ whole
goes_on front stage next number line said all following whole split reads stands e =
    front_more front said (report_from next (number + 1) following) ∙ rw (split, reads, stands) at e

-- a line that says nothing in form is the first fault
pub no_line : (front : List ReportLine) (stage : Stage) (number : ℕ) (line : List ℕ) (all following : List (List ℕ))
    (whole : Result (List ReportLine) ℕ) → all ≡ line ∷ following → line_said line ≡ None →
    with_front front (report_from stage number all) ≡ whole → whole ≡ Err number
no_line front stage number line all following whole split reads e = sym (rw (split, reads) at e)

-- and so is one out of place
pub no_place : (front : List ReportLine) (stage : Stage) (number : ℕ) (line : List ℕ) (said : ReportLine)
    (all following : List (List ℕ)) (whole : Result (List ReportLine) ℕ) → all ≡ line ∷ following →
    line_said line ≡ Some said → stage_after stage said ≡ None → with_front front (report_from stage number all) ≡
    whole → whole ≡ Err number
no_place front stage number line said all following whole split reads stands e = sym (rw (split, reads, stands) at e)

-- with no lines before, the whole stays as it is
nothing : (whole : Result (List ReportLine) ℕ) → with_front [] whole ≡ whole
nothing (Ok lines) = refl
nothing (Err number) = refl

short : (last : Bool) (text : List ℕ) → length (if last then take (length text - 1) text else text) ≤ length text
short true text = omega (arith, length-take (length text - 1) text)
short false text = omega arith

-- a text has at most one line more than bytes
lines_bound : (text : List ℕ) → length (lines_of text) ≤ length text + 1
lines_bound [] = omega arith
lines_bound (byte ∷ rest) =
    let text : List ℕ = byte ∷ rest in
    let parts = length-slice_split (λ b. b == 10) (unended text) in
    let feeds = count_by-le-length (λ b. b == 10) (unended text) in
    let bytes = short (slice_index text (length text - 1) == 10) text in
    omega arith

-- at first nothing is read
pub begins : (text : List ℕ) (front : List ReportLine) (read : ℕ) (left : List (List ℕ)) → front ≡ [] → read ≡ 0 →
    left ≡ lines_of text → length text ≤ 67108864 →
    (with_front front (report_from running (read + 1) left) ≡ report_from running 1 (lines_of text)) ×
    (read + length left ≤ 67108865)
begins text front read left none zero all small =
    let bound = lines_bound text in
    rw (none, zero, all) (nothing (report_from running 1 (lines_of text)), omega arith)

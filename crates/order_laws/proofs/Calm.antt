-- The deliveries of calm lines.
use Rattle.std.proofs.Common.{◌≡◌, ℕ, ◌+◌, List, [], ◌∷◌, ◌++◌, length, refl, ap, ◌∙◌, arith, Option, Some}
use Rattle.std.specs.List.{enumerate_from, filter_map}
use Rattle.std.proofs.lemmas.List.Elements.{filter_map-append}
use Rattle.std.proofs.lemmas.List.Sums.{fold-append}
use Rattle.audit_mean.specs.Line.{ReportLine, deliver, view, end, visits, silent}
use Rattle.audit_mean.specs.Line as line
use Rattle.audit_mean.specs.Segment.{Numbered, Segment, first_segment, segment_after, segment_next, entries_after}
use Rattle.order_laws.specs.Calm.{IsCalm, AreCalm, first_entry, deliveries_from, CalmDeliveries}

numbered_both : (n : ℕ) (xs ys : List ReportLine) →
    enumerate_from n (xs ++ ys) ≡ enumerate_from n xs ++ enumerate_from (n + length xs) ys
numbered_both n [] ys = ap (λ k. enumerate_from k ys) (omega arith)
numbered_both n (x ∷ xs) ys = ap (λ ls. (n, x) ∷ ls)
    (numbered_both (n + 1) xs ys ∙ ap (λ k. enumerate_from (n + 1) xs ++ enumerate_from k ys) (omega arith))

pub deliveries_both : (n : ℕ) (xs ys : List ReportLine) →
    deliveries_from n (xs ++ ys) ≡ deliveries_from n xs ++ deliveries_from (n + length xs) ys
deliveries_both n xs ys =
    ap (filter_map first_entry) (numbered_both n xs ys)
    ∙ filter_map-append first_entry (enumerate_from n xs) (enumerate_from (n + length xs) ys)

pub calm_both : (xs ys : List ReportLine) → AreCalm xs → AreCalm ys → AreCalm (xs ++ ys)
calm_both [] ys h more = more
calm_both (x ∷ xs) ys h more = (h.0, calm_both xs ys h.1 more)

-- each member is still in its first segment
InFirst : List Numbered → Type 0
InFirst before = (member : ℕ) → segment_after member before ≡ Some first_segment

calm_next : (member n : ℕ) (x : ReportLine) → IsCalm x → (o : Option Segment) → segment_next member o (n, x) ≡ o
calm_next member n (deliver m p b) h o = refl
calm_next member n (view m l k) h o = absurd h
calm_next member n (line.out m) h o = absurd h
calm_next member n end h o = refl
calm_next member n visits h o = refl
calm_next member n silent h o = refl

first_stays : (before : List Numbered) (n : ℕ) (x : ReportLine) → IsCalm x → InFirst before →
    InFirst (before ++ (n, x) ∷ [])
unfolding InFirst
first_stays before n x calm first member =
    fold-append (segment_next member) (Some first_segment) before ((n, x) ∷ [])
    ∙ calm_next member n x calm (segment_after member before) ∙ first member

entries_are : (lines : List ReportLine) (n : ℕ) (before : List Numbered) → InFirst before → AreCalm lines →
    entries_after before (enumerate_from n lines) ≡ deliveries_from n lines
unfolding InFirst
entries_are [] n before first calm = refl
entries_are (deliver m p b ∷ xs) n before first calm =
    rw (first m) (ap (λ es. record { line = n; member = m; segment = first_segment; peer = p; body = b } ∷ es)
    (entries_are xs (n + 1) (before ++ (n, deliver m p b) ∷ [])
    (first_stays before n (deliver m p b) tt first) calm.1))
entries_are (view m l k ∷ xs) n before first calm = absurd calm.0
entries_are (line.out m ∷ xs) n before first calm = absurd calm.0
entries_are (end ∷ xs) n before first calm =
    entries_are xs (n + 1) (before ++ (n, end) ∷ []) (first_stays before n end tt first) calm.1
entries_are (visits ∷ xs) n before first calm =
    entries_are xs (n + 1) (before ++ (n, visits) ∷ []) (first_stays before n visits tt first) calm.1
entries_are (silent ∷ xs) n before first calm =
    entries_are xs (n + 1) (before ++ (n, silent) ∷ []) (first_stays before n silent tt first) calm.1

pub calm_deliveries : CalmDeliveries
unfolding InFirst
calm_deliveries lines calm = entries_are lines 1 [] (λ member. refl) calm

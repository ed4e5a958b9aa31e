-- The texts of which there is a picture are those that an audit takes.
use Rattle.std.proofs.Common.{◌≡◌, refl, ℕ, ◌≤◌, Bool, true, false, List, length, arith}
use Rattle.std.specs.Prelude.{Result, Ok, Err, if◌then◌else◌}
use Rattle.std.proofs.lemmas.Bool.Decides.{nat_tests}
use Rattle.audit_mean.specs.Text.{is_too_large, lines_of}
use Rattle.audit_mean.specs.Line.{ReportLine}
use Rattle.audit_mean.specs.Report.{running, report_from}
use Rattle.audit_mean.specs.Finding.{AuditFault, too_large, report_finding, audit_of}
use Rattle.audit_mean.specs.declared.law.Law.{Law}
use Rattle.audit_mean.specs.declared.law.Finding.{Finding}
use Rattle.chart_mean.specs.Picture.{range_picture, report_picture, chart_of}
use Rattle.chart_mean.specs.Excerpt.{Excerpt}

module _ (law : Law) (excerpt : Excerpt) (text : List ℕ) where
  taken : (large : Bool) (lines : Result (List ReportLine) ℕ) (finding : Finding) →
      (if large then Err too_large else report_finding law lines) ≡ Ok finding →
      (large ≡ false) × ((if large then Err too_large else report_picture excerpt (lines_of text) lines) ≡
      Ok (range_picture excerpt (lines_of text)))
  taken true lines finding is = absurd (cc is)
  taken false (Err number) finding is = absurd (cc is)
  taken false (Ok said) finding is = (refl, refl)

  refused : (large : Bool) (lines : Result (List ReportLine) ℕ) (fault : AuditFault) →
      (if large then Err too_large else report_finding law lines) ≡ Err fault →
      (if large then Err too_large else report_picture excerpt (lines_of text) lines) ≡ Err fault
  refused true lines fault is = cc is
  refused false (Err number) fault is = cc is
  refused false (Ok said) fault is = absurd (cc is)

  -- a text on which an audit finds something has a picture
  pub pictured_where_judged : (finding : Finding) → audit_of law text ≡ Ok finding →
      chart_of excerpt text ≡ Ok (range_picture excerpt (lines_of text))
  pictured_where_judged finding is = (taken (is_too_large text) (report_from running 1 (lines_of text)) finding is).1

  -- and isn't too large
  pub fits_where_judged : (finding : Finding) → audit_of law text ≡ Ok finding → length text ≤ 67108864
  fits_where_judged finding is =
      let small = (taken (is_too_large text) (report_from running 1 (lines_of text)) finding is).0 in
      grind (arith, nat_tests, small)

  -- a text that an audit refuses has none, for the same fault
  pub refused_where_refused : (fault : AuditFault) → audit_of law text ≡ Err fault → chart_of excerpt text ≡ Err fault
  refused_where_refused fault is = refused (is_too_large text) (report_from running 1 (lines_of text)) fault is

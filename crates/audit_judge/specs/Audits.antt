-- What the answer of an audit says of what the definitions find.
use Rattle.std.specs.Prelude.{◌≡◌, Result, Ok, Err}
use Rattle.audit_mean.specs.Finding.{AuditFault, too_large, bad_line}
use Rattle.audit_mean.specs.declared.law.Finding.{Finding}
use Rattle.audit_judge.specs.declared.error.AuditError.{AuditError}
use Rattle.audit_judge.specs.declared.error.AuditError.TheVariants.{TooLarge, Line, Memory}

-- the answer is the finding, or why the text is no report; want of memory says nothing
abbrev pub Audits : Result Finding AuditFault → Result Finding AuditError → Type 0
Audits judged (Ok finding) = judged ≡ Ok finding
Audits judged (Err TooLarge) = judged ≡ Err too_large
Audits judged (Err (Line number)) = judged ≡ Err (bad_line number)
Audits judged (Err Memory) = Unit {0}

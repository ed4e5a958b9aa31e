use Rattle.std.proofs.Common.{◌≡◌, ◌+◌, ◌≤◌, length}
use Rattle.std.specs.Prelude.{map}
use Rattle.audit_mean.specs.Report.{running, report_from}
use Rattle.audit_mean.specs.Text.{lines_of}
use Rattle.audit_judge.specs.Reading.{shown_line, stage_shown, parts_left}
use Rattle.audit_judge.proofs.Reports.{with_front}
use Rattle.audit_judge.proofs.report.read_lines.Given as goal

abbrev pub invariant-loop-line : goal.invariant-loop-line
invariant-loop-line l =
    (with_front (map shown_line l.lines.items)
    (report_from (stage_shown l.stage) (length l.lines.items + 1) (parts_left l.line-iterator)) ≡
    report_from running 1 (lines_of l.fn.text))
    × (length l.lines.items + length (parts_left l.line-iterator) ≤ 67108865)

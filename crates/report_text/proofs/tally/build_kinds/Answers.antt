use Rattle.std.proofs.Common.{ap, ◌∙◌}
use Rattle.report_lines.proofs.Rows.{in_other_words}
use Rattle.report_text.specs.Counts.{kinds_line}
use Rattle.report_text.proofs.Tallied.{kinds_joined}
use Rattle.report_text.proofs.tally.build_kinds.Goals as goal

pub returns : goal.returns
returns c = in_other_words _ _ _ _ _ (kinds_joined c.counts-counts.result ∙ ap kinds_line c.counts-counts.ensures)
    c.push_kinds.ensures

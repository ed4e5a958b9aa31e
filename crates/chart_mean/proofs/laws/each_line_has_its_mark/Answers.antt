use Rattle.chart_mean.proofs.Shown.{as_many_lines, as_many_marks}
use Rattle.chart_mean.proofs.laws.each_line_has_its_mark.Goals as goal

pub returns-clause-lines : goal.returns-clause-lines
returns-clause-lines c = as_many_lines

pub returns-clause-marks : goal.returns-clause-marks
returns-clause-marks c = as_many_marks

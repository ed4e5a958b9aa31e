use Rattle.std.proofs.Common.{ap, ◌∙◌, length}
use Rattle.std.specs.Prelude.{map}
use Rattle.audit_judge.specs.Reading.{shown_line, parts_left}
use Rattle.audit_judge.proofs.Reports.{begins}
use Rattle.audit_judge.proofs.report.read_lines.Goals as goal

pub loop-line-init : goal.loop-line-init
loop-line-init c =
    begins c.args.text.now _ _ _ (ap (map shown_line) c.new-lines.ensures.items) (ap length c.new-lines.ensures.items)
    (ap parts_left c.into_iter-line-iterator.ensures.into_iter_gives ∙ c.lines-line-items.ensures) c.requires

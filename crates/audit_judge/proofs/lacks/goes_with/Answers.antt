use Rattle.std.proofs.Common.{◌∙◌}
use Rattle.audit_judge.proofs.Marking.{keyed}
use Rattle.audit_judge.proofs.lacks.goes_with.Goals as goal

pub returns : goal.returns
returns c = c.eq.ensures ∙ keyed c.args.other.now c.args.one.now.way

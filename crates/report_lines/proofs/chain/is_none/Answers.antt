use Rattle.std.proofs.Common.{◌∙◌, sym}
use Rattle.std.proofs.lemmas.Bool.{eqb-true}
use Rattle.report_lines.proofs.Nones.{none_is}
use Rattle.report_lines.proofs.chain.is_none.Goals as goal

pub returns : goal.returns
returns c = λ empty. none_is c.args.header.now c.if-header-ne0.false
    (sym c.len.ensures.count ∙ eqb-true c.len.result 0 empty)

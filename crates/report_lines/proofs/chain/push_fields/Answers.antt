use Rattle.std.proofs.Common.{◌∙◌, ◌∷◌, [], arith}
use Rattle.std.specs.Fmt.{decimal}
use Rattle.report_lines.proofs.Joined.{line_more}
use Rattle.report_lines.proofs.chain.push_fields.Goals as goal

pub loop-k-preserved : goal.loop-k-preserved
loop-k-preserved c =
    line_more decimal (44 ∷ []) _ _ _ 0 _ _ _ _ c.loop-k.invariant c.in_ok-push_lead.ensures c.in_ok-number.ensures
    (omega (arith, c.loop-k-test.true, c.len-k-end.ensures.count)) (c.from.ensures ∙ c.at.ensures)

use Rattle.std.proofs.lemmas.Result.{err_from_is_err_and}
use Rattle.outside.proofs.Turns.{wrote_both, wrote_part}
use Rattle.report_text.proofs.output.write_output.Goals as goal

pub returns-in_err-put_output : goal.returns-in_err-put_output
returns-in_err-put_output g c =
    let p = err_from_is_err_and c.from_residual.result c.from_residual.ensures.1 in
    rw (p.1, p.2) (wrote_part _ _ _ _ _ c.in_err-put_output.ensures)

pub returns-then-manner : goal.returns-then-manner
returns-then-manner g c = rw c.if-manner.true (wrote_both _ _ _ _ _ _ c.in_ok-put_output.ensures c.put_wire.ensures)

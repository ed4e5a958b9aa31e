use Rattle.std.proofs.lemmas.Result.{err_from_is_err_and}
use Rattle.outside.proofs.Turns.{wrote_both, wrote_part}
use Rattle.report_text.proofs.event.write_event.Goals as goal

pub returns-in_err-write_told : goal.returns-in_err-write_told
returns-in_err-write_told g c =
    let p = err_from_is_err_and c.from_residual.result c.from_residual.ensures.1 in
    rw (p.1, p.2) (wrote_part _ _ _ _ _ c.in_err-write_told.ensures)

pub returns : goal.returns
returns g c = wrote_both _ _ _ _ _ _ c.in_ok-write_told.ensures c.write_yield.ensures

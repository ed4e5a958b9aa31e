use Rattle.std.proofs.lemmas.Result.{err_from_is_err_and}
use Rattle.outside.proofs.Turns.{wrote_both, wrote_part}
use Rattle.synth_print.proofs.traces.write_rest.Goals as goal

pub returns-in_err-write_entries : goal.returns-in_err-write_entries
returns-in_err-write_entries g c =
    let p = err_from_is_err_and c.from_residual.result c.from_residual.ensures.1 in
    rw (p.1, p.2) (wrote_part _ _ _ _ _ c.in_err-write_entries.ensures)

pub returns : goal.returns
returns g c = wrote_both _ _ _ _ _ _ c.in_ok-write_entries.ensures c.put_line.ensures.wrote

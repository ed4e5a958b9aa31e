use Rattle.std.proofs.Common.{refl, [], ◌∷◌}
use Rattle.std.proofs.lemmas.Result.{err_from_is_err_and}
use Rattle.run_mean.specs.Report.{end_line, visits_line}
use Rattle.outside.proofs.Turns.{part_of, wrote_both}
use Rattle.stack_play.specs.Turns.{visits_if}
use Rattle.stack_play.proofs.reporting.write_last.Goals as goal

pub returns-in_err-write_end : goal.returns-in_err-write_end
returns-in_err-write_end g c =
    let p = err_from_is_err_and c.from_residual.result c.from_residual.ensures.1 in
    rw (p.1, p.2) (part_of _ _ (end_line c.args.events ∷ []) (visits_if c.args.count c.args.visits) _ _ refl
    c.in_err-write_end.ensures)

pub returns-then-count : goal.returns-then-count
returns-then-count g c =
    rw c.if-count.true (wrote_both _ _ _ (end_line c.args.events ∷ []) (visits_line c.args.visits ∷ [])
    c.write_visits.result
    c.in_ok-write_end.ensures c.write_visits.ensures)

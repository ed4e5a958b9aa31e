use Rattle.std.proofs.Common.{◌∷◌, [], refl}
use Rattle.std.proofs.lemmas.Result.{err_from_is_err_and}
use Rattle.outside.proofs.Turns.{part_of, wrote_both}
use Rattle.report_text.specs.Counts.{kinds_line, short_line}
use Rattle.report_text.proofs.tally.write_tally.Goals as goal

pub returns-in_err-write_kinds : goal.returns-in_err-write_kinds
returns-in_err-write_kinds g c =
    let p = err_from_is_err_and c.from_residual.result c.from_residual.ensures.1 in
    rw (p.1, p.2) (part_of _ _ (kinds_line c.args.tally.now ∷ []) (short_line c.args.tally.now ∷ []) _ _ refl
    c.in_err-write_kinds.ensures)

pub returns : goal.returns
returns g c =
    wrote_both _ _ _ (kinds_line c.args.tally.now ∷ []) (short_line c.args.tally.now ∷ []) _ c.in_ok-write_kinds.ensures
    c.write_short.ensures

use Rattle.std.proofs.Common.{rules}
use Rattle.std.proofs.lemmas.Result.{err_from_is_err_and}
use Rattle.format_layout.specs.Shown.{begun_of, piece_of}
use Rattle.format_layout.proofs.Lines.{put_cut}
use Rattle.format_layout.proofs.line.LineCursor.put.Goals as goal

pub returns-in_err-put_after-clause-wrote : goal.returns-in_err-put_after-clause-wrote
returns-in_err-put_after-clause-wrote g c =
    let p = err_from_is_err_and c.from_residual-in_err-put_after.result c.from_residual-in_err-put_after.ensures.1 in
    rw (p.1, p.2) (put_cut _ _ (begun_of c.args.self.now) (piece_of c.args.feeds c.args.spelling.now) _ (search rules)
    c.in_ok-end_line.ensures.wrote)

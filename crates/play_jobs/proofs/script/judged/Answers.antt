use Rattle.std.proofs.Common.{sym, subst}
use Rattle.script_mean.specs.Script.{script_of}
use Rattle.file_jobs.specs.Second.{Refused}
use Rattle.file_jobs.proofs.SecondStops.{refused_so}
use Rattle.play_jobs.proofs.script.judged.Goals as goal

pub returns-in-Err : goal.returns-in-Err
returns-in-Err c = subst (Refused script_of c.args.text.now) (sym c.refusal.ensures)
    (refused_so script_of c.args.text.now c.in-Err.error c.in-Err.ensures.spelled)

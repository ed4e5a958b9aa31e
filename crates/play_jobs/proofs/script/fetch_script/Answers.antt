use Rattle.script_mean.specs.Script.{IsRunnable, script_of}
use Rattle.job_ends.specs.Shown.{shown_end}
use Rattle.file_jobs.proofs.SecondStops.{fetches, large_script, stops_unread}
use Rattle.play_jobs.proofs.script.fetch_script.Goals as goal

pub returns-in-Ok-clause-read : goal.returns-in-Ok-clause-read
returns-in-Ok-clause-read g c = fetches script_of IsRunnable _ _ _ _ c.in-Ok.text.items _ c.in-Ok.ensures.read
    (rw c.deref.ensures.value at c.judged.ensures)

pub returns-in-Err-clause-read : goal.returns-in-Err-clause-read
returns-in-Err-clause-read g c = stops_unread script_of large_script _ _ _ _ (shown_end c.in-Err.ending)
    c.in-Err.ensures.read

use Rattle.file_jobs.proofs.Fetched.{fetched_file}
use Rattle.file_jobs.proofs.stack.fetch_file.Goals as goal

pub returns-clause-read : goal.returns-clause-read
returns-clause-read g c = fetched_file _ _ _ _ c.in_ok-text.text.items _ c.in_ok-text.ensures.read
    (rw c.deref.ensures.value at c.judged_file.ensures)

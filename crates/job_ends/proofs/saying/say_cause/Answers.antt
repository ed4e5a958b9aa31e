use Rattle.job_ends.proofs.Texts.{says_file}
use Rattle.job_ends.proofs.saying.say_cause.Goals as goal

pub returns-in-Ok : goal.returns-in-Ok
returns-in-Ok g c =
    says_file c.args.error _
    (rw (c.as_bytes.ensures.value, c.in-Ok.ensures, c.file_status.ensures) at c.say_line.ensures.said)

use Rattle.job_ends.proofs.saying.say_traces_differ.Goals as goal

pub returns-in-Ok : goal.returns-in-Ok
returns-in-Ok g c = rw (c.as_bytes.ensures.value, c.in-Ok.ensures) at c.say_line.ensures.said

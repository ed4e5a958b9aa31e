use Rattle.format_run.proofs.ending.say_token.Goals as goal

pub returns-in-Ok : goal.returns-in-Ok
returns-in-Ok g c = rw (c.as_bytes.ensures.value, c.in-Ok.ensures) at c.say_line.ensures.said

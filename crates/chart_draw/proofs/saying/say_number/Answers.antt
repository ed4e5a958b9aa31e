use Rattle.chart_draw.proofs.saying.say_number.Goals as goal

pub returns-in-Ok : goal.returns-in-Ok
returns-in-Ok g c = rw (c.as_bytes.ensures.value, c.in-Ok.ensures) at c.say_line.ensures.said

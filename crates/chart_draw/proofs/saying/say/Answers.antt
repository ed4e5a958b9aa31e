use Rattle.chart_draw.proofs.saying.say.Goals as goal

pub returns-in-Words : goal.returns-in-Words
returns-in-Words g c = rw c.in-Words.is c.say_line-in-Words.ensures.said

pub returns-in-Read : goal.returns-in-Read
returns-in-Read g c = rw c.in-Read.is c.say_line-in-Read.ensures.said

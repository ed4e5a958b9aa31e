use Rattle.job_ends.proofs.saying.say.Goals as goal

pub returns-in-Words : goal.returns-in-Words
returns-in-Words g c = rw c.in-Words.is c.say_line-in-Words.ensures.said

pub returns-in-Read : goal.returns-in-Read
returns-in-Read g c = rw c.in-Read.is c.say_line-in-Read.ensures.said

pub returns-in-TooManyRows : goal.returns-in-TooManyRows
returns-in-TooManyRows g c = rw c.in-TooManyRows.is c.say_line-in-TooManyRows.ensures.said

pub returns-in-Link : goal.returns-in-Link
returns-in-Link g c = rw c.in-Link.is c.say_line-in-Link.ensures.said

use Rattle.chart_draw.proofs.text.Text.escaped_byte.Goals as goal

pub returns-in-38 : goal.returns-in-38
returns-in-38 c = rw c.in-38.is c.put.ensures

pub returns-in-60 : goal.returns-in-60
returns-in-60 c = rw c.in-60.is c.put-in-60.ensures

pub returns-in-62 : goal.returns-in-62
returns-in-62 c = rw c.in-62.is c.put-in-62.ensures

pub returns-in-34 : goal.returns-in-34
returns-in-34 c = rw c.in-34.is c.put-in-34.ensures

use Rattle.chart_draw.proofs.text.Text.number.Goals as goal

pub returns : goal.returns
returns c = rw (c.as_bytes.ensures.value, c.format.ensures.text) at c.put.ensures

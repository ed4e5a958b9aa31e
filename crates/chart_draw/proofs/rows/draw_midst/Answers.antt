use Rattle.chart_draw.proofs.rows.draw_midst.Goals as goal

pub returns : goal.returns
returns c = rw c.down-y.ensures.is at c.put_line.ensures

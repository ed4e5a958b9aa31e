use Rattle.chart_draw.proofs.marks.draw_arrow.Goals as goal

pub returns : goal.returns
returns c = rw c.in-Some.is (rw (c.down.ensures.is, c.from.ensures) at c.put_line.ensures)

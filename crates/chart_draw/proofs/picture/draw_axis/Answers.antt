use Rattle.chart_draw.proofs.picture.draw_axis.Goals as goal

pub returns : goal.returns
returns c = c.put_line.ensures

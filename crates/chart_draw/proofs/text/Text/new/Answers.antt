use Rattle.chart_draw.proofs.text.Text.new.Goals as goal

pub returns : goal.returns
returns c = c.new.ensures.items

use Rattle.std.proofs.Common.{ap, sym, drop}
use Rattle.chart_draw.proofs.pieces.Pieces.after_layer.Goals as goal

pub returns : goal.returns
returns c = sym (ap (drop 1) c.cut.ensures)

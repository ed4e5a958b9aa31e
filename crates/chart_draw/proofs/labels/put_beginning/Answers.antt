use Rattle.std.proofs.Common.{take}
use Rattle.hex.specs.Hex.{decode_of}
use Rattle.chart_mean.specs.Label.{most_shown, points, spelled}
use Rattle.chart_draw.proofs.Joined.{last}
use Rattle.chart_draw.proofs.labels.put_beginning.Goals as goal

pub returns : goal.returns
returns c =
    let body = c.args.body.now in
    let digits = take most_shown body in
    last c.put_points.result c.args.text.now (spelled digits (decode_of digits)) (points body) _ _
    (rw c.first_digits.ensures at c.in_ok-put_digits.ensures) c.put_points.ensures

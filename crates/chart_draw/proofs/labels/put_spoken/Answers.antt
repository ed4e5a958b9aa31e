use Rattle.std.specs.Prelude.{◌++◌, codes}
use Rattle.chart_mean.specs.Label.{body_text}
use Rattle.chart_draw.proofs.Joined.{last, more}
use Rattle.chart_draw.proofs.labels.put_spoken.Goals as goal

pub returns : goal.returns
returns c =
    let start = c.args.text.now in
    let one = c.args.verb.now in
    let to_two = more start one (codes " ") _ _ c.in_ok-put.ensures c.in_ok-put-2.ensures in
    last c.put_body.result start (one ++ codes " ") (body_text c.args.body.now) _ _ to_two c.put_body.ensures

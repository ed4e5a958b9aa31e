use Rattle.std.specs.Prelude.{◌++◌, codes}
use Rattle.chart_draw.proofs.Joined.{last, more}
use Rattle.chart_draw.proofs.labels.put_quoted.Goals as goal

pub returns : goal.returns
returns c =
    let start = c.args.text.now in
    let one = codes "\"" in
    let to_two = more start one c.args.bytes.now _ _ c.in_ok-put.ensures c.in_ok-put-2.ensures in
    last c.put-3.result start (one ++ c.args.bytes.now) (codes "\"") _ _ to_two c.put-3.ensures

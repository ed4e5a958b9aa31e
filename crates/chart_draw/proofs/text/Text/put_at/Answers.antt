use Rattle.std.specs.Prelude.{◌++◌, codes}
use Rattle.chart_mean.specs.Mark.{numbered}
use Rattle.chart_draw.proofs.Joined.{last, more}
use Rattle.chart_draw.proofs.text.Text.put_at.Goals as goal

pub returns : goal.returns
returns c =
    let start = c.args.self.now in
    let one = c.args.opening.now in
    let to_two = more start one (numbered (codes "x") c.args.x) _ _ c.in_ok-put.ensures c.in_ok-attribute.ensures in
    last c.attribute-2.result start (one ++ numbered (codes "x") c.args.x) (numbered (codes "y") c.args.y) _ _ to_two
    c.attribute-2.ensures

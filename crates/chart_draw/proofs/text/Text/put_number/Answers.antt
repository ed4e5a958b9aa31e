use Rattle.std.specs.Fmt.{decimal}
use Rattle.chart_draw.proofs.Joined.{last}
use Rattle.chart_draw.proofs.text.Text.put_number.Goals as goal

pub returns : goal.returns
returns c = last c.number.result c.args.self.now c.args.bytes.now (decimal c.args.number) _ _ c.in_ok-put.ensures
    c.number.ensures

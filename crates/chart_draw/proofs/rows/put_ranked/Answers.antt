use Rattle.std.specs.Prelude.{◌==◌, [], codes, if◌then◌else◌}
use Rattle.std.specs.Fmt.{decimal}
use Rattle.chart_draw.proofs.Joined.{last}
use Rattle.chart_draw.proofs.rows.put_ranked.Goals as goal

pub returns-in_ok-put-in-Some : goal.returns-in_ok-put-in-Some
returns-in_ok-put-in-Some c = rw c.in-Some.is
    (last c.number.result c.args.text.now (if c.in-Some.rank == 0 then [] else codes ",") (decimal c.args.id) _ _
    (rw c.comma.ensures at c.in_ok-put-in-Some.ensures) (rw c.from.ensures at c.number.ensures))

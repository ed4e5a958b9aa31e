use Rattle.std.proofs.Common.{◌≡◌, ◌++◌}
use Rattle.chart_mean.specs.Row.{members_below}
use Rattle.chart_draw.proofs.rows.put_members.Given as goal

abbrev pub invariant-loop-id : goal.invariant-loop-id
invariant-loop-id l = l.text ≡ l.initial.text ++ members_below l.view l.id

use Rattle.std.proofs.Common.{codes, arith, ◌∙◌}
use Rattle.std.specs.Fmt.{decimal}
use Rattle.layer_mean.specs.State.{cell_at, numbers_in}
use Rattle.group_feed.specs.Showing.{state_at}
use Rattle.report_lines.proofs.Joined.{line_more}
use Rattle.report_text.proofs.cells.push_numbers.Goals as goal

pub loop-k-preserved : goal.loop-k-preserved
loop-k-preserved g c =
    let s = state_at (g.S.Feed.group c.args.group.now) c.args.spot.id c.args.spot.place in
    line_more decimal (codes " ") (numbers_in (cell_at s c.args.spot.cell)) c.loop-k.k _ 0 _ _ _ _
    c.loop-k.invariant c.in_ok-push_lead.ensures c.in_ok-number.ensures
    (omega (arith, c.loop-k-test.true, c.numbers_count-k-end.ensures)) (c.from.ensures ∙ c.number.ensures)

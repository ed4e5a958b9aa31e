use Rattle.std.proofs.Common.{◌≡◌, ◌++◌, take, codes}
use Rattle.std.specs.List.{join_by}
use Rattle.std.specs.Fmt.{decimal}
use Rattle.layer_mean.specs.State.{cell_at, numbers_in}
use Rattle.group_feed.specs.Showing.{state_at}
use Rattle.report_text.proofs.cells.push_numbers.Given as goal

abbrev pub invariant-loop-k : goal.invariant-loop-k
invariant-loop-k g l =
    l.line ≡ l.initial.line
    ++ join_by decimal (codes " ")
    (take l.k (numbers_in (cell_at (state_at (g.S.Feed.group l.group) l.spot.id l.spot.place) l.spot.cell)))

use Rattle.std.proofs.Common.{sym}
use Rattle.std.proofs.lemmas.Result.{err_from_is_err_and}
use Rattle.stack_judge.specs.Answer.{stack_tree}
use Rattle.group_feed.specs.Showing.{shown_in}
use Rattle.outside.proofs.Turns.{part_of, wrote_as, wrote_both}
use Rattle.report_text.specs.Cells.{layers_shown}
use Rattle.report_text.proofs.Shown.{member_inside, member_out}
use Rattle.report_text.proofs.state.write_member.Goals as goal

pub returns-in_err-write_view-in-Some : goal.returns-in_err-write_view-in-Some
returns-in_err-write_view-in-Some g c =
    let m = shown_in (g.S.Feed.group c.args.group.now) c.args.id in
    let p = err_from_is_err_and c.from_residual.result c.from_residual.ensures.1 in
    rw (p.1, p.2) (part_of _ _ _ (layers_shown (stack_tree c.args.stack.now) c.args.id m) _ _
    (sym (member_inside (stack_tree c.args.stack.now) c.args.id m _ c.in-Some.ensures))
    c.in_err-write_view-in-Some.ensures)

pub returns-in_ok-write_view-in-Some : goal.returns-in_ok-write_view-in-Some
returns-in_ok-write_view-in-Some g c =
    let m = shown_in (g.S.Feed.group c.args.group.now) c.args.id in
    wrote_as _ _ _ _ _ (member_inside (stack_tree c.args.stack.now) c.args.id m _ c.in-Some.ensures)
    (wrote_both _ _ _ _ _ _ c.in_ok-write_view-in-Some.ensures c.write_layers.ensures)

pub returns-in-None : goal.returns-in-None
returns-in-None g c =
    let m = shown_in (g.S.Feed.group c.args.group.now) c.args.id in
    wrote_as _ _ _ _ _ (member_out (stack_tree c.args.stack.now) c.args.id m c.in-None.ensures) c.write_out.ensures

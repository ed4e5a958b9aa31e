use Rattle.std.proofs.Common.{◌≡◌, ◌∙◌, Some, sym, ap, arith}
use Rattle.stack_judge.specs.Answer.{stack_tree}
use Rattle.msg_core.specs.View.{rank}
use Rattle.live_layer.specs.Making.{making}
use Rattle.group_member.proofs.Making.{opening}
use Rattle.group_member.proofs.Viewing.{rank_below}
use Rattle.group_member.proofs.opens.open_works.Goals as goal

pub make_layers-requires-clause-members : goal.make_layers-requires-clause-members
make_layers-requires-clause-members c =
    let below = rank_below c.args.view c.args.id c.in-Some.me (sym c.rank.ensures ∙ c.in-Some.is) in
    (omega (arith, below, c.from.ensures, c.member_count.ensures.count), c.member_count.ensures.few)

pub returns-in-Ok : goal.returns-in-Ok
returns-in-Ok c =
    let at : rank c.args.view c.args.id ≡ Some c.from.result = sym c.rank.ensures ∙ c.in-Some.is ∙
    ap Some (sym c.from.ensures) in
    opening (stack_tree c.args.stack.now) c.args.view c.args.id c.from.result c.member_count.result c.args.rows
    (making c.args.maker.now)
    (making c.make_layers.new.maker) _ at c.member_count.ensures.count c.requires.rows c.requires.few
    c.requires.same
    (c.in-Ok.ensures.pool ∙ c.in_ok-pool.ensures) c.in-Ok.ensures.all
    record { tasks = c.in_ok-lists.ensures.tasks; outs = c.in_ok-lists.ensures.outs }

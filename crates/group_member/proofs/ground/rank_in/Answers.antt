use Rattle.std.proofs.Common.{◌∙◌, sym, arith}
use Rattle.group_member.proofs.Viewing.{rank_below}
use Rattle.group_member.proofs.ground.rank_in.Goals as goal

pub returns-in-Some-clause-few : goal.returns-in-Some-clause-few
returns-in-Some-clause-few c =
    let below = rank_below c.args.view c.args.id c.in-Some.rank (sym c.rank.ensures ∙ c.in-Some.is) in
    omega (arith, below, c.member_count-members.ensures.count, c.member_count-members.ensures.few)

use Rattle.std.proofs.Common.{arith}
use Rattle.family_group.proofs.Steps.{happened, happened_idly}
use Rattle.family_group.proofs.playing.feed_one.Goals as goal

pub returns-then-member_of-members-clause-fed : goal.returns-then-member_of-members-clause-fed
returns-then-member_of-members-clause-fed g c = λ w stands is.
    happened_idly (g.G.Feed.group c.args.group.now) w c.args.event.now
    (omega (arith, c.requires.members, c.member_of.ensures, c.if-member_of-members.true)) stands

pub returns-clause-fed : goal.returns-clause-fed
returns-clause-fed g c = λ w stands is.
    happened _ _ _ _ _ _ _ _ _ (c.in_ok-did.ensures.fed w stands) is c.is_taken.ensures

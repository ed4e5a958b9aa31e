use Rattle.group_peer.proofs.Others.{member_below}
use Rattle.group_peer.proofs.receivers.receivers.Goals as goal

pub bit_of-requires : goal.bit_of-requires
bit_of-requires c = member_below c.args.view c.in-Rank.rank c.in-Some.id c.member_at.result c.member_at.ensures
    c.in-Some.is

use Rattle.std.proofs.Common.{arith}
use Rattle.group_feed.proofs.Standing.{count_packets}
use Rattle.family_group.proofs.playing.sent.Goals as goal

pub returns : goal.returns
returns g c = λ w stands.
    let n = count_packets (g.G.Feed.group c.args.group.now) w stands in
    omega (arith, n, c.next_number.ensures.number)

use Rattle.std.proofs.Common.{ap, length, arith}
use Rattle.group_world.proofs.Arena.{count_of}
use Rattle.group_world.proofs.packets.Packets.len.Goals as goal

pub returns-clause-count : goal.returns-clause-count
returns-clause-count c =
    let count = count_of c.self.inside.bytes.items 0 c.self.inside.ends.items in
    let shown = ap length c.self.view_is in
    omega (arith, count, shown)

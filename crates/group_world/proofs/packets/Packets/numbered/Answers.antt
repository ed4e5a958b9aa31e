use Rattle.std.proofs.Common.{arith, rules}
use Rattle.group_world.proofs.Arena.{numbered_is, none_numbered}
use Rattle.group_world.proofs.packets.Packets.numbered.Goals as goal

pub returns-then-index-len : goal.returns-then-index-len
returns-then-index-len c = none_numbered _ _ _ _ c.self.view_is c.if-number-eq0.false (omega arith)

pub returns : goal.returns
returns c = numbered_is _ _ _ _ _ c.self.view_is c.if-number-eq0.false (search rules)

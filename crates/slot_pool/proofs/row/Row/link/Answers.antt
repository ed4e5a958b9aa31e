use Rattle.std.proofs.Common.{refl}
use Rattle.slot_pool.proofs.Spots.{there, changes}
use Rattle.slot_pool.proofs.row.Row.link.Goals as goal

pub at_mut-requires : goal.at_mut-requires
at_mut-requires c = there c.self.inside.block.values c.self.inside.long.values _ _ _ c.self.view_is c.requires

pub returns : goal.returns
returns c =
    changes c.self.inside.block.values c.self.inside.long.values _ _ _ c.self.view_is _ c.requires
    c.at_mut.ensures.value
    (λ s. record s { next = c.args.next }) _ refl

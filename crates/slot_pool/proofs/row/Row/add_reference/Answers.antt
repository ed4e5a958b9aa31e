use Rattle.std.proofs.Common.{get_or, [], ◌+◌, ◌<◌, ap, subst}
use Rattle.slot_pool.specs.Spots.{Spot, spot}
use Rattle.slot_pool.proofs.Spots.{there, seen_read, changes}
use Rattle.slot_pool.proofs.row.Row.add_reference.Goals as goal

pub at_mut-requires : goal.at_mut-requires
at_mut-requires c = there c.self.inside.block.values c.self.inside.long.values _ _ _ c.self.view_is c.requires.there

pub add_reference-requires : goal.add_reference-requires
add_reference-requires c =
    subst (λ (s : Spot). s.count < 4294967295)
    (seen_read c.self.inside.block.values c.self.inside.long.values _ _ _ c.self.view_is _ c.requires.there
    c.at_mut.ensures.value) c.requires.few

pub returns : goal.returns
returns c =
    changes c.self.inside.block.values c.self.inside.long.values _ _ _ c.self.view_is _ c.requires.there
    c.at_mut.ensures.value
    (λ s. record s { count = s.count + 1 }) c.add_reference.new.self
    (ap (λ p. spot p (get_or c.self.inside.long.values c.args.index [])) c.add_reference.ensures)

use Rattle.std.proofs.Common.{get_or, [], ◌≡◌, ◌-◌, ◌<◌, ◌↔◌, ap, sym, subst}
use Rattle.std.specs.Prelude.{IsTrue}
use Rattle.slot_pool.specs.Spots.{Spot, spot}
use Rattle.slot_pool.proofs.Spots.{there, seen_read, changes}
use Rattle.slot_pool.proofs.row.Row.end_reference.Goals as goal

pub at_mut-requires : goal.at_mut-requires
at_mut-requires c = there c.self.inside.block.values c.self.inside.long.values _ _ _ c.self.view_is c.requires.there

pub end_reference-requires : goal.end_reference-requires
end_reference-requires c =
    subst (λ (s : Spot). 0 < s.count)
    (seen_read c.self.inside.block.values c.self.inside.long.values _ _ _ c.self.view_is _ c.requires.there
    c.at_mut.ensures.value) c.requires.used

pub returns-clause-places : goal.returns-clause-places
returns-clause-places c =
    changes c.self.inside.block.values c.self.inside.long.values _ _ _ c.self.view_is _ c.requires.there
    c.at_mut.ensures.value
    (λ s. record s { count = s.count - 1 }) c.end_reference.new.self
    (ap (λ p. spot p (get_or c.self.inside.long.values c.args.index [])) c.end_reference.ensures.place)

pub returns-clause-last : goal.returns-clause-last
returns-clause-last c =
    subst (λ (s : Spot). IsTrue c.end_reference.result ↔ (s.count ≡ 1))
    (sym (seen_read c.self.inside.block.values c.self.inside.long.values _ _ _ c.self.view_is _ c.requires.there
    c.at_mut.ensures.value))
    c.end_reference.ensures.last

use Rattle.std.proofs.Common.{ap, ◌∙◌, arith, rules}
use Rattle.slot_pool.specs.declared.slot_record.SlotRecord.{SlotRecord}
use Rattle.slot_pool.proofs.Spots.{there, sets_short, are_long, sets_long}
use Rattle.slot_pool.proofs.row.Row.hold.Goals as goal

pub at_mut-requires : goal.at_mut-requires
at_mut-requires c = there c.self.inside.block.values c.self.inside.long.values _ _ _ c.self.view_is c.requires.there

pub reach-requires-clause-there : goal.reach-requires-clause-there
reach-requires-clause-there c =
    let lt = there c.self.inside.block.values c.self.inside.long.values _ _ _ c.self.view_is c.requires.there in
    omega (arith, c.self.invariant.same, c.self.invariant.within)

pub at_mut-requires-else-body-le-SHORT : goal.at_mut-requires-else-body-le-SHORT
at_mut-requires-else-body-le-SHORT c = there c.self.inside.block.values c.self.inside.long.values _ _ _ c.self.view_is
    c.requires.there

pub invariant_of-self-else-body-le-SHORT : goal.invariant_of-self-else-body-le-SHORT
invariant_of-self-else-body-le-SHORT c =
    are_long _ _ _ _ _ c.reach.ensures c.self.invariant
    (there c.self.inside.block.values c.self.inside.long.values _ _ _ c.self.view_is c.requires.there) _ _

pub returns-then-body-le-SHORT : goal.returns-then-body-le-SHORT
returns-then-body-le-SHORT c =
    sets_short c.self.inside.block.values c.self.inside.long.values _ _ _ c.self.view_is c.hold.new.self c.args.body.now
    c.requires.there
    (search rules) (search rules) (search rules) (omega arith)

pub returns-else-body-le-SHORT : goal.returns-else-body-le-SHORT
returns-else-body-le-SHORT c =
    sets_long _ _ _ _ _ c.reach.ensures c.self.invariant
    (there c.self.inside.block.values c.self.inside.long.values _ _ _ c.self.view_is c.requires.there) _ c.self.view_is
    c.hold_elsewhere.new.self c.write_front.new.bytes c.args.body.now
    (ap (λ (p : SlotRecord). p.count) c.hold_elsewhere.ensures)
    (ap (λ (p : SlotRecord). p.len) c.hold_elsewhere.ensures ∙ search rules) (search rules) (omega arith)

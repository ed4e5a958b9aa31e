use Rattle.std.proofs.Common.{◌∷◌, [], length, ap, sym, subst, arith, length-append}
use Rattle.raw_block.specs.Run.{Run}
use Rattle.slot_pool.specs.Spots.{Spot, ArePlaces}
use Rattle.slot_pool.specs.declared.slot_record.SlotRecord.{SlotRecord}
use Rattle.slot_pool.proofs.Spots.{count_is, length_joined, push_places, adds}
use Rattle.slot_pool.proofs.row.Row.push.Goals as goal

pub push-requires : goal.push-requires
push-requires c =
    let count = count_is c.self.inside.block.values c.self.inside.long.values _ 0 _ c.self.view_is in
    let room = ap (λ (r : Run Spot). r.capacity) c.self.view_is in omega (arith, c.requires.room)

pub invariant_of-self : goal.invariant_of-self
invariant_of-self c =
    let count = count_is c.self.inside.block.values c.self.inside.long.values _ 0 _ c.self.view_is in
    let room = ap (λ (r : Run Spot). r.capacity) c.self.view_is in
    subst (λ (b : Run SlotRecord). ArePlaces b.values c.self.inside.long.values b.capacity c.self.inside.long.capacity)
    (sym c.push.ensures)
    (push_places _ _ _ _ c.self.invariant c.new.result (omega (arith, c.requires.room)) c.new.ensures)

pub hold-requires-clause-there : goal.hold-requires-clause-there
hold-requires-clause-there c =
    let joined = length_joined c.push.new.self.values c.self.inside.long.values in
    let pushed = ap (λ (b : Run SlotRecord). length b.values) c.push.ensures in
    let more = length-append c.self.inside.block.values (c.new.result ∷ []) in omega (arith, c.len-last.ensures)

pub returns : goal.returns
returns c =
    adds c.self.inside.block.values c.self.inside.long.values _ _ c.self.view_is c.new.result c.push.new.self
    c.hold.new.self c.len-last.result c.args.body.now
    c.push.ensures c.len-last.ensures c.self.invariant.fewer c.hold.ensures

use Rattle.std.proofs.Common.{◌∙◌, ap, arith, rules, ◌∷◌, [], ◌++◌}
use Rattle.packet_full.specs.Sent.{sent_packet}
use Rattle.run_mean.specs.Common.{wire}
use Rattle.stack_shapes.specs.Trees.{plans_tree}
use Rattle.group_world.proofs.Arena.{put_is, ends_are}
use Rattle.group_world.proofs.packets.Packets.put.Goals as goal

pub put_wire-requires : goal.put_wire-requires
put_wire-requires c =
    let room = c.wire_room_of.ensures c.args.here.now in
    omega (arith, room, c.in_ok-make_room.ensures.ok)

pub invariant_of-self-2 : goal.invariant_of-self-2
invariant_of-self-2 c =
    let p = c.args.packet.now in
    let more = wire (plans_tree c.args.plans.now) (sent_packet c.args.here.now p.dest p.headers.now p.body.now) p.plan
    in
    ends_are c.self.inside.bytes.items more c.put_wire.new.into.items c.self.inside.ends.items
    c.push_reserved.new.self.items c.len-end.result
    (c.put_wire.ensures ∙ ap (λ xs. xs ++ more) c.make_room.ensures.items)
    (c.push_reserved.ensures.items ∙ ap (λ xs. xs ++ c.len-end.result ∷ []) c.reserve.ensures.items)
    (search rules) c.self.invariant

pub returns : goal.returns
returns c =
    let p = c.args.packet.now in
    let more = wire (plans_tree c.args.plans.now) (sent_packet c.args.here.now p.dest p.headers.now p.body.now) p.plan
    in
    put_is c.self.inside.bytes.items more c.put_wire.new.into.items c.self.inside.ends.items
    c.push_reserved.new.self.items c.len-end.result
    c.args.self.now c.self.view_is
    (c.put_wire.ensures ∙ ap (λ xs. xs ++ more) c.make_room.ensures.items)
    (c.push_reserved.ensures.items ∙ ap (λ xs. xs ++ c.len-end.result ∷ []) c.reserve.ensures.items)
    (search rules) c.self.invariant

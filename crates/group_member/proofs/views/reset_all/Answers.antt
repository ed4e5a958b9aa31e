use Rattle.std.proofs.Common.{◌<◌, ◌≤◌, drop, flat_map, length, suc, arith, add-one}
use Rattle.pool_message.proofs.Lists.{covers_front}
use Rattle.live_layer.specs.Layer.{refs_of}
use Rattle.group_member.proofs.Resetting.{next_is, reset_one}
use Rattle.group_member.proofs.Resetting as resetting
use Rattle.group_member.proofs.views.reset_all.Goals as goal

pub reset-requires-clause-covers : goal.reset-requires-clause-covers
reset-requires-clause-covers c =
    let within : c.loop-index.index < length c.args.layers.now.items =
    omega (arith, c.loop-index-test.true, c.loop-index.invariant.size) in
    let next = next_is _ _ _ c.loop-index.index _ _ _ _ c.index_mut-layer.result.now c.loop-index.invariant within
    c.index_mut-layer.ensures.value in
    covers_front _ (refs_of c.index_mut-layer.result.now)
    (flat_map refs_of (drop (suc c.loop-index.index) c.args.layers.now.items)) next.covers

pub loop-index-preserved : goal.loop-index-preserved
loop-index-preserved c =
    let within : c.loop-index.index < length c.args.layers.now.items =
    omega (arith, c.loop-index-test.true, c.loop-index.invariant.size) in
    rw add-one
    (reset_one _ _ _ c.loop-index.index _ _ _ _ c.index_mut-layer.result.now c.loop-index.invariant within
    c.index_mut-layer.ensures.value _ _
    c.reset.ensures.returned c.reset.ensures.begun)

pub returns : goal.returns
returns c =
    let past : length c.args.layers.now.items ≤ c.loop-index.index =
    omega (arith, c.loop-index-test.false, c.len-index-end.ensures) in
    resetting.reset_all _ _ _ _ _ _ _ c.loop-index.index past c.loop-index.invariant

use Rattle.std.proofs.Common.{◌∙◌, ◌<◌, List, take, length, suc, sym, ap, subst, arith, add-one, rules}
use Rattle.layer_mean.specs.Tree.{LayerTree}
use Rattle.live_layer.specs.Layer.{IsBegun}
use Rattle.live_layer.specs.Making.{Making, making}
use Rattle.live_layer.specs.declared.layer.FileLayer.{FileLayer}
use Rattle.group_member.specs.Making.{AreFresh}
use Rattle.group_member.proofs.Making.{fresh_at}
use Rattle.group_member.proofs.opens.make_layers.Goals as goal

pub close_layers-requires-clause-order : goal.close_layers-requires-clause-order
close_layers-requires-clause-order c = c.loop-place.invariant.fresh_are.order c.loop-place.pool

pub loop-place-preserved : goal.loop-place-preserved
loop-place-preserved c =
    let within : c.loop-place.place < length (making c.args.maker.now).stack =
    omega (arith, c.loop-place-test.true, c.requires.places) in
    let membership = c.args.membership in
    let begun = subst (λ (trees : List LayerTree).
    IsBegun trees c.loop-place.place membership.me membership.count membership.ltime c.in-Ok.layer)
    c.loop-place.invariant.making_is.same c.in-Ok.ensures.begun in record {
      fresh_are = rw add-one
          (subst (λ (layers : List FileLayer).
          AreFresh membership.me membership.count membership.ltime (take (suc c.loop-place.place)
          (making c.args.maker.now).stack) layers)
          (sym c.push_reserved.ensures.items)
          (fresh_at membership.me membership.count membership.ltime (making c.args.maker.now).stack c.loop-place.place
          c.loop-place.layers.items c.in-Ok.layer
          within
          c.loop-place.invariant.fresh_are begun));
      making_is = record {
        same = ap (λ (m : Making). m.stack) c.in-Ok.ensures.maker ∙ c.loop-place.invariant.making_is.same;
        made = let one = ap (λ (m : Making). m.made) c.in-Ok.ensures.maker in let before =
            c.loop-place.invariant.making_is.made in omega arith;
      };
      count = search rules;
      room = search rules;
      pool = c.loop-place.invariant.pool;
    }

use Rattle.std.proofs.Common.{rules, arith}
use Rattle.msg_core.specs.Parts as parts
use Rattle.live_layer.specs.Ready.{stock_of}
use Rattle.live_layer.proofs.Lists.{items_are}
use Rattle.live_layer.proofs.Ready.{changed_fits}
use Rattle.live_layer.proofs.lifts.tail.Goals as goal

pub returns-in-Some-clause-ready : goal.returns-in-Some-clause-ready
returns-in-Some-clause-ready g c =
    let step = changed_fits g.K.Start.begun c.args.pool.now c.args.pool.now (stock_of c.args.desk.now) c.requires.pool
    c.requires.fits
    (λ m. parts.tail m c.args.from) c.take_last.new.hand.items c.in-Some.message c.tail.result c.push.new.self.items
    c.in-Some.ensures.some (items_are _ _ _ c.push.ensures) c.tail.ensures (omega arith) in
    record {
      pool = step.0;
      layout = search rules;
      fits = step.1;
      numbers = search rules;
      messages =
          search rules;
      forms = search rules;
      sent = search rules;
    }

use Rattle.std.proofs.Common.{rules, arith}
use Rattle.msg_core.specs.Parts as parts
use Rattle.live_layer.specs.Ready.{stock_of}
use Rattle.live_layer.proofs.Lists.{items_are}
use Rattle.live_layer.proofs.Ready.{changed_fits}
use Rattle.live_layer.proofs.lifts.cut.Goals as goal

pub returns-in-Some-clause-ready : goal.returns-in-Some-clause-ready
returns-in-Some-clause-ready g c =
    let step = changed_fits g.K.Start.begun c.args.pool.now c.args.pool.now (stock_of c.args.desk.now) c.requires.pool
    c.requires.fits
    (λ m. parts.cut m c.args.from c.args.count) c.take_last.new.hand.items c.in-Some.message c.cut.result
    c.push.new.self.items
    c.in-Some.ensures.some (items_are _ _ _ c.push.ensures) c.cut.ensures (omega arith) in
    record {
      pool = step.0;
      layout = search rules;
      fits = step.1;
      numbers = search rules;
      messages =
          search rules;
      forms = search rules;
      sent = search rules;
    }

use Rattle.std.proofs.Common.{rules, sym, ap, subst, ◌∙◌}
use Rattle.live_layer.specs.Ready.{stock_of, IsReady}
use Rattle.live_layer.specs.Stock.{laid}
use Rattle.live_layer.proofs.ReadyScope.{arrived_back}
use Rattle.live_layer.proofs.leaves.forget_rest.Goals as goal

pub returns-clause-ready : goal.returns-clause-ready
returns-clause-ready g c =
    let step = arrived_back g.K.Start.begun c.args.pool.now c.drop_arrived.new.pool (stock_of c.args.desk.now)
    c.requires.pool c.requires.fits
    c.clear.new.self.items c.clear.ensures.items c.drop_arrived.ensures.returned in
    subst (λ t. IsReady g.K.Start.begun c.drop_arrived.new.pool
    (record c.args.desk.now { numbers = c.clear.new.self; tray = t })) (sym c.drop_arrived.ensures.gone) record {
      pool = step.0;
      layout = search rules;
      fits = step.1;
      numbers = search rules;
      messages = c.requires.messages;
      forms = c.requires.forms;
      sent = c.requires.sent;
    }

pub returns-clause-shown : goal.returns-clause-shown
returns-clause-shown g c =
    ap (λ t. laid c.drop_arrived.new.pool (stock_of (record c.args.desk.now { numbers = c.clear.new.self; tray = t })))
    c.drop_arrived.ensures.gone ∙
    (arrived_back g.K.Start.begun c.args.pool.now c.drop_arrived.new.pool (stock_of c.args.desk.now) c.requires.pool
    c.requires.fits
    c.clear.new.self.items c.clear.ensures.items c.drop_arrived.ensures.returned).2

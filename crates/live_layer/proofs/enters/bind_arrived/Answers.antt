use Rattle.std.proofs.Common.{refl, ap, ◌∙◌}
use Rattle.live_layer.specs.Ready.{stock_of}
use Rattle.live_layer.specs.Stock.{laid}
use Rattle.live_layer.proofs.ReadyScope.{arrived_in}
use Rattle.live_layer.proofs.Tray.{tray_ready}
use Rattle.live_layer.proofs.enters.bind_arrived.Goals as goal

pub returns-clause-ready : goal.returns-clause-ready
returns-clause-ready g c =
    let step = arrived_in g.K.Start.begun c.args.pool.now (stock_of c.args.desk.now) c.requires.ready.pool
    c.requires.ready.fits c.requires.empty c.requires.short in
    tray_ready g.K.Start.begun c.args.pool.now c.args.pool.now c.args.desk.now _ _ c.requires.ready c.bind.ensures
    step.0 step.1 refl c.requires.ready.sent

pub returns-clause-shown : goal.returns-clause-shown
returns-clause-shown g c =
    ap (λ t. laid c.args.pool.now (stock_of (record c.args.desk.now { tray = t }))) c.bind.ensures ∙
    (arrived_in g.K.Start.begun c.args.pool.now (stock_of c.args.desk.now) c.requires.ready.pool c.requires.ready.fits
    c.requires.empty c.requires.short).2
